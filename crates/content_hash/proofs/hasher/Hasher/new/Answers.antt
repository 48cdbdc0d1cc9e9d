use Rattle.std.proofs.Common.{refl}
use Rattle.fh_model.specs.Content.{whole_blocks, last_part}
use Rattle.content_hash.proofs.hasher.Hasher.new.Goals as goal

pub returns : goal.returns
unfolding whole_blocks last_part
returns c = record { blocks = c.new.ensures; part = c.new-2.ensures; len = refl }
