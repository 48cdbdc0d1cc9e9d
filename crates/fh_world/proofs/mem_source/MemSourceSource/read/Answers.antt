use Rattle.std.proofs.Common.{ap, Some}
use Rattle.fh_world.proofs.Parts.{take_more, drop_more}
use Rattle.fh_world.proofs.mem_source.MemSourceSource.read.Goals as goal

pub returns-clause-bytes : goal.returns-clause-bytes
returns-clause-bytes c =
    let now = c.args.self.now in
    let n = c.copy_from-count.result in
    record {
      gave = rw c.copy_from-count.ensures.copied (rw c.deref.ensures.value (ap Some (take_more now.bytes.items now.at n)));
      took = rw c.copy_from-count.ensures.copied (rw c.deref.ensures.value (ap Some (drop_more now.bytes.items now.at n)));
    }
