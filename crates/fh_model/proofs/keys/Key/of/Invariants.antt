use Rattle.std.proofs.Common.{◌≡◌, take}
use Rattle.fh_model.specs.Keys.{key_of}
use Rattle.fh_model.proofs.keys.Key.of.Given as goal

abbrev pub invariant-loop-name : goal.invariant-loop-name
invariant-loop-name l = l.folded.items ≡ key_of (take l.name-index l.names)
