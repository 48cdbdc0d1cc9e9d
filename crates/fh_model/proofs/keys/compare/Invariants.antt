use Rattle.std.proofs.Common.{◌≡◌, drop, length}
use Rattle.fh_model.specs.KeyOrder.{key_cmp}
use Rattle.fh_model.proofs.keys.compare.Given as goal

abbrev pub invariant-loop-name : goal.invariant-loop-name
invariant-loop-name l = key_cmp (drop (length l.yielded) l.names) (drop (length l.yielded) l.others) ≡ key_cmp l.names l.others
