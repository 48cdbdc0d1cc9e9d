use Rattle.std.proofs.Common.{◌≡◌, drop, length}
use Rattle.fh_model.specs.KeyOrder.{is_under}
use Rattle.fh_model.proofs.keys.is_under.Given as goal

abbrev pub invariant-loop-name : goal.invariant-loop-name
invariant-loop-name l = is_under (drop (length l.yielded) l.names) (drop (length l.yielded) l.base) ≡ is_under l.names l.base
