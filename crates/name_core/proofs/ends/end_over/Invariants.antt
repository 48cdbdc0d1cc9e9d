use Rattle.std.proofs.Common.{◌≡◌, ◌-◌, ◌^◌, min, max, drop}
use Rattle.fh_model.specs.Pieces.{last_end}
use Rattle.name_core.proofs.ends.end_over.Given as goal

abbrev pub invariant-loop-piece : goal.invariant-loop-piece
invariant-loop-piece l = max l.end (min (last_end (drop l.piece-index l.pieces)) (2 ^ 64 - 1)) ≡ max l.fn.end (min (last_end l.pieces) (2 ^ 64 - 1))
