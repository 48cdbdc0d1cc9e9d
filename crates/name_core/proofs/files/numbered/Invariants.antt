use Rattle.std.proofs.Common.{◌≡◌, ◌++◌, drop}
use Rattle.fh_model.specs.Pieces.{numbered}
use Rattle.name_core.proofs.files.numbered.Given as goal

abbrev pub invariant-loop-piece : goal.invariant-loop-piece
invariant-loop-piece l = (l.block ≡ l.piece-index) × (l.held ++ numbered l.block (drop l.piece-index l.pieces) ≡ numbered 0 l.pieces)
