use Rattle.std.proofs.Common.{◌≡◌, ◌+◌, drop}
use Rattle.fh_model.specs.Content.{size_of}
use Rattle.name_core.proofs.files.size_of.Given as goal

abbrev pub invariant-loop-piece : goal.invariant-loop-piece
invariant-loop-piece l = l.size + size_of (drop l.piece-index l.pieces) ≡ size_of l.pieces
