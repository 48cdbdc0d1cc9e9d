use Rattle.std.proofs.Common.{◌≡◌, map, take}
use Rattle.name_core.proofs.files.digests_of.Given as goal

abbrev pub invariant-loop-piece : goal.invariant-loop-piece
invariant-loop-piece l = l.digests.items ≡ map (λ piece. piece.digest) (take l.piece-index l.pieces)
