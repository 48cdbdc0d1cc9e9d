use Rattle.std.proofs.Common.{◌≡◌, ◌++◌, List, ℕ, length}
use Rattle.content_hash.specs.Hashing.{HasTaken}
use Rattle.content_hash.proofs.hasher.Hasher.update.Given as goal

-- what was cut off in front has been taken in
abbrev pub invariant-loop-rest : goal.invariant-loop-rest
invariant-loop-rest l = (content : List ℕ) → HasTaken l.fn.self content → (front : List ℕ) × (l.bytes ≡ front ++ l.rest) × HasTaken l.self (content ++ front)

abbrev pub decreases-loop-rest : goal.decreases-loop-rest
decreases-loop-rest l = length l.rest
