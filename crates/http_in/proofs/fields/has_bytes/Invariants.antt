use Rattle.std.proofs.Common.{◌≡◌, ℕ, ◌<◌, get_or, IsTrue}
use Rattle.http_in.proofs.fields.has_bytes.Given as goal

abbrev pub invariant-loop-i : goal.invariant-loop-i
invariant-loop-i l = IsTrue l.same → (k : ℕ) → k < l.i → get_or l.name k 0 ≡ get_or l.wanted k 0
