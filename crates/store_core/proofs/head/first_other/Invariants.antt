use Rattle.std.proofs.Common.{◌≡◌, ◌+◌, drop}
use Rattle.store_core.specs.Head.{first_other}
use Rattle.store_core.proofs.head.first_other.Given as goal

abbrev pub invariant-loop-code : goal.invariant-loop-code
invariant-loop-code l = (l.place ≡ 1 + l.code-index) × (first_other l.place (drop l.code-index l.text) l.rest ≡ first_other 1 l.text l.bytes)
