use Rattle.std.proofs.Common.{◌≡◌, ◌++◌, Ok, drop}
use Rattle.byte_formats.specs.Formats.{◌>>=◌}
use Rattle.store_core.specs.Bodies.{bodies_from}
use Rattle.store_core.proofs.bodies.bodies_of.Given as goal

abbrev pub invariant-loop-record : goal.invariant-loop-record
invariant-loop-record l = (l.index ≡ l.record-index) × (bodies_from 0 l.records ≡ (bodies_from l.record-index (drop l.record-index l.records) >>= λ more. Ok (l.bodies.items ++ more)))
