use Rattle.std.proofs.Common.{◌≡◌, Ok, map, take}
use Rattle.store_core.specs.Bodies.{bodies_from}
use Rattle.store_core.specs.declared.bodies.Body.TheVariants as body
use Rattle.store_core.proofs.making.records_of.Given as goal

abbrev pub invariant-loop-row : goal.invariant-loop-row
invariant-loop-row l = bodies_from 0 l.records.items ≡ Ok (map body.Row (take l.row-index l.rows))
