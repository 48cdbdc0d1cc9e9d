use Rattle.std.proofs.Common.{arith}
use Rattle.store_core.proofs.PlaceLemmas.{front_within}
use Rattle.store_core.proofs.slot.place_of.Goals as goal

pub returns-then-index-records : goal.returns-then-index-records
returns-then-index-records c = λ fits. c.length_of.ensures (omega (arith, fits, front_within c.args.records.now c.args.index))
