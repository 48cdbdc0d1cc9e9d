use Rattle.std.proofs.Common.{◌≡◌, drop}
use Rattle.fh_model.specs.Places.{place_of_id}
use Rattle.name_core.proofs.machine.Machine.place_of_id.Given as goal

abbrev pub invariant-loop-number : goal.invariant-loop-number
invariant-loop-number l = place_of_id l.self l.id (drop l.number-index l.numbers) ≡ place_of_id l.self l.id l.numbers
