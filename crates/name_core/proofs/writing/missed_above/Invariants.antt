use Rattle.std.proofs.Common.{◌≡◌, ◌-◌, ◌≤◌, length}
use Rattle.name_core.proofs.Missed.{missed_to}
use Rattle.name_core.proofs.writing.missed_above.Given as goal

abbrev pub invariant-loop-count : goal.invariant-loop-count
invariant-loop-count l = (l.count - 1 ≤ length l.names - 1) × (l.missed.items ≡ missed_to l.tree l.names (l.count - 1))
