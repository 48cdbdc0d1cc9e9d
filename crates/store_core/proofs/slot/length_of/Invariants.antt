use Rattle.std.proofs.Common.{◌≡◌, ◌≤◌, ◌^◌, length, take}
use Rattle.gate_journal.specs.Slot.{records}
use Rattle.store_core.proofs.slot.length_of.Given as goal

abbrev pub invariant-loop-record : goal.invariant-loop-record
invariant-loop-record l = length (records l.records) ≤ 2 ^ 62 → l.place ≡ length (records (take l.record-index l.records))
