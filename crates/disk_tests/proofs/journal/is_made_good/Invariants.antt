use Rattle.std.proofs.Common.{◌≡◌, ℕ, List, false}
use Rattle.gate_journal.specs.Journal.{is_pending, IsSettled}
use Rattle.fh_world.specs.Memory.{memory_seen, memory_may_leave}
use Rattle.disk_tests.proofs.journal.is_made_good.Given as goal

abbrev pub invariant-loop-done : goal.invariant-loop-done
invariant-loop-done l = record {
  idle : is_pending l.journal ≡ false;
  settled : (bodies : List (List ℕ)) × IsSettled (memory_seen l.disk) (memory_may_leave l.disk) l.journal bodies;
}
