use Rattle.std.proofs.Common.{◌≡◌, ℕ, List, false, IsTrue}
use Rattle.gate_journal.specs.Journal.{is_pending, Settled}
use Rattle.disk_tests.proofs.journal.append_all.Given as goal

abbrev pub invariant-loop-done : goal.invariant-loop-done
invariant-loop-done g l = record {
  idle : is_pending l.journal ≡ false;
  settled : IsTrue g.D.Disk.tells → (bodies : List (List ℕ)) × Settled g.D.Disk l.disk l.journal bodies;
}
