use Rattle.std.proofs.Common.{◌≡◌, ℕ, List, false, IsTrue}
use Rattle.gate_journal.specs.Journal.{is_pending, Settled}
use Rattle.journal_bench.proofs.append_many.Given as goal

abbrev pub invariant-loop : goal.invariant-loop
invariant-loop g l = record {
  idle : is_pending l.journal ≡ false;
  settled : IsTrue g.D.Disk.tells → (bodies : List (List ℕ)) × Settled g.D.Disk l.disk l.journal bodies;
}
