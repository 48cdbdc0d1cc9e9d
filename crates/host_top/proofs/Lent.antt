-- A run over parts that were lent, told of what they were lent of.
use Rattle.std.proofs.Common.{inl, inr, ℕ, List, Option}
use Rattle.std.specs.Borrow.{GName}
use Rattle.fh_world.specs.Disk.{Files, LeavesOnly}
use Rattle.fh_world.specs.declared.Disk as disk
use Rattle.fh_world.specs.declared.source.Source as source
use Rattle.fh_world.specs.declared.sink.Sink as sink
use Rattle.host_top.specs.Pipe.{PipeRan}
use Rattle.host_top.specs.declared.status.Status.{Status}

-- what a disk, a source and a sink mean where they are held by a part of something
abbrev pub disk_within : {D H : Type 0} → (H → D) → disk.Ghosts D → (H → List GName) → disk.Ghosts H
disk_within at d place = record {
  place = place;
  tells = d.tells;
  seen = λ x. d.seen (at x);
  may_leave = λ x. d.may_leave (at x);
  moment = λ x. d.moment (at x);
  left_since = λ x. d.left_since (at x);
  faults = λ x. d.faults (at x);
}

abbrev pub source_within : {S H : Type 0} → (H → S) → source.Ghosts S → (H → List GName) → source.Ghosts H
source_within at s place = record { place = place; given = λ x. s.given (at x); left = λ x. s.left (at x); faults = λ x. s.faults (at x) }

abbrev pub sink_within : {K H : Type 0} → (H → K) → sink.Ghosts K → (H → List GName) → sink.Ghosts H
sink_within at k place = record { place = place; held = λ x. k.held (at x); faults = λ x. k.faults (at x) }

module _ {D S K X Y Z : Type 0} (d : disk.Ghosts D) (s : source.Ghosts S) (k : sink.Ghosts K) (of_x : X → D) (of_y : Y → S) (of_z : Z → K)
    (place_x : X → List GName) (place_y : Y → List GName) (place_z : Z → List GName) (second : Option ℕ) (admin : List ℕ)
    (x x2 : X) (y y2 : Y) (z z2 : Z) (result : Status) where
  run_within : (P : Files → Type 0) → LeavesOnly (λ (h : X). d.moment (of_x h)) (λ (h : X). d.left_since (of_x h)) x x2 P → LeavesOnly d.moment d.left_since (of_x x) (of_x x2) P
  run_within P run = record { later = run.later; each = run.each; before = run.before }

  pub ran_lent : PipeRan (disk_within of_x d place_x) (source_within of_y s place_y) (sink_within of_z k place_z) second admin x x2 y y2 z z2 result
      → PipeRan d s k second admin (of_x x) (of_x x2) (of_y y) (of_y y2) (of_z z) (of_z z2) result
  ran_lent (inl h) = inl (record {
    start = h.start;
    kept = h.kept;
    waiting = h.waiting;
    count = h.count;
    unread = h.unread;
    end = h.end;
    is = h.is;
    from = h.from;
    served = h.served;
    stores = h.stores;
    crash = λ told. run_within _ (h.crash told);
    left = h.left;
  })
  ran_lent (inr h) = inr (record {
    fault = h.fault;
    is = h.is;
    said = h.said;
    rose = h.rose;
    moves = record { gave = h.moves.gave; took = h.moves.took };
    holds = h.holds;
    meaning = h.meaning;
    crash = λ told. run_within _ (h.crash told);
  })
