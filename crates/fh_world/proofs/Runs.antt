-- What a crash leaves while a range is written and synced.
use Rattle.std.proofs.Common.{ℕ, ◌≤◌, List, ◌∙◌}
use Rattle.fh_world.specs.declared.disk.FileNo.{FileNo}
use Rattle.fh_world.specs.Disk.{Files, Writes, Rests, Elapses, LeavesOnly, LeavesTorn}
use Rattle.fh_world.proofs.Moments.{started, goes_on, joined, weaker}
use Rattle.fh_world.proofs.TornLemmas.{torn_same, torn_wider, torn_joined}

-- ---- two writes as one

-- a range that is longer
pub writes_wider : (file : FileNo) (at n m : ℕ) (seen_old seen_new : Files) (may_old may_new : FileNo → List ℕ → Type 0) → n ≤ m → Writes file at n seen_old seen_new may_old may_new → Writes file at m seen_old seen_new may_old may_new
writes_wider file at n m seen_old seen_new may_old may_new le writes = record {
  seen = torn_wider at n m _ _ le writes.seen;
  crash = λ c may. let from = writes.crash c may in (from.0, from.1, torn_wider at n m from.0 c le from.2);
  others_seen = writes.others_seen;
  others_crash = writes.others_crash;
}

-- one behind another in one range
pub writes_joined : (file : FileNo) (at n : ℕ) (seen_old seen_mid seen_new : Files) (may_old may_mid may_new : FileNo → List ℕ → Type 0) → Writes file at n seen_old seen_mid may_old may_mid
    → Writes file at n seen_mid seen_new may_mid may_new → Writes file at n seen_old seen_new may_old may_new
writes_joined file at n seen_old seen_mid seen_new may_old may_mid may_new first second = record {
  seen = torn_joined at n _ _ _ first.seen second.seen;
  crash = λ c may.
      let behind = second.crash c may in
      let from = first.crash behind.0 behind.1 in
      (from.0, from.1, torn_joined at n from.0 behind.0 c from.2 behind.2);
  others_seen = λ g other. second.others_seen g other ∙ first.others_seen g other;
  others_crash = λ g other c may. first.others_crash g other c (second.others_crash g other c may);
}

-- ---- every moment of a call that writes

module _ {D : Type 0} (moment : D → ℕ) (left_since : D → ℕ → Files → Type 0) (may_leave : D → FileNo → List ℕ → Type 0) where
  -- nothing was called
  pub no_run : (only_now : (d : D) (image : Files) → left_since d (moment d) image → (g : FileNo) → may_leave d g (image g)) (old : D) (file : FileNo) (at n : ℕ)
      → LeavesOnly moment left_since old old (LeavesTorn file at n (may_leave old))
  no_run only_now old file at n = started moment left_since old (LeavesTorn file at n (may_leave old)) (λ image left. record {
    torn = (image file, only_now old image left file, torn_same at n (image file));
    others = λ g other. only_now old image left g;
  })

  -- a range that is longer
  pub run_wider : (old new : D) (file : FileNo) (at n m : ℕ) → n ≤ m → LeavesOnly moment left_since old new (LeavesTorn file at n (may_leave old)) → LeavesOnly moment left_since old new (LeavesTorn file at m (may_leave old))
  run_wider old new file at n m le run = weaker moment left_since old new _ _ run (λ image l. record {
    torn = (l.torn.0, l.torn.1, torn_wider at n m l.torn.0 (image file) le l.torn.2);
    others = l.others;
  })

  -- one call behind another in one range
  pub run_joined : (old mid new : D) (file : FileNo) (at n : ℕ) (seen_old seen_mid : Files) → Writes file at n seen_old seen_mid (may_leave old) (may_leave mid)
      → LeavesOnly moment left_since old mid (LeavesTorn file at n (may_leave old)) → LeavesOnly moment left_since mid new (LeavesTorn file at n (may_leave mid))
      → LeavesOnly moment left_since old new (LeavesTorn file at n (may_leave old))
  run_joined old mid new file at n seen_old seen_mid writes first second =
      joined moment left_since old mid new _ first (weaker moment left_since mid new _ _ second (λ image l.
      let from = writes.crash l.torn.0 l.torn.1 in
      record {
        torn = (from.0, from.1, torn_joined at n from.0 l.torn.0 (image file) from.2 l.torn.2);
        others = λ g other. writes.others_crash g other (image g) (l.others g other);
      }))

module _ {D : Type 0} (moment : D → ℕ) (left_since : D → ℕ → Files → Type 0) (may_leave : D → FileNo → List ℕ → Type 0) (seen : D → Files) (only_now : (d : D) (image : Files) → left_since d (moment d) image → (g : FileNo) → may_leave d g (image g)) (old mid : D) (file : FileNo) (at n : ℕ) (time : Elapses (moment old) (moment mid) (left_since old) (left_since mid) (may_leave mid)) (writes : Writes file at n (seen old) (seen mid) (may_leave old) (may_leave mid)) where
  torn : (image : Files) → ((g : FileNo) → may_leave mid g (image g)) → LeavesTorn file at n (may_leave old) image
  torn image now = record { torn = writes.crash (image file) (now file); others = λ g other. writes.others_crash g other (image g) (now g) }

  -- a write
  pub written_run : LeavesOnly moment left_since old mid (LeavesTorn file at n (may_leave old))
  written_run =
      goes_on moment left_since old old mid (LeavesTorn file at n (may_leave old)) (may_leave mid) (no_run moment left_since may_leave only_now old file at n) time torn

  -- a sync behind it
  pub synced_run : (new : D) → Elapses (moment mid) (moment new) (left_since mid) (left_since new) (may_leave new) → Rests (seen mid) (seen new) (may_leave mid) (may_leave new) → LeavesOnly moment left_since old new (LeavesTorn file at n (may_leave old))
  synced_run new later rests =
      goes_on moment left_since old mid new (LeavesTorn file at n (may_leave old)) (may_leave new) written_run later (λ image now. torn image (λ g. rests.crash g (image g) (now g)))
