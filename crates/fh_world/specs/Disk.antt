-- What the calls of a disk do to its four files, and what a crash may leave of them.
use Rattle.std.specs.Prelude.{◌≡◌, ◌≢◌, ◌⊎◌, ℕ, ◌+◌, ◌≤◌, max, List, ◌++◌, length, take, drop}
use Rattle.fh_world.specs.declared.disk.FileNo.{FileNo}

-- the contents of the four files
abbrev pub Files : Type 0
Files = FileNo → List ℕ

-- new is old with these bytes at this place
abbrev pub Overwritten : ℕ → List ℕ → List ℕ → List ℕ → Type 0
Overwritten at bytes old new = new ≡ take at old ++ bytes ++ drop (at + length bytes) old

-- n bytes at a place may be anything, and so may what lies past the old end; all else is the same
pub record Torn (at n : ℕ) (old new : List ℕ) : Type 0 where
  pub before : take at new ≡ take at old
  pub after : drop (at + n) new ≡ drop (at + n) old
  pub no_shorter : length old ≤ length new
  pub no_longer : length new ≤ max (length old) (at + n)

-- each new outcome of a crash is an old outcome after a step
abbrev pub Follows : (List ℕ → List ℕ → Type 0) → (List ℕ → Type 0) → (List ℕ → Type 0) → Type 0
Follows step old new = (c : List ℕ) → new c → (d : List ℕ) × old d × step d c

-- a crash leaves this and nothing else
abbrev pub Only : List ℕ → (List ℕ → Type 0) → Type 0
Only content outcomes = (c : List ℕ) → outcomes c → c ≡ content

-- what a read gives stays, and a crash leaves nothing new
pub record Rests (seen_old seen_new : Files) (may_old may_new : FileNo → List ℕ → Type 0) : Type 0 where
  pub seen : (g : FileNo) → seen_new g ≡ seen_old g
  pub crash : (g : FileNo) (c : List ℕ) → may_new g c → may_old g c

-- n bytes of one file are written, in whole or in part
pub record Writes (file : FileNo) (at n : ℕ) (seen_old seen_new : Files) (may_old may_new : FileNo → List ℕ → Type 0) : Type 0 where
  pub seen : Torn at n (seen_old file) (seen_new file)
  pub crash : Follows (Torn at n) (may_old file) (may_new file)
  pub others_seen : (g : FileNo) → g ≢ file → seen_new g ≡ seen_old g
  pub others_crash : (g : FileNo) → g ≢ file → (c : List ℕ) → may_new g c → may_old g c

-- Time goes on: a crash since t might have left what it might have left before, or what it may leave now.
pub record Elapses (before now : ℕ) (past since : ℕ → Files → Type 0) (may_leave : FileNo → List ℕ → Type 0) : Type 0 where
  pub later : before ≤ now
  pub nothing_else : (t : ℕ) (image : Files) → t ≤ before → since t image → past t image ⊎ ((g : FileNo) → may_leave g (image g))
  pub keeps : (t : ℕ) (image : Files) → t ≤ before → past t image → since t image

-- a crash at any moment since old leaves files that have P
pub record LeavesOnly {D : Type 0} (moment : D → ℕ) (left_since : D → ℕ → Files → Type 0) (old new : D) (P : Files → Type 0) : Type 0 where
  pub later : moment old ≤ moment new
  pub each : (image : Files) → left_since new (moment old) image → P image
  -- for a run that began earlier
  pub before : (t : ℕ) (image : Files) → t ≤ moment old → left_since new t image → left_since old t image ⊎ P image

-- one file is torn in this range, and a crash leaves of the others what it might have left before
pub record LeavesTorn (file : FileNo) (at n : ℕ) (may_old : FileNo → List ℕ → Type 0) (image : Files) : Type 0 where
  pub torn : (d : List ℕ) × may_old file d × Torn at n d (image file)
  pub others : (g : FileNo) → g ≢ file → may_old g (image g)
