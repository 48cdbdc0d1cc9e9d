-- What a slot is between the calls of its journal, and what a call leaves of a disk.
use Rattle.std.specs.Prelude.{◌≡◌, ◌≢◌, ℕ, ◌<◌, List, ◌++◌, length, Option, Some, None, Bool, is_some}
use Rattle.fh_world.specs.declared.FileNo.{FileNo}
use Rattle.fh_world.specs.declared.Disk as disk
use Rattle.fh_world.specs.Disk.{Files, LeavesOnly}
use Rattle.gate_journal.specs.Slot.{records, IsAtRest, IsStaged}
use Rattle.gate_journal.specs.declared.journal.Journal.{Journal}

-- the file of a journal's records, and the place where they end
abbrev pub slot_of : Journal → FileNo
slot_of j = j.slot

abbrev pub end_of : Journal → ℕ
end_of j = j.end

-- where the records end with those that wait for their gate
abbrev pub waiting_of : Journal → Option ℕ
waiting_of j = j.waiting

-- whether a gate is still to be opened
abbrev pub is_pending : Journal → Bool
is_pending j = is_some j.waiting

-- The slot holds these records, whatever a crash leaves of it, and the journal stands behind them.
pub record IsSettled (seen : Files) (may_leave : FileNo → List ℕ → Type 0) (j : Journal) (bodies : List (List ℕ)) : Type 0 where
  pub place : j.end ≡ length (records bodies)
  pub idle : j.waiting ≡ None
  pub now : IsAtRest bodies (seen j.slot)
  pub left : (c : List ℕ) → may_leave j.slot c → IsAtRest bodies c

-- The slot holds these records and new ones behind a gate that may stand open or closed, whatever a crash leaves.
pub record IsWaiting (seen : Files) (may_leave : FileNo → List ℕ → Type 0) (j : Journal) (bodies news : List (List ℕ)) : Type 0 where
  pub some : 0 < length news
  pub place : j.end ≡ length (records bodies)
  pub waits : j.waiting ≡ Some (length (records (bodies ++ news)))
  pub now : IsStaged bodies news (seen j.slot)
  pub left : (c : List ℕ) → may_leave j.slot c → IsStaged bodies news c

-- both of a disk as it is
abbrev pub Settled : {D : Type 0} → disk.Ghosts D → D → Journal → List (List ℕ) → Type 0
Settled d at j bodies = IsSettled (d.seen at) (d.may_leave at) j bodies

abbrev pub Waiting : {D : Type 0} → disk.Ghosts D → D → Journal → List (List ℕ) → List (List ℕ) → Type 0
Waiting d at j bodies news = IsWaiting (d.seen at) (d.may_leave at) j bodies news

-- a crash leaves a slot that has P, and of the other files what it might have left before
pub record LeavesSlot (slot : FileNo) (may_old : FileNo → List ℕ → Type 0) (P : List ℕ → Type 0) (image : Files) : Type 0 where
  pub own : P (image slot)
  pub others : (g : FileNo) → g ≢ slot → may_old g (image g)

-- a crash at any moment of a run leaves a slot that has P, and the other files as they might have been before
abbrev pub AnyMoment : {D : Type 0} → disk.Ghosts D → D → D → FileNo → (List ℕ → Type 0) → Type 0
AnyMoment d old new slot P = LeavesOnly d.moment d.left_since old new (LeavesSlot slot (d.may_leave old) P)

-- a read gives the same of the other files, and a crash leaves nothing new of them
pub record KeepsOthers (slot : FileNo) (seen_old seen_new : Files) (may_old may_new : FileNo → List ℕ → Type 0) : Type 0 where
  pub seen : (g : FileNo) → g ≢ slot → seen_new g ≡ seen_old g
  pub crash : (g : FileNo) → g ≢ slot → (c : List ℕ) → may_new g c → may_old g c

abbrev pub Keeps : {D : Type 0} → disk.Ghosts D → FileNo → D → D → Type 0
Keeps d slot old new = KeepsOthers slot (d.seen old) (d.seen new) (d.may_leave old) (d.may_leave new)
