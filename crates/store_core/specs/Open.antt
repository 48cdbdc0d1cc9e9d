-- What opening a store finds, and what it leaves.
use Rattle.std.specs.Prelude.{◌≡◌, ◌⊎◌, ℕ, List, Result, Ok, Err}
use Rattle.fh_model.specs.State.{State}
use Rattle.fh_world.specs.declared.FileNo.{FileNo}
use Rattle.fh_world.specs.declared.Disk as disk
use Rattle.fh_world.specs.Disk.{Files}
use Rattle.gate_journal.specs.Journal.{Settled}
use Rattle.gate_journal.specs.Slot.{Held, found}
use Rattle.gate_journal.specs.declared.journal.Journal.{Journal}
use Rattle.store_core.specs.declared.faults.StoreFault.{StoreFault}
use Rattle.store_core.specs.declared.faults.StoreFault.TheVariants as fault
use Rattle.store_core.specs.Files.{Contents, NotAStore, Damaged, KeepsMeaning}
use Rattle.store_core.specs.Store.{Opened, StandFor}

-- the disk, in the store or handed back
abbrev pub disk_left : {D : Type 0} → Result (Opened D) (D × StoreFault) → D
disk_left (Ok store) = store.disk
disk_left (Err refused) = refused.0

-- when a refusal comes that isn't the outside's
abbrev pub IsSaid : Contents → StoreFault → Type 0
IsSaid found (fault.NotAStore place) = found ≡ NotAStore place
IsSaid found (fault.Damaged place) = found ≡ Damaged place
IsSaid found fault.Disk = Unit {0}
IsSaid found fault.NoMemory = Unit {0}

-- a crash leaves what it might have left before the call, or what stands for the same
abbrev pub LeavesMeaning : (FileNo → List ℕ → Type 0) → Files → Files → Type 0
LeavesMeaning may_old seen_old files = ((g : FileNo) → may_old g (files g)) ⊎ KeepsMeaning seen_old files

-- a slot was read: over a block file of so many bytes its records stand for a state, and its journal stands behind them
pub record ReadsSlot {D : Type 0} (d : disk.Ghosts D) (old new : D) (slot : FileNo) (j : Journal) (len : ℕ) (state : State) : Type 0 where
  pub bodies : List (List ℕ)
  pub held : found (d.seen old slot) ≡ Held bodies
  pub settled : Settled d new j bodies
  pub stand : StandFor len bodies state
