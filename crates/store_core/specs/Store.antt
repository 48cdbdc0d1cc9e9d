-- What a store is between its calls.
use Rattle.std.specs.Prelude.{◌≡◌, ◌⊎◌, ◌≤◌, ◌^◌, ℕ, true, false, List, [], ◌∷◌, length, take, Option, None, Some, IsTrue, Ok}
use Rattle.byte_formats.specs.Spelling.{Spells}
use Rattle.cmd_codec.specs.Commands.{command}
use Rattle.fh_model.specs.declared.commands.Cmd.{Cmd}
use Rattle.fh_model.specs.History.{Kept, state_of, state_after, next_of}
use Rattle.fh_model.specs.Pieces.{end_in, lies_within}
use Rattle.fh_model.specs.State.{State}
use Rattle.fh_model.specs.Step.{step}
use Rattle.fh_world.specs.declared.FileNo.{FileNo}
use Rattle.fh_world.specs.declared.FileNo.TheVariants as file
use Rattle.fh_world.specs.declared.Disk as disk
use Rattle.fh_world.specs.Disk.{Files}
use Rattle.gate_journal.specs.declared.journal.Journal.{Journal}
use Rattle.gate_journal.specs.Journal.{slot_of, is_pending, Settled, Waiting}
use Rattle.store_core.specs.declared.head.HeadRead.TheVariants as head
use Rattle.store_core.specs.Bodies.{read_bodies}
use Rattle.store_core.specs.Files.{Stands}
use Rattle.store_core.specs.Head.{head_in}

-- the disk, the image, and a command that may or may not be on the disk, since a fault came while it was let in
pub record Opened (D : Type 0) : Type 0 where
  pub disk : D
  pub image : Kept
  pub waiting : Option Cmd

-- the image once the command that waits has entered
abbrev pub with_waiting : Kept → Option Cmd → Kept
with_waiting image None = image
with_waiting image (Some cmd) = next_of image cmd

-- the image behind a command that waits
abbrev pub finished : {D : Type 0} → Opened D → Kept
finished store = with_waiting store.image store.waiting

-- the files stand for the image's state, or for that after a command that waits, with the pieces of a block file
abbrev pub StandsFor : Files → Kept → Option Cmd → List ℕ → Type 0
StandsFor files image waiting blocks = Stands files (state_of image) blocks ⊎ Stands files (state_of (with_waiting image waiting)) blocks

-- Whatever a crash leaves of the disk at this moment stands for the image, or for it with the command that waits, and
-- has the bytes of the pieces that are read now.
abbrev pub IsKept : {D : Type 0} → disk.Ghosts D → Opened D → Type 0
IsKept d store =
    (files : Files) → ((g : FileNo) → d.may_leave store.disk g (files g)) → StandsFor files store.image store.waiting (d.seen store.disk file.Blocks)

-- ---- how the type of a store keeps that

-- the head names this slot, whatever a crash leaves
pub record NamesSlot {D : Type 0} (d : disk.Ghosts D) (at : D) (slot : FileNo) : Type 0 where
  pub now : head_in (d.seen at file.Head) ≡ head.Names slot
  pub left : (c : List ℕ) → d.may_leave at file.Head c → head_in c ≡ head.Names slot

-- Whatever a crash leaves, the block file has so many bytes, the first of which, up to an end, are those that are read.
pub record HoldsBlocks {D : Type 0} (d : disk.Ghosts D) (at : D) (len end : ℕ) : Type 0 where
  pub now : len ≤ length (d.seen at file.Blocks)
  pub left : (c : List ℕ) → d.may_leave at file.Blocks c → (len ≤ length c) × (take end c ≡ take end (d.seen at file.Blocks))

-- over a block file of so many bytes, records stand for a state
pub record StandFor (len : ℕ) (bodies : List (List ℕ)) (state : State) : Type 0 where
  pub start : State
  pub commands : List Cmd
  pub read : read_bodies len bodies ≡ Ok (start, commands)
  pub after : state_after start commands ≡ state

-- the slot holds records that stand for the state, and the block file its pieces
pub record IsSettledStore {D : Type 0} (d : disk.Ghosts D) (at : D) (j : Journal) (state : State) : Type 0 where
  pub named : NamesSlot d at (slot_of j)
  pub bodies : List (List ℕ)
  pub slot : Settled d at j bodies
  pub len : ℕ
  pub stand : StandFor len bodies state
  pub blocks : HoldsBlocks d at len (end_in state)

-- they hold them, and those of a command behind a gate that may stand open or closed
pub record IsWaitingStore {D : Type 0} (d : disk.Ghosts D) (at : D) (j : Journal) (state : State) (cmd : Cmd) : Type 0 where
  pub named : NamesSlot d at (slot_of j)
  pub bodies : List (List ℕ)
  pub body : List ℕ
  pub slot : Waiting d at j bodies (body ∷ [])
  pub len : ℕ
  pub stand : StandFor len bodies state
  pub spelled : Spells command body cmd
  pub lies : lies_within len cmd ≡ true
  pub blocks : HoldsBlocks d at len (end_in (step state cmd).state)

-- The disk is as the journal, the image and the command that waits say, where it tells what it holds. The end of the
-- pieces is one that a file can have.
abbrev pub IsSound : {D : Type 0} → disk.Ghosts D → D → Journal → Kept → Option Cmd → Type 0
IsSound d at j image None =
    (is_pending j ≡ false) × ((end_in (state_of image) ≤ 2 ^ 62) × (IsTrue d.tells → IsSettledStore d at j (state_of image)))
IsSound d at j image (Some cmd) =
    (is_pending j ≡ true) × (((step (state_of image) cmd).enters ≡ true) × (IsTrue d.tells → IsWaitingStore d at j (state_of image) cmd))

-- The block file has the state's pieces and those that a command names, whatever a crash leaves.
pub record IsReady {D : Type 0} (d : disk.Ghosts D) (at : D) (state : State) (cmd : Cmd) : Type 0 where
  pub len : ℕ
  pub within : end_in state ≤ len
  pub lies : lies_within len cmd ≡ true
  pub blocks : HoldsBlocks d at len len
