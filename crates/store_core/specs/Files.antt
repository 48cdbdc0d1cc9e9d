-- What the four files of a store stand for.
use Rattle.std.specs.Prelude.{◌≡◌, ◌⊎◌, ℕ, List, length, Result, Ok, Err}
use Rattle.fh_model.specs.declared.commands.Cmd.{Cmd}
use Rattle.fh_model.specs.History.{state_after}
use Rattle.fh_model.specs.Pieces.{SamePieces}
use Rattle.fh_model.specs.State.{State, opening}
use Rattle.fh_world.specs.declared.FileNo.TheVariants as file
use Rattle.fh_world.specs.Disk.{Files}
use Rattle.store_core.specs.declared.head.HeadRead.{HeadRead}
use Rattle.store_core.specs.declared.head.HeadRead.TheVariants as head
use Rattle.store_core.specs.Bodies.{read_slot}
use Rattle.store_core.specs.Head.{head_in}

-- a store that isn't made yet, a file of another program, a damaged record, or a state and the commands behind it
pub data Contents : Type 0 where
  New : Contents
  NotAStore : ℕ → Contents
  Damaged : ℕ → Contents
  Stored : State → List Cmd → Contents

abbrev pub of_slot : Result (State × List Cmd) ℕ → Contents
of_slot (Ok read) = Stored read.0 read.1
of_slot (Err place) = Damaged place

abbrev pub by_head : HeadRead → Files → Contents
by_head head.New files = New
by_head (head.NotAStore place) files = NotAStore place
by_head (head.Names slot) files = of_slot (read_slot (length (files file.Blocks)) (files slot))

abbrev pub contents : Files → Contents
contents files = by_head (head_in (files file.Head)) files

-- The files stand for this state of the machine, and the block file has the bytes of the state's pieces that `blocks`
-- has.
pub record Stands (files : Files) (state : State) (blocks : List ℕ) : Type 0 where
  pub start : State
  pub commands : List Cmd
  pub stored : contents files ≡ Stored start commands
  pub after : state_after start commands ≡ state
  pub same : SamePieces state (files file.Blocks) blocks

-- the files stand for it, or for nothing yet where it is the state of a new store
abbrev pub StandsOrNew : Files → State → Type 0
StandsOrNew files state = Stands files state (files file.Blocks) ⊎ ((contents files ≡ New) × (state ≡ opening))

-- the files are those of a store that isn't made yet, or of a new one
abbrev pub IsNewOrMade : Files → Type 0
IsNewOrMade files = (contents files ≡ New) ⊎ Stands files opening (files file.Blocks)

-- the files stand for what the old ones stood for, with the same block file, but that a new store may have been made of
-- none
abbrev pub KeepsMeaning : Files → Files → Type 0
KeepsMeaning old new =
    ((contents new ≡ contents old) × (new file.Blocks ≡ old file.Blocks)) ⊎ ((contents old ≡ New) × IsNewOrMade new)
