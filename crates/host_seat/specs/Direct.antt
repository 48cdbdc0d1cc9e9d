-- What a store did between two calls, as seen through its port.
use Rattle.std.specs.Prelude.{◌≡◌, ◌≤◌, ℕ, Bool, true, false, List, [], ◌∷◌, Option, None, Some, IsTrue}
use Rattle.fh_world.specs.declared.Disk as disk
use Rattle.fh_world.specs.Disk.{Files, LeavesOnly}
use Rattle.fh_model.specs.declared.commands.Cmd.{Cmd}
use Rattle.fh_model.specs.History.{Kept, state_of, Follows}
use Rattle.fh_model.specs.Pieces.{SamePieces}
use Rattle.fh_world.specs.declared.FileNo.TheVariants as file
use Rattle.store_core.specs.Files.{Stands}
use Rattle.store_core.specs.Store.{Opened, finished, IsKept}
use Rattle.host_seat.specs.declared.direct.Direct.{Direct}

abbrev pub store_of : {D : Type 0} → Direct D → Opened D
store_of direct = direct.store

-- the command that waits, as a list
abbrev pub waiting_in : Option Cmd → List Cmd
waiting_in None = []
waiting_in (Some cmd) = cmd ∷ []

-- what a disk's block file holds, where it tells that
abbrev pub told_by : Bool → List ℕ → Option (List ℕ)
told_by true blocks = Some blocks
told_by false blocks = None

-- the files stand for the machine at a point from the first history to the last, with the pieces of a block file
abbrev pub Between : Kept → Kept → List ℕ → Files → Type 0
Between first last blocks files = (kept : Kept) × Follows kept first × Follows last kept × Stands files (state_of kept) blocks

-- The history grew, and the pieces of the state before kept their bytes. A crash at any moment left files that stand for
-- the machine at a point between the start and the end with its waiting command, and that have the bytes of its pieces
-- that are read at the end.
pub record Ran {D : Type 0} (d : disk.Ghosts D) (old new : Opened D) : Type 0 where
  pub place : d.place new.disk ≡ d.place old.disk
  pub later : d.faults old.disk ≤ d.faults new.disk
  pub follows : Follows new.image old.image
  pub all_follows : Follows (finished new) (finished old)
  pub same : IsTrue d.tells → SamePieces (state_of (finished old)) (d.seen new.disk file.Blocks) (d.seen old.disk file.Blocks)
  pub kept : IsTrue d.tells → IsKept d old → IsKept d new
  pub crash : IsTrue d.tells → IsKept d old → LeavesOnly d.moment d.left_since old.disk new.disk (Between old.image (finished new) (d.seen new.disk file.Blocks))
