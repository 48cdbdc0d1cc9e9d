-- What a commit leaves of a store, and of its files at each moment.
use Rattle.std.specs.Prelude.{◌≡◌, ◌⊎◌, ℕ, Bool, List, length, take, Option, None, Some, IsTrue}
use Rattle.fh_model.specs.declared.commands.Cmd.{Cmd}
use Rattle.fh_model.specs.declared.pieces.Piece.{Piece}
use Rattle.fh_model.specs.Content.{slice_of}
use Rattle.fh_model.specs.History.{state_of, next_of}
use Rattle.fh_model.specs.Pieces.{placed}
use Rattle.fh_world.specs.Disk.{Files}
use Rattle.store_core.specs.Files.{Stands}
use Rattle.store_core.specs.Store.{Opened, finished}

-- the command with its data behind the pieces of the state in which it is let in
abbrev pub placed_in : {D : Type 0} → Opened D → List ℕ → Cmd → Cmd
placed_in store bytes cmd = placed (state_of (finished store)) bytes cmd

-- the files stand for the image, for it with the command that waited, or also with the one that is committed
abbrev pub StandsAround : {D : Type 0} → Opened D → Cmd → List ℕ → Files → Type 0
StandsAround store cmd blocks files =
    Stands files (state_of store.image) blocks
    ⊎ (Stands files (state_of (finished store)) blocks ⊎ Stands files (state_of (next_of (finished store) cmd)) blocks)

-- the image is as it was, and so is what waits
abbrev pub IsAsBefore : {D : Type 0} → Opened D → Opened D → Type 0
IsAsBefore old new = (new.image ≡ old.image) × (new.waiting ≡ old.waiting)

-- the command that waited has entered
abbrev pub IsFinished : {D : Type 0} → Opened D → Opened D → Type 0
IsFinished old new = (new.image ≡ finished old) × (new.waiting ≡ None)

-- it has, and the one that is committed waits
abbrev pub IsLeftWaiting : {D : Type 0} → Opened D → Cmd → Opened D → Type 0
IsLeftWaiting old cmd new = (new.image ≡ finished old) × (new.waiting ≡ Some cmd)

-- what a fault leaves
abbrev pub IsFaulted : {D : Type 0} → Opened D → Cmd → Opened D → Type 0
IsFaulted old cmd new = IsAsBefore old new ⊎ (IsFinished old new ⊎ IsLeftWaiting old cmd new)

-- a file begins with these bytes
abbrev pub BeginsWith : List ℕ → List ℕ → Type 0
BeginsWith front bytes = take (length front) bytes ≡ front

-- the piece is there, and these are as many bytes as it has: the piece's, where the disk tells what it holds
pub record IsFetched (tells : Bool) (found : Option (Option Piece)) (blocks bytes : List ℕ) : Type 0 where
  pub piece : Piece
  pub there : found ≡ Some (Some piece)
  pub len : length bytes ≡ piece.len
  pub slice : IsTrue tells → bytes ≡ slice_of blocks piece
