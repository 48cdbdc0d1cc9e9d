-- What a disk holds of a piece.
use Rattle.std.specs.Prelude.{◌≡◌, ℕ, List, length}
use Rattle.sha2.specs.Sha256.{sha256}
use Rattle.fh_model.specs.declared.pieces.Piece.{Piece}
use Rattle.fh_model.specs.Content.{slice_of, LiesIn}
use Rattle.fh_world.specs.declared.FileNo.{FileNo}
use Rattle.fh_world.specs.declared.FileNo.TheVariants.{Blocks}
use Rattle.fh_world.specs.declared.Disk as disk
use Rattle.fh_world.specs.Disk.{Files}

-- the piece of these bytes at a place
pub record IsPieceOf (piece : Piece) (place : ℕ) (bytes : List ℕ) : Type 0 where
  pub at : piece.place ≡ place
  pub len : piece.len ≡ length bytes
  pub digest : piece.digest.bytes ≡ sha256 bytes

-- the piece lies in the block file with these bytes
pub record Holds (blocks : List ℕ) (piece : Piece) (bytes : List ℕ) : Type 0 where
  pub lies : LiesIn blocks piece
  pub slice : slice_of blocks piece ≡ bytes

-- it does as the file is read, and whatever a crash leaves of it
pub record IsStored (seen : Files) (may_leave : FileNo → List ℕ → Type 0) (piece : Piece) (bytes : List ℕ) : Type 0 where
  pub now : Holds (seen Blocks) piece bytes
  pub left : (c : List ℕ) → may_leave Blocks c → Holds c piece bytes

-- the same of a disk as it is
abbrev pub Stored : {D : Type 0} → disk.Ghosts D → D → Piece → List ℕ → Type 0
Stored d at piece bytes = IsStored (d.seen at) (d.may_leave at) piece bytes
