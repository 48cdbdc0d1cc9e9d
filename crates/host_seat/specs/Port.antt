-- What a look, a commit and a fetch through a port mean.
use Rattle.std.specs.Prelude.{◌≡◌, ◌⊎◌, ℕ, [], List, length, Bool, true, IfSome, Option, Some, None, IsTrue}
use Rattle.fh_model.specs.declared.commands.Cmd.{Cmd}
use Rattle.fh_model.specs.declared.pieces.Piece.{Piece}
use Rattle.fh_model.specs.declared.replies.Reply.{Reply}
use Rattle.fh_model.specs.Content.{slice_of}
use Rattle.fh_model.specs.History.{Kept, state_of, with_more, next_of, reply_of}
use Rattle.fh_model.specs.Pieces.{SamePieces, block_in, blocks_with, data_of, placed}
use Rattle.fh_model.specs.State.{State}
use Rattle.fh_model.specs.Step.{step}
use Rattle.store_core.specs.Commit.{BeginsWith}

-- the command with its data behind the pieces of a point
abbrev pub placed_at : Kept → List ℕ → Cmd → Cmd
placed_at kept bytes cmd = placed (state_of kept) bytes cmd

-- The reply is the machine's, at the point that begins with what was seen and goes on with what others entered. There
-- the command has its data.
pub record Commits (alone : Bool) (old new : Kept) (cmd : Cmd) (bytes : List ℕ) (reply : Reply) : Type 0 where
  pub others : List Cmd
  pub told : reply ≡ reply_of (with_more old others) (placed_at (with_more old others) bytes cmd)
  pub grown : new ≡ next_of (with_more old others) (placed_at (with_more old others) bytes cmd)
  pub mine : IsTrue alone → others ≡ []

-- the image is the machine's, at the point that begins with what was seen and goes on with what others entered
pub record Looks (alone : Bool) (old new image : Kept) : Type 0 where
  pub others : List Cmd
  pub shown : image ≡ new
  pub grown : new ≡ with_more old others
  pub mine : IsTrue alone → others ≡ []

-- nothing but what others entered has come to what was seen
pub record OthersEnter (alone : Bool) (old new : Kept) : Type 0 where
  pub others : List Cmd
  pub grown : new ≡ with_more old others
  pub mine : IsTrue alone → others ≡ []

-- What waits for the disk is what waited before, or nothing, or what failed just now.
abbrev pub Leaves : List Cmd → List Cmd → List Cmd → Type 0
Leaves before failed now = (now ≡ before) ⊎ ((now ≡ []) ⊎ (now ≡ failed))

-- ---- the block file, where it is told

-- both are told, and this is a fact of them, or neither is told
abbrev pub OfBoth : (List ℕ → List ℕ → Type 0) → Option (List ℕ) → Option (List ℕ) → Type 0
OfBoth P (Some old) (Some new) = P old new
OfBoth P None None = Unit {0}
OfBoth P (Some old) None = ⊥
OfBoth P None (Some new) = ⊥

-- the pieces of the state keep their bytes
abbrev pub KeepsPieces : State → Option (List ℕ) → Option (List ℕ) → Type 0
KeepsPieces s old new = OfBoth (λ before after. SamePieces s after before) old new

-- where a command enters, its data stands behind the pieces of the state before
abbrev pub PutsData : State → Cmd → List ℕ → Option (List ℕ) → Option (List ℕ) → Type 0
PutsData s cmd bytes old new =
    OfBoth (λ before after. (step s (placed s bytes cmd)).enters ≡ true → BeginsWith (blocks_with s (data_of cmd.act bytes) before) after) old new

-- These bytes are as many as the block has: the block's, where the block file is told.
pub record IsBlock (found : Option (Option Piece)) (blocks : Option (List ℕ)) (bytes : List ℕ) : Type 0 where
  pub piece : Piece
  pub there : found ≡ Some (Some piece)
  pub len : length bytes ≡ piece.len
  pub slice : IfSome blocks (λ told. bytes ≡ slice_of told piece)

-- what a fetch finds at a point
abbrev pub block_at : Kept → ℕ → ℕ → Option (Option Piece)
block_at kept rev block = block_in (state_of kept) rev block
