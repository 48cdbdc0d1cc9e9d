-- The pieces of a state and of a command, and where new data goes.
use Rattle.std.specs.Prelude.{◌≡◌, ℕ, ◌+◌, max, nat_le, Bool, List, [], ◌∷◌, ◌++◌, All, flat_map, length, map, slice_get, take, Option, None, Some}
use Rattle.std.specs.List.{list_all}
use Rattle.std.specs.Option.{option_map, option_to_list}
use Rattle.sha2.specs.Sha256.{sha256}
use Rattle.fh_model.specs.declared.commands.Act.{Act}
use Rattle.fh_model.specs.declared.commands.Act.TheVariants.{MakeFolder, Upload}
use Rattle.fh_model.specs.declared.commands.Cmd.{Cmd}
use Rattle.fh_model.specs.declared.pieces.Piece.{Piece}
use Rattle.fh_model.specs.declared.sessions.BlockPiece.{BlockPiece}
use Rattle.fh_model.specs.declared.sessions.Session.{Session}
use Rattle.fh_model.specs.Content.{IsHeld}
use Rattle.fh_model.specs.State.{State, meta_of}

-- the pieces as blocks, with the numbers from this one on
abbrev pub numbered : ℕ → List Piece → List BlockPiece
numbered block [] = []
numbered block (piece ∷ pieces) = record { block = block; piece = piece } ∷ numbered (block + 1) pieces

-- the place behind a piece
abbrev pub end_of : Piece → ℕ
end_of piece = piece.place + piece.len

-- the greatest of these, 0 where there is no piece
abbrev pub last_end : List Piece → ℕ
last_end [] = 0
last_end (piece ∷ pieces) = max (end_of piece) (last_end pieces)

-- ---- a state

abbrev pub session_pieces : Session → List Piece
session_pieces session = map (λ held. held.piece) session.pieces

-- Each file of a tree is the one that is kept under its rev, so these are all pieces of files and sessions.
abbrev pub pieces_in : State → List Piece
pieces_in s = flat_map (λ kept. kept.file.pieces) s.revisions ++ flat_map session_pieces s.sessions

-- where the next data goes
abbrev pub end_in : State → ℕ
end_in s = last_end (pieces_in s)

-- the block file with new data: what lies behind the end of the state's pieces stands for nothing
abbrev pub blocks_with : State → List ℕ → List ℕ → List ℕ
blocks_with s new blocks = take (end_in s) blocks ++ new

-- the pieces of the state have the same bytes in both block files
abbrev pub SamePieces : State → List ℕ → List ℕ → Type 0
SamePieces s blocks others = take (end_in s) blocks ≡ take (end_in s) others

-- each piece of the state lies in the block file, with bytes of its digest
abbrev pub AreHeld : State → List ℕ → Type 0
AreHeld s blocks = All (IsHeld blocks) (pieces_in s)

-- the piece that holds a block of the version with this rev: none where there is no such version, and none in it where
-- that has no such block
abbrev pub block_in : State → ℕ → ℕ → Option (Option Piece)
block_in s rev block = option_map (λ meta. slice_get meta.pieces block) (meta_of s rev)

-- ---- a command

-- the pieces that an act names
abbrev pub named_in : Act → List Piece
named_in (MakeFolder user path rename) = []
named_in (Upload user commit drafted last) = option_to_list last

abbrev pub ends_within : ℕ → Piece → Bool
ends_within len piece = nat_le (end_of piece) len

-- Each piece that the command names ends within a block file of so many bytes. A record whose command names another
-- is damaged at its place.
abbrev pub lies_within : ℕ → Cmd → Bool
lies_within len cmd = list_all (ends_within len) (named_in cmd.act)

-- ---- a command with its data

-- what of these bytes is the act's data
abbrev pub data_of : Act → List ℕ → List ℕ
data_of (MakeFolder user path rename) bytes = []
data_of (Upload user commit drafted last) bytes = bytes

-- the piece of these bytes at a place, none where there are no bytes
abbrev pub piece_of : ℕ → List ℕ → Option Piece
piece_of place [] = None
piece_of place (byte ∷ bytes) = Some (record {
  place = place;
  len = length (byte ∷ bytes);
  digest = record { bytes = sha256 (byte ∷ bytes) };
})

-- the act with this piece as its data, whatever it named before
abbrev pub with_piece : Option Piece → Act → Act
with_piece last (MakeFolder user path rename) = MakeFolder user path rename
with_piece last (Upload user commit drafted named) = Upload user commit drafted last

-- the command with its data behind the pieces of the state
abbrev pub placed : State → List ℕ → Cmd → Cmd
placed s bytes cmd = record cmd { act = with_piece (piece_of (end_in s) bytes) cmd.act }
