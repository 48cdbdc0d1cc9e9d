-- The file that a commit makes of pieces.
use Rattle.std.specs.Prelude.{ℕ, ◌+◌, ◌==◌, Bool, List, unwrap_or}
use Rattle.fh_model.specs.declared.commands.Commit.{Commit}
use Rattle.fh_model.specs.declared.files.FileMeta.{FileMeta}
use Rattle.fh_model.specs.declared.pieces.Bytes32.{Bytes32}
use Rattle.fh_model.specs.declared.pieces.Piece.{Piece}
use Rattle.fh_model.specs.Content.{hash_of, size_of}
use Rattle.fh_model.specs.Verdicts.{Target, absent, folder, file}

abbrev pub hash_on : List Piece → Bytes32
hash_on pieces = record { bytes = hash_of pieces }

-- the client's moment is the commit's, or else that of the command
abbrev pub file_of : ℕ → ℕ → ℕ → Commit → List Piece → FileMeta
file_of id rev moment commit pieces = record {
  id = id;
  rev = rev;
  size = size_of pieces;
  hash = hash_on pieces;
  client = unwrap_or commit.client moment;
  server = moment;
  pieces = pieces;
}

-- The size of a file is the sum of its pieces. A record with another file is damaged.
abbrev pub has_its_size : FileMeta → Bool
has_its_size meta = meta.size == size_of meta.pieces

-- ---- ids: a file that replaces a file keeps its id, and each other draws the next one

abbrev pub id_over : Target → ℕ → ℕ
id_over absent next = next
id_over folder next = next
id_over (file meta) next = meta.id

-- the next id behind it
abbrev pub next_over : Target → ℕ → ℕ
next_over absent next = next + 1
next_over folder next = next + 1
next_over (file meta) next = next
