-- How a command is spelled: the number of its act's kind, its seat, its moment, and the fields of the act.
use Rattle.std.specs.Prelude.{ℕ, zero, suc, ◌<◌, ◌≤◌, ◌^◌, ◌||◌, Bool, List, [], ◌∷◌, length, ◌==◌, IfSome, Option, Ok, Err}
use Rattle.byte_formats.specs.Formats.{◌>>=◌, Format, Reading, follows, both, made, byte_where, pick}
use Rattle.byte_formats.specs.Fields.{n32, n64, flag, moment, last_second, optional}
use Rattle.byte_formats.specs.Lists.{text}
use Rattle.byte_formats.specs.Pieces.{piece_format}
use Rattle.fh_model.specs.declared.commands.Act.{Act}
use Rattle.fh_model.specs.declared.commands.Act.TheVariants.{MakeFolder, Upload}
use Rattle.fh_model.specs.declared.commands.Cmd.{Cmd}
use Rattle.fh_model.specs.declared.commands.Commit.{Commit}
use Rattle.fh_model.specs.declared.commands.Mode.{Mode}
use Rattle.fh_model.specs.declared.commands.Mode.TheVariants.{Add, Overwrite, Update}
use Rattle.fh_model.specs.declared.limits.TheConstants.{BLOCK_BYTES}
use Rattle.fh_model.specs.declared.pieces.Piece.{Piece}

-- ---- the kinds

-- the number of an act
abbrev pub kind_of : Act → ℕ
kind_of (MakeFolder user path rename) = 1
kind_of (Upload user commit drafted last) = 2

abbrev pub is_kind : ℕ → Bool
is_kind kind = (kind == 1) || (kind == 2)

-- ---- commits

-- a mode: 0, or 1, or 2 and a rev
abbrev pub mode_spell : Mode → List ℕ
mode_spell Add = 0 ∷ []
mode_spell Overwrite = 1 ∷ []
mode_spell (Update rev) = 2 ∷ n64.spell rev

abbrev pub ModeFits : Mode → Type 0
ModeFits Add = Unit {0}
ModeFits Overwrite = Unit {0}
ModeFits (Update rev) = n64.fits rev

unfoldable pub mode_at : List ℕ → Reading Mode
mode_at [] = Err 0
mode_at (zero ∷ rest) = Ok (Add, rest)
mode_at (suc zero ∷ rest) = Ok (Overwrite, rest)
mode_at (suc (suc zero) ∷ rest) = n64.read rest >>= λ x. Ok (Update x.0, x.1)
mode_at (suc (suc (suc byte)) ∷ rest) = Err (length (suc (suc (suc byte)) ∷ rest))

abbrev pub mode_format : Format Mode
mode_format = record { spell = mode_spell; fits = ModeFits; read = mode_at; some = Add }

abbrev pub commit_fields : Format (List ℕ × (Mode × (Bool × (Bool × Option ℕ))))
commit_fields = both text (both mode_format (both flag (both flag (optional moment))))

abbrev pub commit_of : List ℕ × (Mode × (Bool × (Bool × Option ℕ))) → Commit
commit_of x = record { path = x.0; mode = x.1.0; rename = x.1.1.0; strict = x.1.1.1.0; client = x.1.1.1.1 }

unfoldable pub commit_format : Format Commit
commit_format = made commit_of (λ commit. (commit.path, (commit.mode, (commit.rename, (commit.strict, commit.client))))) commit_fields

-- ---- the fields of each kind

abbrev pub make_folder_fields : Format (ℕ × (List ℕ × Bool))
make_folder_fields = both n64 (both text flag)

abbrev pub of_make_folder : Act → ℕ × (List ℕ × Bool)
of_make_folder (MakeFolder user path rename) = (user, (path, rename))
of_make_folder _ = make_folder_fields.some

unfoldable pub make_folder : Format Act
make_folder = made (λ x. MakeFolder x.0 x.1.0 x.1.1) of_make_folder make_folder_fields

abbrev pub upload_fields : Format (ℕ × (Commit × (ℕ × Option Piece)))
upload_fields = both n64 (both commit_format (both n32 (optional piece_format)))

abbrev pub of_upload : Act → ℕ × (Commit × (ℕ × Option Piece))
of_upload (Upload user commit drafted last) = (user, (commit, (drafted, last)))
of_upload _ = upload_fields.some

unfoldable pub upload : Format Act
upload = made (λ x. Upload x.0 x.1.0 x.1.1.0 x.1.1.1) of_upload upload_fields

-- the acts of a kind
abbrev pub act : ℕ → Format Act
act kind = pick (kind == 1) make_folder upload

-- ---- the whole

abbrev pub command_fields : Format (ℕ × (ℕ × (ℕ × Act)))
command_fields = follows (byte_where is_kind 1) (λ kind. both n64 (both moment (act kind)))

unfoldable pub command : Format Cmd
command = made (λ x. record { seat = x.1.0; at = x.1.1.0; act = x.1.1.1 }) (λ cmd. (kind_of cmd.act, (cmd.seat, (cmd.at, cmd.act)))) command_fields

-- ---- which commands have a spelling

-- it has bytes, and no more than a block
abbrev pub IsBlock : Piece → Type 0
IsBlock piece = (0 < piece.len) × (piece.len ≤ BLOCK_BYTES)

-- its text has a length of four bytes, and its moment is one
abbrev pub IsShortCommit : Commit → Type 0
IsShortCommit commit = (length commit.path < 2 ^ 32) × IfSome commit.client (λ client. client ≤ last_second)

-- each text of the act has a length of four bytes, each moment is one, and each piece is a block
abbrev pub IsShort : Act → Type 0
IsShort (MakeFolder user path rename) = length path < 2 ^ 32
IsShort (Upload user commit drafted last) = IsShortCommit commit × IfSome last IsBlock

abbrev pub HasSpelling : Cmd → Type 0
HasSpelling cmd = (cmd.at ≤ last_second) × IsShort cmd.act
