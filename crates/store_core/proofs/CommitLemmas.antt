-- A command with its data.
use Rattle.std.proofs.Common.{◌≡◌, ℕ, List, refl}
use Rattle.std.specs.Option.{option_to_list}
use Rattle.fh_model.specs.declared.commands.Act.{Act}
use Rattle.fh_model.specs.declared.commands.Act.TheVariants.{MakeFolder, Upload}
use Rattle.fh_model.specs.Pieces.{data_of, named_in, piece_of, with_piece}

-- it names the piece of its data, and one without data names none
pub data_named : (place : ℕ) (act : Act) (bytes : List ℕ) → named_in (with_piece (piece_of place bytes) act) ≡ option_to_list (piece_of place (data_of act bytes))
data_named place (MakeFolder user path rename) bytes = refl
data_named place (Upload user commit drafted last) bytes = refl
