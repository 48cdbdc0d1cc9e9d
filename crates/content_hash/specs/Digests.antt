-- Lists of digests.
use Rattle.std.specs.Prelude.{ℕ, List, [], ◌∷◌, Option, None, Some}
use Rattle.std.specs.List.{flat_map}
use Rattle.fh_model.specs.declared.pieces.Bytes32.{Bytes32}

abbrev pub bytes_of : Bytes32 → List ℕ
bytes_of digest = digest.bytes

-- their bytes, one digest behind another
abbrev pub joined : List Bytes32 → List ℕ
joined digests = flat_map bytes_of digests

-- the bytes of a digest, if there is one
abbrev pub listed : Option Bytes32 → List (List ℕ)
listed None = []
listed (Some digest) = digest.bytes ∷ []
