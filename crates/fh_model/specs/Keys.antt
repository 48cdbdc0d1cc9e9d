-- Keys: the folded names of a place, by which places are compared.
use Rattle.std.specs.Prelude.{ℕ, ◌&&◌, Bool, true, false, List, [], ◌∷◌, map}
use Rattle.std.specs.Str.{bytes_eq}
use Rattle.fh_model.specs.declared.names.Name.{Name}

-- a list of folded names
abbrev pub Key : Type 0
Key = List (List ℕ)

abbrev pub key_of : List Name → Key
key_of names = map (λ name. name.folded) names

-- the names have this key
abbrev pub has_key : List Name → Key → Bool
has_key [] [] = true
has_key [] (folded ∷ key) = false
has_key (name ∷ names) [] = false
has_key (name ∷ names) (folded ∷ key) = bytes_eq name.folded folded && has_key names key
