-- Fields of a head by their names, without regard to case.
use Rattle.std.specs.Prelude.{ℕ, List, [], ◌∷◌, map, Bool, if◌then◌else◌, Option, Some, None}
use Rattle.std.specs.Str.{bytes_eq}
use Rattle.std.specs.Char.{to_ascii_lowercase}
use Rattle.httparse.specs.Grammar.{RequestHead}
use Rattle.httparse.specs.Spans.{name_and_value}

-- the names are one, without regard to case
abbrev pub is_same_name : List ℕ → List ℕ → Bool
is_same_name a b = bytes_eq (map to_ascii_lowercase a) (map to_ascii_lowercase b)

-- the value of the first field of that name
abbrev pub find_field : List ℕ → List (List ℕ × List ℕ) → Option (List ℕ)
find_field name [] = None
find_field name (f ∷ fs) = if is_same_name f.0 name then Some f.1 else find_field name fs

-- the value of a head's first field of that name
abbrev pub field_of : List ℕ → RequestHead → Option (List ℕ)
field_of name h = find_field name (map name_and_value h.fields)
