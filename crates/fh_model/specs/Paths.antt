-- How names are shown.
use Rattle.std.specs.Prelude.{ℕ, ◌-◌, List, [], ◌∷◌, flat_map, length, slice_get, Option, None, Some}
use Rattle.fh_model.specs.declared.names.Name.{Name}

-- the shown names, each after a slash
abbrev pub display_of : List Name → List ℕ
display_of names = flat_map (λ name. 47 ∷ name.shown) names

-- the folded names, each after a slash
abbrev pub lower_of : List Name → List ℕ
lower_of names = flat_map (λ name. 47 ∷ name.folded) names

abbrev pub shown_of : Option Name → List ℕ
shown_of None = []
shown_of (Some name) = name.shown

-- the last shown name, or nothing where there are no names
abbrev pub last_shown : List Name → List ℕ
last_shown names = shown_of (slice_get names (length names - 1))
