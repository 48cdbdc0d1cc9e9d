-- The order of keys, and which keys are under which.
use Rattle.std.specs.Prelude.{◌≡◌, ◌≢◌, ℕ, ◌&&◌, Bool, true, false, List, [], ◌∷◌, ◌++◌}
use Rattle.std.specs.Cmp.Lexicographic.{slice_cmp}
use Rattle.std.specs.Ordering.{nat_cmp}
use Rattle.std.specs.Str.{bytes_eq}
use Rattle.std.specs.declared.cmp.Ordering.{Ordering}
use Rattle.fh_model.specs.Keys.{Key}

-- by bytes, a proper prefix first
abbrev pub name_cmp : List ℕ → List ℕ → Ordering
name_cmp = slice_cmp nat_cmp

-- name by name, a proper prefix first
abbrev pub key_cmp : Key → Key → Ordering
key_cmp = slice_cmp name_cmp

-- the base is a proper prefix of the key
pub record IsUnder (key base : Key) : Type 0 where
  pub rest : Key
  pub some : rest ≢ []
  pub joined : key ≡ base ++ rest

-- the same as a test
abbrev pub is_under : Key → Key → Bool
is_under [] base = false
is_under (name ∷ key) [] = true
is_under (name ∷ key) (first ∷ base) = bytes_eq name first && is_under key base
