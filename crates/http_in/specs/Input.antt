-- Bytes at hand, and those that a source gives behind them.
use Rattle.std.specs.Prelude.{◌≡◌, ℕ, List, ◌++◌, Option}
use Rattle.fh_world.specs.Bytes.{Moves}

-- the source was left alone, and the bytes at hand too
pub record IsStill {S : Type 0} (old now : S) (held kept : List ℕ) : Type 0 where
  pub source_is : now ≡ old
  pub bytes_are : kept ≡ held

-- the source gave some bytes, and they stand behind those that were at hand
pub record Fills {S : Type 0} (given left : S → Option (List ℕ)) (old new : S) (held now : List ℕ) : Type 0 where
  pub fresh : List ℕ
  pub moves : Moves given left old new fresh
  pub behind : now ≡ held ++ fresh
