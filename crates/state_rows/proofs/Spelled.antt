-- What else is known of bytes that spell a row.
use Rattle.std.proofs.Common.{◌≡◌, ℕ, ◌≤◌, List, ◌∷◌, drop, arith}
use Rattle.fh_model.specs.declared.rows.Row.{Row}
use Rattle.fh_model.specs.declared.rows.Row.TheVariants.{Counters, User, Namespace}
use Rattle.byte_formats.specs.Spelling.{Spells}
use Rattle.byte_formats.proofs.Whole.{one_value}
use Rattle.state_rows.specs.Rows.{kind_of, checkpoint_row}
use Rattle.state_rows.proofs.Lawful.{row_lawful}

pub one_row : (bytes : List ℕ) (a b : Row) → Spells checkpoint_row bytes a → Spells checkpoint_row bytes b → a ≡ b
one_row = one_value checkpoint_row row_lawful

-- they begin with the number of the row's kind, which is above that of each act
pub row_begins : (bytes : List ℕ) (r : Row) → Spells checkpoint_row bytes r → (rest : List ℕ) × (bytes ≡ kind_of r ∷ rest)
unfolding checkpoint_row
row_begins bytes r s = (drop 1 (checkpoint_row.spell r), s.parts)

pub kind_above_acts : (r : Row) → 128 ≤ kind_of r
kind_above_acts (Counters rev id session user namespace moment) = omega arith
kind_above_acts (User number home token) = omega arith
kind_above_acts (Namespace number shared floor len members) = omega arith
