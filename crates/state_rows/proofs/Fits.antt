-- A row has a spelling where its fields have one.
use Rattle.std.proofs.Common.{◌≡◌, true, refl}
use Rattle.fh_model.specs.declared.rows.Row.{Row}
use Rattle.fh_model.specs.declared.rows.Row.TheVariants.{Counters, User, Namespace}
use Rattle.state_rows.specs.Rows.{kind_of, is_kind, fields, checkpoint_row}

kind_known : (r : Row) → is_kind (kind_of r) ≡ true
kind_known (Counters rev id session user namespace moment) = refl
kind_known (User number home token) = refl
kind_known (Namespace number shared floor len members) = refl

pub row_fits : (r : Row) → (fields (kind_of r)).fits r → checkpoint_row.fits r
unfolding checkpoint_row
row_fits r fits = ((kind_known r, fits), refl)
