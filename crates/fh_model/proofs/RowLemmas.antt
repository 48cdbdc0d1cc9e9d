-- What is known of the rows of states.
use Rattle.std.proofs.Common.{◌≡◌, Ok, refl}
use Rattle.fh_model.specs.Rows.{rows_of, state_of_rows}
use Rattle.fh_model.specs.State.{opening}

-- the rows of a new store are read back
pub opening_rows : state_of_rows (rows_of opening) ≡ Ok opening
opening_rows = refl
