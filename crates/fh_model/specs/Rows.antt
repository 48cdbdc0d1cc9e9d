-- A state as the rows of a checkpoint, and rows as a state.
use Rattle.std.specs.Prelude.{ℕ, List, [], ◌∷◌, ◌++◌, length, map, Option, None, Some, Result, Ok, Err}
use Rattle.fh_model.specs.declared.rows.Row.{Row}
use Rattle.fh_model.specs.declared.rows.Row.TheVariants as row
use Rattle.fh_model.specs.declared.state.Namespace.{Namespace}
use Rattle.fh_model.specs.declared.state.Next.{Next}
use Rattle.fh_model.specs.declared.state.User.{User}
use Rattle.fh_model.specs.RowRules.{counters_in, first_bad}
use Rattle.fh_model.specs.State.{State, length_of}

-- ---- the rows of a state, but for those of its trees, changes, revisions and sessions

abbrev pub counters_row : State → Row
counters_row s = row.Counters s.next.rev s.next.id s.next.session s.next.user s.next.namespace s.moment

abbrev pub user_row : User → Row
user_row user = row.User user.number user.home user.token

abbrev pub namespace_row : Namespace → Row
namespace_row space = row.Namespace space.number space.shared space.floor (length_of space) space.members

abbrev pub rows_of : State → List Row
rows_of s = counters_row s ∷ (map user_row s.users ++ map namespace_row s.namespaces)

-- ---- the state that rows stand for

abbrev pub users_in : List Row → List User
users_in [] = []
users_in (row.User number home token ∷ rows) = record { number = number; home = home; token = token } ∷ users_in rows
users_in (_ ∷ rows) = users_in rows

abbrev pub namespaces_in : List Row → List Namespace
namespaces_in [] = []
namespaces_in (row.Namespace number shared floor len members ∷ rows) =
    record { number = number; shared = shared; floor = floor; changes = []; members = members } ∷ namespaces_in rows
namespaces_in (_ ∷ rows) = namespaces_in rows

-- A row of counters that is missing is missed behind the last row.
abbrev pub counted : List Row → Option (Next × ℕ) → Result State ℕ
counted rows None = Err (length rows)
counted rows (Some counters) =
    Ok (record { users = users_in rows; namespaces = namespaces_in rows; revisions = []; sessions = []; next = counters.0; moment = counters.1 })

abbrev pub unless_bad : Option ℕ → Result State ℕ → Result State ℕ
unless_bad None read = read
unless_bad (Some place) read = Err place

-- the state, or the place of the first row that breaks a rule
abbrev pub state_of_rows : List Row → Result State ℕ
state_of_rows rows = unless_bad (first_bad rows) (counted rows (counters_in rows))
