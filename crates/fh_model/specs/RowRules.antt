-- The rules that the rows of a checkpoint keep together.
use Rattle.std.specs.Prelude.{ℕ, ◌+◌, ◌==◌, ◌&&◌, ◌||◌, nat_lt, Bool, true, false, not, if◌then◌else◌, List, [], ◌∷◌, Option, None, Some}
use Rattle.std.specs.List.{list_all, list_any}
use Rattle.fh_model.specs.declared.rows.Row.{Row}
use Rattle.fh_model.specs.declared.rows.Row.TheVariants.{Counters, User, Namespace}
use Rattle.fh_model.specs.declared.state.Next.{Next}

-- ---- order: by kind and, within a kind, with strictly rising numbers

abbrev pub rank_of : Row → ℕ
rank_of (Counters rev id session user namespace moment) = 0
rank_of (User number home token) = 1
rank_of (Namespace number shared floor len members) = 2

-- whether the second may follow the first, which is of its kind; there is one row of counters
abbrev pub rises : Row → Row → Bool
rises (User number home token) (User next next_home next_token) = nat_lt number next
rises (Namespace number shared floor len members) (Namespace next next_shared next_floor next_len next_members) = nat_lt number next
rises _ _ = false

abbrev pub comes_after : Option Row → Row → Bool
comes_after None row = true
comes_after (Some before) row = nat_lt (rank_of before) (rank_of row) || rises before row

-- ---- numbers: each that is named has its row, and is below its counter where there is a row of counters

-- the next numbers and the last moment of the first row of counters
abbrev pub counters_in : List Row → Option (Next × ℕ)
counters_in [] = None
counters_in (Counters rev id session user namespace moment ∷ rows) =
    Some (record { rev = rev; id = id; session = session; user = user; namespace = namespace }, moment)
counters_in (_ ∷ rows) = counters_in rows

abbrev pub user_was_given : Option (Next × ℕ) → ℕ → Bool
user_was_given None number = true
user_was_given (Some counters) number = nat_lt number counters.0.user

abbrev pub namespace_was_given : Option (Next × ℕ) → ℕ → Bool
namespace_was_given None number = true
namespace_was_given (Some counters) number = nat_lt number counters.0.namespace

abbrev pub is_user_row : ℕ → Row → Bool
is_user_row number (User found home token) = found == number
is_user_row number _ = false

abbrev pub is_namespace_row : ℕ → Row → Bool
is_namespace_row number (Namespace found shared floor len members) = found == number
is_namespace_row number _ = false

abbrev pub names_user : List Row → ℕ → Bool
names_user rows number = list_any (is_user_row number) rows && user_was_given (counters_in rows) number

abbrev pub names_namespace : List Row → ℕ → Bool
names_namespace rows number = list_any (is_namespace_row number) rows && namespace_was_given (counters_in rows) number

-- ---- members: nobody stands twice among them

abbrev pub all_differ : List ℕ → Bool
all_differ [] = true
all_differ (number ∷ numbers) = list_all (λ other. not (number == other)) numbers && all_differ numbers

-- ---- all rules

-- what a row asks of all rows. The changes of a namespace cover its floor to its length, and no row has any yet.
abbrev pub has_all : List Row → Row → Bool
has_all rows (Counters rev id session user namespace moment) = true
has_all rows (User number home token) = user_was_given (counters_in rows) number && names_namespace rows home
has_all rows (Namespace number shared floor len members) =
    namespace_was_given (counters_in rows) number && (floor == len && (list_all (names_user rows) members && all_differ members))

abbrev pub keeps_rules : List Row → Option Row → Row → Bool
keeps_rules rows before row = comes_after before row && has_all rows row

-- the place of the first of these rows that breaks a rule
abbrev pub bad_from : List Row → ℕ → Option Row → List Row → Option ℕ
bad_from all place before [] = None
bad_from all place before (row ∷ rows) = if keeps_rules all before row then bad_from all (place + 1) (Some row) rows else Some place

abbrev pub first_bad : List Row → Option ℕ
first_bad rows = bad_from rows 0 None rows
