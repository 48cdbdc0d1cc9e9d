-- How a row is spelled: the number of its kind, and the fields of that kind.
use Rattle.std.specs.Prelude.{ℕ, ◌<◌, ◌^◌, Bool, List, length, Option, IfSome, ◌==◌, ◌||◌, ⊤}
use Rattle.byte_formats.specs.Formats.{Format, follows, both, made, byte_where, pick}
use Rattle.byte_formats.specs.Fields.{n64, flag, optional}
use Rattle.byte_formats.specs.Lists.{text, many}
use Rattle.fh_model.specs.declared.rows.Row.{Row}
use Rattle.fh_model.specs.declared.rows.Row.TheVariants.{Counters, User, Namespace}
use Rattle.fh_model.specs.declared.state.Next.{Next}

-- ---- the kinds

-- the number of a row's kind
abbrev pub kind_of : Row → ℕ
kind_of (Counters rev id session user namespace moment) = 128
kind_of (User number home token) = 129
kind_of (Namespace number shared floor len members) = 130

abbrev pub is_kind : ℕ → Bool
is_kind kind = kind == 128 || kind == 129 || kind == 130

-- ---- the fields of each kind

abbrev pub next_fields : Format (ℕ × (ℕ × (ℕ × (ℕ × ℕ))))
next_fields = both n64 (both n64 (both n64 (both n64 n64)))

unfoldable pub next_numbers : Format Next
next_numbers = made (λ x. record { rev = x.0; id = x.1.0; session = x.1.1.0; user = x.1.1.1.0; namespace = x.1.1.1.1 })
    (λ next. (next.rev, (next.id, (next.session, (next.user, next.namespace))))) next_fields

abbrev pub counters_fields : Format (Next × ℕ)
counters_fields = both next_numbers n64

abbrev pub of_counters : Row → Next × ℕ
of_counters (Counters rev id session user namespace moment) = (record { rev = rev; id = id; session = session; user = user; namespace = namespace }, moment)
of_counters _ = counters_fields.some

unfoldable pub counters_row : Format Row
counters_row = made (λ x. Counters x.0.rev x.0.id x.0.session x.0.user x.0.namespace x.1) of_counters counters_fields

abbrev pub user_fields : Format (ℕ × (ℕ × Option (List ℕ)))
user_fields = both n64 (both n64 (optional text))

abbrev pub of_user : Row → ℕ × (ℕ × Option (List ℕ))
of_user (User number home token) = (number, (home, token))
of_user _ = user_fields.some

unfoldable pub user_row : Format Row
user_row = made (λ x. User x.0 x.1.0 x.1.1) of_user user_fields

abbrev pub namespace_fields : Format (ℕ × (Bool × (ℕ × (ℕ × List ℕ))))
namespace_fields = both n64 (both flag (both n64 (both n64 (many n64))))

abbrev pub of_namespace : Row → ℕ × (Bool × (ℕ × (ℕ × List ℕ)))
of_namespace (Namespace number shared floor len members) = (number, (shared, (floor, (len, members))))
of_namespace _ = namespace_fields.some

unfoldable pub namespace_row : Format Row
namespace_row = made (λ x. Namespace x.0 x.1.0 x.1.1.0 x.1.1.1.0 x.1.1.1.1) of_namespace namespace_fields

-- the rows of a kind
abbrev pub fields : ℕ → Format Row
fields kind = pick (kind == 128) counters_row (pick (kind == 129) user_row namespace_row)

-- ---- the whole

abbrev pub row_fields : Format (ℕ × Row)
row_fields = follows (byte_where is_kind 128) fields

unfoldable pub checkpoint_row : Format Row
checkpoint_row = made (λ x. x.1) (λ r. (kind_of r, r)) row_fields

-- ---- which rows have a spelling

-- each text and list of the row has a length of four bytes
abbrev pub HasSpelling : Row → Type 0
HasSpelling (Counters rev id session user namespace moment) = ⊤
HasSpelling (User number home token) = IfSome token (λ bytes. length bytes < 2 ^ 32)
HasSpelling (Namespace number shared floor len members) = length members < 2 ^ 32
