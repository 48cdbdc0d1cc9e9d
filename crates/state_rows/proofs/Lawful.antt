-- Rows keep the laws of formats.
use Rattle.std.proofs.Common.{◌≡◌, ℕ, true, refl, ap}
use Rattle.fh_model.specs.declared.rows.Row.{Row}
use Rattle.fh_model.specs.declared.rows.Row.TheVariants.{Counters, User, Namespace}
use Rattle.byte_formats.specs.Formats.{byte_where}
use Rattle.byte_formats.specs.Fields.{n64, flag}
use Rattle.byte_formats.specs.Lists.{text}
use Rattle.byte_formats.proofs.Laws.{Lawful, follows_lawful, both_lawful, made_lawful, byte_lawful}
use Rattle.byte_formats.proofs.KindLaws.{OfKind, pick_kind, last_kind, made_kind}
use Rattle.byte_formats.proofs.FieldLaws.{n64_lawful, flag_lawful, optional_lawful}
use Rattle.byte_formats.proofs.ListLaws.{text_lawful, many_lawful}
use Rattle.state_rows.specs.Rows.{kind_of, is_kind, next_fields, next_numbers, counters_fields, of_counters, counters_row, user_fields, of_user, user_row, namespace_fields, of_namespace, namespace_row, fields, row_fields, checkpoint_row}

next_numbers_lawful : Lawful next_numbers
unfolding next_numbers
next_numbers_lawful = made_lawful (λ x. record { rev = x.0; id = x.1.0; session = x.1.1.0; user = x.1.1.1.0; namespace = x.1.1.1.1 })
    (λ next. (next.rev, (next.id, (next.session, (next.user, next.namespace))))) next_fields (λ _ _. refl)
    (both_lawful n64 _ n64_lawful (both_lawful n64 _ n64_lawful (both_lawful n64 _ n64_lawful (both_lawful n64 n64 n64_lawful n64_lawful))))

counters_kind : OfKind kind_of 128 counters_row
unfolding counters_row
counters_kind = made_kind kind_of 128 (λ x. Counters x.0.rev x.0.id x.0.session x.0.user x.0.namespace x.1) of_counters counters_fields (λ _. refl) (λ _. refl)
    (both_lawful next_numbers n64 next_numbers_lawful n64_lawful)

user_kind : OfKind kind_of 129 user_row
unfolding user_row
user_kind = made_kind kind_of 129 (λ x. User x.0 x.1.0 x.1.1) of_user user_fields (λ _. refl) (λ _. refl)
    (both_lawful n64 _ n64_lawful (both_lawful n64 _ n64_lawful (optional_lawful text text_lawful)))

namespace_kind : OfKind kind_of 130 namespace_row
unfolding namespace_row
namespace_kind = made_kind kind_of 130 (λ x. Namespace x.0 x.1.0 x.1.1.0 x.1.1.1.0 x.1.1.1.1) of_namespace namespace_fields (λ _. refl) (λ _. refl)
    (both_lawful n64 _ n64_lawful (both_lawful flag _ flag_lawful (both_lawful n64 _ n64_lawful (both_lawful n64 _ n64_lawful (many_lawful n64 n64_lawful)))))

fields_kind : (kind : ℕ) → is_kind kind ≡ true → OfKind kind_of kind (fields kind)
fields_kind kind h =
    pick_kind kind_of kind 128 counters_row _ counters_kind (λ not_counters.
    pick_kind kind_of kind 129 user_row _ user_kind (λ not_user.
    last_kind kind_of kind 130 namespace_row namespace_kind (rw (not_counters, not_user) at h)))

pub row_lawful : Lawful checkpoint_row
unfolding checkpoint_row
row_lawful =
    made_lawful (λ (x : ℕ × Row). x.1) (λ r. (kind_of r, r)) row_fields
    (λ x h. ap (λ (kind : ℕ). (kind, x.1)) ((fields_kind x.0 h.0).kind x.1 h.1))
    (follows_lawful (byte_where is_kind 128) fields (byte_lawful is_kind 128 refl) (λ kind h. (fields_kind kind h).lawful))
