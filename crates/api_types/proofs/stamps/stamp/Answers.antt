use Rattle.std.proofs.Common.{◌≡◌, ◌/◌, ◌++◌, ap, ap₂, subst, sym, ◌∙◌, IsAscii}
use Rattle.std.proofs.lemmas.Str.{IsAscii-append, IsUtf8-from_ascii}
use Rattle.api_types.specs.Calendar.{date_of}
use Rattle.api_types.proofs.Moments.{stamp_split}
use Rattle.api_types.proofs.stamps.stamp.Goals as goal

pub unreachable-requires : goal.unreachable-requires
unreachable-requires c =
    let text : c.extend_from_slice.new.self.items ≡ date_of (c.args.seconds / 86400) ++ c.time_at.result =
    c.in_ok-extend_from_slice.ensures.items
    ∙ ap₂ (λ front back. front ++ back) (c.in_ok-push_date.ensures.value ∙ ap (λ front. front ++ date_of (c.args.seconds / 86400)) c.in_ok-bytes.ensures.items) c.as_slice.ensures in
    let ascii = IsAscii-append (date_of (c.args.seconds / 86400)) c.time_at.result c.in_ok-push_date.ensures.ascii c.time_at.ensures.ascii in
    let never = c.in-Err.ensures.succeeds (IsUtf8-from_ascii c.extend_from_slice.new.self.items (subst (λ bytes. IsAscii bytes) (sym text) ascii)) in
    absurd (cc)

pub returns : goal.returns
returns c =
    let text : c.extend_from_slice.new.self.items ≡ date_of (c.args.seconds / 86400) ++ c.time_at.result =
    c.in_ok-extend_from_slice.ensures.items
    ∙ ap₂ (λ front back. front ++ back) (c.in_ok-push_date.ensures.value ∙ ap (λ front. front ++ date_of (c.args.seconds / 86400)) c.in_ok-bytes.ensures.items) c.as_slice.ensures in
    c.new.ensures ∙ ap (λ bytes. bytes.items) c.in-Ok.ensures.ok ∙ text
    ∙ ap (λ back. date_of (c.args.seconds / 86400) ++ back) c.time_at.ensures.value ∙ sym (stamp_split c.args.seconds)
