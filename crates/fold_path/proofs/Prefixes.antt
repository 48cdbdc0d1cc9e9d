-- What stripping a prefix says of a text.
use Rattle.std.proofs.Common.{◌≡◌, ℕ, Bool, true, false, List, ◌++◌, Option, None, Some, Bor, length, drop, nat_eq, refl, sym, ap, ◌∙◌}
use Rattle.std.proofs.lemmas.List.{take-append-drop}
use Rattle.std.proofs.lemmas.Slice.Eq.{bytes_eq-Decides}
use Rattle.std.proofs.Math.ListN.{take}
use Rattle.std.proofs.Math.Seq.{take-append_seam}
use Rattle.std.specs.List.{starts_with}
use Rattle.std.specs.Option.{MatchOption}
use Rattle.std.specs.Str.Pattern.{FindsTextPrefix, StripsPrefix}

no_from : (b : Bool) → (b ≡ true → ⊥) → b ≡ false
no_from true h = absurd (h refl)
no_from false h = refl

begins : (prefix rest : List ℕ) → starts_with nat_eq (prefix ++ rest) prefix ≡ true
begins prefix rest = (bytes_eq-Decides prefix (take (length prefix) (prefix ++ rest))).1 (sym (take-append_seam prefix rest))

split : (prefix text : List ℕ) → starts_with nat_eq text prefix ≡ true → text ≡ prefix ++ drop (length prefix) text
split prefix text e =
    sym (take-append-drop (length prefix) text)
    ∙ ap (λ front. front ++ drop (length prefix) text) (sym ((bytes_eq-Decides prefix (take (length prefix) text)).0 e))

pub starts_from_strip : (prefix text : List ℕ) (r : Option (Bor (List ℕ)))
    → MatchOption r (FindsTextPrefix prefix text None) (λ rest. StripsPrefix (FindsTextPrefix prefix) text rest.now)
    → MatchOption r (starts_with nat_eq text prefix ≡ false) (λ rest. (starts_with nat_eq text prefix ≡ true) × (rest.now ≡ drop (length prefix) text))
starts_from_strip prefix text None h = no_from _ (λ e. h (drop (length prefix) text) (split prefix text e))
starts_from_strip prefix text (Some rest) h =
    let n = h.0 in
    let at = h.1 in
    (ap (λ t. starts_with nat_eq t prefix) at.1 ∙ begins prefix (drop n text), h.2 ∙ ap (λ k. drop k text) at.0)
