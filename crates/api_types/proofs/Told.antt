-- The moment of a text, by the moments that have it.
use Rattle.std.proofs.Common.{◌≡◌, ℕ, zero, suc, ◌<◌, ◌≤◌, Bool, true, false, if◌then◌else◌, List, Option, None, Some, refl, sym, ap, ◌∙◌, inl, inr, eq-or-lt_of_le, arith}
use Rattle.std.proofs.lemmas.Slice.Eq.{bytes_eq-Decides}
use Rattle.std.specs.Str.{bytes_eq}
use Rattle.fh_model.specs.Stamps.{stamp_text}
use Rattle.api_types.specs.Stamps.{IsStamp, last_below, moment_of}

tests_as : (test : Bool) (n : ℕ) (other : Option ℕ) → test ≡ true → (if test then Some n else other) ≡ Some n
tests_as true n other is = refl
tests_as false n other is = absurd (cc)

passed_over : (test : Bool) (n : ℕ) (other : Option ℕ) → (test ≡ true → ⊥) → (if test then Some n else other) ≡ other
passed_over true n other fails = absurd (fails refl)
passed_over false n other fails = refl

-- the only number that passes the test is found
last_by : (test : ℕ → Bool) (n s : ℕ) (here : Bool) → here ≡ test n → (here ≡ true → n ≡ s) → test s ≡ true → s < suc n
    → (s < n → last_below test n ≡ Some s) → (if here then Some n else last_below test n) ≡ Some s
last_by test n s true is only passes within next = ap (λ k. Some k) (only refl)
last_by test n s false is only passes within next =
    let most : s ≤ n = omega arith in
    next (elim (eq-or-lt_of_le most) [ inl same ↦ absurd (cc (ap test same)) | inr less ↦ less ])

last_found : (test : ℕ → Bool) (n s : ℕ) → s < n → test s ≡ true → ((t : ℕ) → test t ≡ true → t < n → t ≡ s) → last_below test n ≡ Some s
unfolding last_below
last_found test zero s within passes only = absurd (omega arith)
last_found test (suc n) s within passes only =
    last_by test n s (test n) refl (λ here. only n here (omega arith)) passes within
    (λ less. last_found test n s less passes (λ t ok small. only t ok (omega arith)))

none_found : (test : ℕ → Bool) (n : ℕ) → ((t : ℕ) → t < n → test t ≡ true → ⊥) → last_below test n ≡ None
unfolding last_below
none_found test zero fails = refl
none_found test (suc n) fails = passed_over (test n) n (last_below test n) (fails n (omega arith)) ∙ none_found test n (λ t less. fails t (omega arith))

pub moment_told : (text : List ℕ) (s : ℕ) → IsStamp text s → ((t : ℕ) → IsStamp text t → t ≡ s) → moment_of text ≡ Some s
unfolding moment_of
moment_told text s stamp only =
    last_found (λ k. bytes_eq (stamp_text k) text) 253402300800 s (omega (arith, stamp.0)) ((bytes_eq-Decides (stamp_text s) text).1 (sym stamp.1))
    (λ t ok small. only t (omega arith, sym ((bytes_eq-Decides (stamp_text t) text).0 ok)))

pub moment_untold : (text : List ℕ) → ((s : ℕ) → IsStamp text s → ⊥) → moment_of text ≡ None
unfolding moment_of
moment_untold text none =
    none_found (λ k. bytes_eq (stamp_text k) text) 253402300800
    (λ t less ok. none t (omega arith, sym ((bytes_eq-Decides (stamp_text t) text).0 ok)))
