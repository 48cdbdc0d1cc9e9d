-- What is framed.
use Rattle.std.proofs.Common.{◌≡◌, ℕ, ◌+◌, ◌-◌, List, [], ◌∷◌, ◌++◌, length, take, refl, sym, ◌∙◌, ap, arith, length-append}
use Rattle.std.proofs.lemmas.List.{take_at}
use Rattle.gate_journal.specs.Slot.{behind_gate}
use Rattle.gate_journal.specs.Record.{body_in, IsFramed}
use Rattle.gate_journal.proofs.SlotLemmas.{length-behind_gate}

pub framed_long : (framed : List ℕ) → IsFramed framed → length framed ≡ 9 + length (body_in framed)
framed_long framed is = omega (arith, ap length is, length-append (behind_gate (body_in framed)) (0 ∷ []), length-behind_gate (body_in framed))

-- what is framed has its body
pub body_in-framed : (body : List ℕ) → body_in (behind_gate body ++ 0 ∷ []) ≡ body
unfolding behind_gate
body_in-framed body =
    let long : length (behind_gate body ++ 0 ∷ []) - 9 ≡ length body = omega (arith, length-append (behind_gate body) (0 ∷ []), length-behind_gate body) in
    ap (λ (n : ℕ). take n (body ++ 0 ∷ [])) long ∙ take_at body (0 ∷ []) (length body) refl

pub framed_from : (body framed : List ℕ) → framed ≡ behind_gate body ++ 0 ∷ [] → (body_in framed ≡ body) × IsFramed framed
framed_from body framed is =
    let of_body : body_in framed ≡ body = ap body_in is ∙ body_in-framed body in
    (of_body, is ∙ ap (λ (b : List ℕ). behind_gate b ++ 0 ∷ []) (sym of_body))
