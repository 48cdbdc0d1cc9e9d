-- A connection goes on by more requests.
use Rattle.std.proofs.Common.{◌≡◌, ℕ, suc, ◌+◌, List, [], ◌∷◌, ◌++◌, length, refl, sym, ◌∙◌, ap, append_assoc, arith}
use Rattle.std.proofs.Math.Nat.{add-zero}
use Rattle.fh_model.specs.History.{state_after}
use Rattle.fh_model.specs.State.{State}
use Rattle.fh_model.proofs.Runs.{state_after-append}
use Rattle.session_rules.specs.Connection.{Desk, Turn, text_in, gained_in, texts, gained}

-- what the history gains by them
pub gained-append : (desk : Desk) (s : State) (turns more : List Turn)
    → gained desk s (turns ++ more) ≡ gained desk s turns ++ gained desk (state_after s (gained desk s turns)) more
gained-append desk s [] more = refl
gained-append desk s (u ∷ turns) more =
    let next = state_after s (gained_in desk s u) in
    ap (λ l. gained_in desk s u ++ l) (gained-append desk next turns more)
    ∙ sym (append_assoc (gained_in desk s u) (gained desk next turns) (gained desk (state_after next (gained desk next turns)) more))
    ∙ ap (λ z. (gained_in desk s u ++ gained desk next turns) ++ gained desk z more) (sym (state_after-append s (gained_in desk s u) (gained desk next turns)))

one_on : (n k : ℕ) → n + 1 + k ≡ n + suc k
one_on n k = omega arith

-- and what they add to the texts
pub texts-append : (desk : Desk) (s : State) (n : ℕ) (turns more : List Turn)
    → texts desk s n (turns ++ more) ≡ texts desk s n turns ++ texts desk (state_after s (gained desk s turns)) (n + length turns) more
texts-append desk s n [] more = ap (λ k. texts desk s k more) (sym (add-zero n))
texts-append desk s n (u ∷ turns) more =
    let next = state_after s (gained_in desk s u) in
    ap (λ l. text_in desk s n u ++ l) (texts-append desk next (n + 1) turns more)
    ∙ sym (append_assoc (text_in desk s n u) (texts desk next (n + 1) turns) (texts desk (state_after next (gained desk next turns)) (n + 1 + length turns) more))
    ∙ ap (λ z. (text_in desk s n u ++ texts desk next (n + 1) turns) ++ texts desk z (n + 1 + length turns) more) (sym (state_after-append s (gained_in desk s u) (gained desk next turns)))
    ∙ ap (λ k. (text_in desk s n u ++ texts desk next (n + 1) turns) ++ texts desk (state_after s (gained desk s (u ∷ turns))) k more) (one_on n (length turns))
