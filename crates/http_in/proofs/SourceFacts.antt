-- What a source gives in several reads.
use Rattle.std.proofs.Common.{◌≡◌, ℕ, List, [], ◌++◌, Option, None, Some, refl, sym, ap, ◌∙◌, append_assoc, append-nil}
use Rattle.std.specs.Io.KnownBytes.{append_known, prepend_known}
use Rattle.fh_world.specs.Bytes.{Moves}
use Rattle.http_in.specs.Input.{Fills}

append_none : (known : Option (List ℕ)) → known ≡ append_known known []
append_none None = refl
append_none (Some xs) = ap Some (sym (append-nil xs))

prepend_none : (known : Option (List ℕ)) → known ≡ prepend_known [] known
prepend_none None = refl
prepend_none (Some xs) = refl

append_twice : (known : Option (List ℕ)) (x y : List ℕ) → append_known (append_known known x) y ≡ append_known known (x ++ y)
append_twice None x y = refl
append_twice (Some xs) x y = ap Some (append_assoc xs x y)

prepend_twice : (known : Option (List ℕ)) (x y : List ℕ) → prepend_known x (prepend_known y known) ≡ prepend_known (x ++ y) known
prepend_twice None x y = refl
prepend_twice (Some xs) x y = ap Some (sym (append_assoc x y xs))

pub moves_none : {S : Type 0} (given left : S → Option (List ℕ)) (s : S) → Moves given left s s []
moves_none given left s = record { gave = append_none (given s); took = prepend_none (left s) }

pub moves_more : {S : Type 0} (given left : S → Option (List ℕ)) (a b c : S) (x y : List ℕ)
    → Moves given left a b x → Moves given left b c y → Moves given left a c (x ++ y)
moves_more given left a b c x y one two = record {
  gave = two.gave ∙ ap (λ k. append_known k y) one.gave ∙ append_twice (given a) x y;
  took = one.took ∙ ap (λ k. prepend_known x k) two.took ∙ prepend_twice (left c) x y;
}

pub fills_none : {S : Type 0} (given left : S → Option (List ℕ)) (s : S) (held : List ℕ) → Fills given left s s held held
fills_none given left s held = record { fresh = []; moves = moves_none given left s; behind = sym (append-nil held) }

pub fills_more : {S : Type 0} (given left : S → Option (List ℕ)) (a b c : S) (held mid now : List ℕ)
    → Fills given left a b held mid → Fills given left b c mid now → Fills given left a c held now
fills_more given left a b c held mid now one two = record {
  fresh = one.fresh ++ two.fresh;
  moves = moves_more given left a b c one.fresh two.fresh one.moves two.moves;
  behind = two.behind ∙ ap (λ (k : List ℕ). k ++ two.fresh) one.behind ∙ append_assoc held one.fresh two.fresh;
}
