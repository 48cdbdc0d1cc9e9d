-- Facts of a block file before and after, where it is told, and what waits after one more call.
use Rattle.std.proofs.Common.{◌≡◌, List, [], ℕ, Option, None, Some, refl, sym, ◌∙◌, subst, inl, inr}
use Rattle.fh_model.specs.declared.commands.Cmd.{Cmd}
use Rattle.fh_model.specs.Pieces.{SamePieces}
use Rattle.fh_model.specs.State.{State}
use Rattle.host_seat.specs.Port.{KeepsPieces, Leaves, OfBoth}

-- a fact of a block file and itself
pub both_same : (P : List ℕ → List ℕ → Type 0) (x : Option (List ℕ)) → ((blocks : List ℕ) → P blocks blocks)
    → OfBoth P x x
both_same P None is = tt
both_same P (Some blocks) is = is blocks

-- one that follows from another
pub both_map : (P R : List ℕ → List ℕ → Type 0) (x y : Option (List ℕ)) → ((a b : List ℕ) → P a b → R a b)
    → OfBoth P x y → OfBoth R x y
both_map P R None None is p = tt
both_map P R None (Some b) is p = p
both_map P R (Some a) None is p = p
both_map P R (Some a) (Some b) is p = is a b p

-- or from two others
pub both_from : (P Q R : List ℕ → List ℕ → Type 0) (x y : Option (List ℕ)) → ((a b : List ℕ) → P a b → Q a b → R a b)
    → OfBoth P x y → OfBoth Q x y → OfBoth R x y
both_from P Q R None None is p q = tt
both_from P Q R None (Some b) is p q = p
both_from P Q R (Some a) None is p q = p
both_from P Q R (Some a) (Some b) is p q = is a b p q

-- what follows from a block file to the next, and from that to a third
pub both_on : (P Q R : List ℕ → List ℕ → Type 0) (x y z : Option (List ℕ)) → ((a b c : List ℕ) → P a b → Q b c → R a c)
    → OfBoth P x y → OfBoth Q y z → OfBoth R x z
both_on P Q R None None None is p q = tt
both_on P Q R None None (Some c) is p q = q
both_on P Q R None (Some b) z is p q = absurd p
both_on P Q R (Some a) None z is p q = absurd p
both_on P Q R (Some a) (Some b) None is p q = q
both_on P Q R (Some a) (Some b) (Some c) is p q = is a b c p q

-- the pieces keep their bytes, where it stayed as it was
pub keeps_same : (s : State) (x y : Option (List ℕ)) → y ≡ x → KeepsPieces s x y
keeps_same s x y same =
    subst (λ (o : Option (List ℕ)). KeepsPieces s x o) (sym same)
    (both_same (λ before after. SamePieces s after before) x (λ blocks. refl))

-- and where they kept them from one call to the next
pub keeps_on : (s : State) (x y z : Option (List ℕ)) → KeepsPieces s x y → KeepsPieces s y z → KeepsPieces s x z
keeps_on s x y z =
    let P : List ℕ → List ℕ → Type 0 = λ before after. SamePieces s after before in
    both_on P P P x y z (λ a b c p q. q ∙ p)

-- what waits after one more call
pub leaves_more : (a b c failed : List Cmd) → Leaves a [] b → Leaves b failed c → Leaves a failed c
leaves_more a b c failed (inl e) (inl f) = inl (f ∙ e)
leaves_more a b c failed (inr (inl e)) (inl f) = inr (inl (f ∙ e))
leaves_more a b c failed (inr (inr e)) (inl f) = inr (inl (f ∙ e))
leaves_more a b c failed h (inr (inl f)) = inr (inl f)
leaves_more a b c failed h (inr (inr f)) = inr (inr f)
