use Rattle.std.proofs.Common.{◌≡◌, ℕ, ◌+◌, min, [], ◌∷◌, length, drop, ◌∙◌, arith, length-drop}
use Rattle.std.proofs.lemmas.Bool.Decides.{nat_tests}
use Rattle.std.proofs.lemmas.Slice.Zip.{zip_end}
use Rattle.std.specs.Ordering.{nat_cmp}
use Rattle.fh_model.specs.Keys.{Key}
use Rattle.fh_model.specs.KeyOrder.{key_cmp}
use Rattle.fh_model.proofs.keys.compare.Goals as goal

-- where the names of one are at their end, the lengths decide
ends : (names others : Key) (a b n : ℕ) → length names + n ≡ a → length others + n ≡ b → n ≡ min a b → nat_cmp a b ≡ key_cmp names others
ends [] [] a b n p q e = grind (arith, nat_tests)
ends [] (other ∷ others) a b n p q e = grind (arith, nat_tests)
ends (name ∷ names) [] a b n p q e = grind (arith, nat_tests)
ends (name ∷ names) (other ∷ others) a b n p q e = absurd (omega arith)

pub returns : goal.returns
returns c =
    let names = c.args.names.now in
    let others = c.args.others.now in
    let n = length c.loop-name.yielded in
    let shared : n ≡ min (length names) (length others) = zip_end names others c.loop-name.yielded _ _ c.next.new.self _ (cc) (cc) c.loop-name.yielded_by c.in-None.is c.next.ensures.steps in
    let at_end : nat_cmp (length names) (length others) ≡ key_cmp (drop n names) (drop n others) =
    ends (drop n names) (drop n others) _ _ n (omega (arith, length-drop n names)) (omega (arith, length-drop n others)) shared in
    c.cmp.ensures ∙ at_end ∙ c.loop-name.invariant
