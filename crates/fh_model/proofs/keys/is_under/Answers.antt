use Rattle.std.proofs.Common.{◌≡◌, ℕ, ◌+◌, ◌<◌, ◌≤◌, min, Bool, true, false, ◌&&◌, [], ◌∷◌, length, drop, refl, sym, ◌∙◌, subst, arith, length-drop}
use Rattle.std.proofs.lemmas.Slice.Zip.{zip_end}
use Rattle.std.specs.Str.{bytes_eq}
use Rattle.fh_model.specs.Keys.{Key}
use Rattle.fh_model.specs.KeyOrder.{is_under}
use Rattle.fh_model.proofs.keys.is_under.Goals as goal

and_no : (b : Bool) → false ≡ (b && false)
and_no true = refl
and_no false = refl

-- a key is under none that is as long
short : (names base : Key) → length names ≤ length base → false ≡ is_under names base
short [] base h = refl
short (name ∷ names) [] h = absurd (omega arith)
short (name ∷ names) (first ∷ base) h =
    subst (λ r. false ≡ (bytes_eq name first && r)) (short names base (omega arith)) (and_no (bytes_eq name first))

-- where the names of the base are at their end, there is a name behind them
ends : (names base : Key) (a b n : ℕ) → length names + n ≡ a → length base + n ≡ b → n ≡ min a b → b < a → is_under names base ≡ true
ends [] base a b n p q e h = absurd (omega arith)
ends (name ∷ names) [] a b n p q e h = refl
ends (name ∷ names) (first ∷ base) a b n p q e h = absurd (omega arith)

pub returns-then-names-base : goal.returns-then-names-base
returns-then-names-base c = short c.args.names.now c.args.base.now (omega arith)

pub returns : goal.returns
returns c =
    let names = c.args.names.now in
    let base = c.args.base.now in
    let n = length c.loop-name.yielded in
    let shared : n ≡ min (length names) (length base) = zip_end names base c.loop-name.yielded _ _ c.next.new.self _ (cc) (cc) c.loop-name.yielded_by c.in-None.is c.next.ensures.steps in
    let at_end : is_under (drop n names) (drop n base) ≡ true =
    ends (drop n names) (drop n base) _ _ n (omega (arith, length-drop n names)) (omega (arith, length-drop n base)) shared (omega arith) in
    sym at_end ∙ c.loop-name.invariant
