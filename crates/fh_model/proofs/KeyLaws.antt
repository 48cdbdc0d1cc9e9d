-- Laws of keys: their order is total and ties equal keys alone; what is under what.
use Rattle.std.proofs.Common.{◌≡◌, ◌≢◌, ◌↔◌, ℕ, true, List, [], ◌∷◌, ◌++◌, refl, sym, ap, subst, ◌∙◌, append_assoc}
use Rattle.std.proofs.lemmas.Bool.{false≢true, and_parts, and_from}
use Rattle.std.proofs.lemmas.Cmp.{lists_total, nat_list_cmp_total, tied_itself}
use Rattle.std.proofs.lemmas.Slice.Eq.{bytes_eq-Decides}
use Rattle.std.specs.Cmp.{IsTotalOrder}
use Rattle.std.specs.FinMap.{IsAntisymmetric, nat_cmp-IsAntisymmetric, slice_cmp-IsAntisymmetric}
use Rattle.std.specs.Ordering.{ordering_then}
use Rattle.std.specs.declared.cmp.Ordering.TheVariants.{Less, Equal}
use Rattle.fh_model.specs.Keys.{Key}
use Rattle.fh_model.specs.KeyOrder.{key_cmp, IsUnder, is_under}

pub key_cmp-IsTotalOrder : IsTotalOrder key_cmp
key_cmp-IsTotalOrder = lists_total nat_list_cmp_total

-- only equal keys tie
pub key_cmp-IsAntisymmetric : IsAntisymmetric key_cmp
key_cmp-IsAntisymmetric = slice_cmp-IsAntisymmetric (slice_cmp-IsAntisymmetric nat_cmp-IsAntisymmetric)

-- and equal keys do
pub key_cmp-same : (key : Key) → key_cmp key key ≡ Equal
key_cmp-same key = tied_itself key_cmp-IsTotalOrder key

cons_some : (name : List ℕ) (key : Key) → name ∷ key ≢ []
cons_some name key e = cc

under_from_test : (key base : Key) → is_under key base ≡ true → IsUnder key base
under_from_test [] base h = absurd (false≢true h)
under_from_test (name ∷ key) [] h = record { rest = name ∷ key; some = cons_some name key; joined = refl }
under_from_test (name ∷ key) (first ∷ base) h =
    let both = and_parts _ _ h in
    let under = under_from_test key base both.1 in
    let same : name ≡ first = (bytes_eq-Decides name first).0 both.0 in
    let joined : key ≡ base ++ under.rest = under.joined in
    record { rest = under.rest; some = under.some; joined = cc }

test_from_joined : (base rest : Key) → rest ≢ [] → is_under (base ++ rest) base ≡ true
test_from_joined [] [] some = absurd (some refl)
test_from_joined [] (name ∷ rest) some = refl
test_from_joined (name ∷ base) rest some = and_from _ _ ((bytes_eq-Decides name name).1 refl) (test_from_joined base rest some)

-- the test says what it is for
pub under_by_test : (key base : Key) → (is_under key base ≡ true) ↔ IsUnder key base
under_by_test key base =
    (under_from_test key base, λ under. subst (λ k. is_under k base ≡ true) (sym under.joined) (test_from_joined base under.rest under.some))

-- a key is under each of its proper prefixes
pub under_prefix : (base rest : Key) → rest ≢ [] → IsUnder (base ++ rest) base
under_prefix base rest some = record { rest = rest; some = some; joined = refl }

some_append : (front back : Key) → front ≢ [] → front ++ back ≢ []
some_append [] back some e = some refl
some_append (name ∷ front) back some e = cons_some name (front ++ back) e

pub under_trans : {key middle base : Key} → IsUnder key middle → IsUnder middle base → IsUnder key base
under_trans {base = base} under above = record {
  rest = above.rest ++ under.rest;
  some = some_append above.rest under.rest above.some;
  joined = under.joined ∙ ap (λ k. k ++ under.rest) above.joined ∙ append_assoc base above.rest under.rest;
}

before_joined : (base rest : Key) → rest ≢ [] → key_cmp base (base ++ rest) ≡ Less
before_joined [] [] some = absurd (some refl)
before_joined [] (name ∷ rest) some = refl
before_joined (name ∷ base) rest some =
    ap (λ order. ordering_then order (key_cmp base (base ++ rest))) (tied_itself nat_list_cmp_total name) ∙ before_joined base rest some

-- a key comes before each key under it
pub under_after : {key base : Key} → IsUnder key base → key_cmp base key ≡ Less
under_after {base = base} under = subst (λ k. key_cmp base k ≡ Less) (sym under.joined) (before_joined base under.rest under.some)
