-- What stands at the proper prefixes of names.
use Rattle.std.proofs.Common.{◌≡◌, ℕ, zero, suc, ◌+◌, ◌≤◌, ◌<◌, Bool, true, false, ◌&&◌, ◌||◌, cond, is_some, List, [], ◌∷◌, find, take, length, Option, None, Some, refl, sym, ap, ◌∙◌, arith}
use Rattle.std.proofs.lemmas.Bool.{and_parts, and_from}
use Rattle.std.proofs.lemmas.Slice.Eq.{bytes_eq-Decides}
use Rattle.std.specs.List.{list_all, list_any}
use Rattle.std.specs.declared.cmp.Ordering.TheVariants.{Less, Equal}
use borrow.Author.Count.{below_more}
use Rattle.fh_model.proofs.KeyLaws.{key_cmp-same, under_by_test, under_after}
use Rattle.fh_model.specs.declared.changes.Item.{Item}
use Rattle.fh_model.specs.declared.changes.Node.{Node}
use Rattle.fh_model.specs.declared.names.Name.{Name}
use Rattle.fh_model.specs.KeyOrder.{key_cmp, is_under}
use Rattle.fh_model.specs.Keys.{Key, key_of, has_key}
use Rattle.fh_model.specs.TreeOrder.{comes_before, is_in_order}
use Rattle.fh_model.specs.Trees.{Tree, item_at}
use Rattle.name_core.proofs.KeyLemmas.{has_key_is, has_own_key, less_is, turned}

-- ---- prefixes

under_take : (names base : List Name) → is_under (key_of names) (key_of base) ≡ true → (length base < length names) × (key_of (take (length base) names) ≡ key_of base)
under_take [] base under = cc
under_take (name ∷ names) [] under = (omega arith, refl)
under_take (name ∷ names) (first ∷ base) under =
    let both = and_parts _ _ under in
    let same : name.folded ≡ first.folded = (bytes_eq-Decides name.folded first.folded).0 both.0 in
    let rest = under_take names base both.1 in
    let keys : key_of (take (length base) names) ≡ key_of base = rest.1 in
    (omega (arith, rest.0), cc)

take_under : (names : List Name) (count : ℕ) → count < length names → is_under (key_of names) (key_of (take count names)) ≡ true
take_under [] count less = absurd (omega arith)
take_under (name ∷ names) zero less = refl
take_under (name ∷ names) (suc count) less = and_from _ _ ((bytes_eq-Decides name.folded name.folded).1 refl) (take_under names count (omega arith))

take_further : (names : List Name) (count more : ℕ) → count < more → more ≤ length names → is_under (key_of (take more names)) (key_of (take count names)) ≡ true
take_further [] count more less fits = absurd (omega arith)
take_further (name ∷ names) count zero less fits = absurd (omega arith)
take_further (name ∷ names) zero (suc more) less fits = refl
take_further (name ∷ names) (suc count) (suc more) less fits =
    and_from _ _ ((bytes_eq-Decides name.folded name.folded).1 refl) (take_further names count more (omega arith) (omega arith))

by_three : (m n : ℕ) (P : Type 0) → (m < n → P) → (m ≡ n → P) → (n < m → P) → P
by_three zero zero P less same more = same refl
by_three zero (suc n) P less same more = less (omega arith)
by_three (suc m) zero P less same more = more (omega arith)
by_three (suc m) (suc n) P less same more = by_three m n P (λ l. less (omega arith)) (λ e. same (ap suc e)) (λ l. more (omega arith))

-- ---- what is found

found_has : (p test : Item → Bool) (tree : Tree) (item : Item) → list_all p tree ≡ true → find test tree ≡ Some item → p item ≡ true
found_has p test [] item all is = cc
found_has p test (first ∷ tree) item all is = go (test first) (found_has p test tree item (and_parts _ _ all).1) is
  where
    go : (b : Bool) → (find test tree ≡ Some item → p item ≡ true) → cond b (Some first) (find test tree) ≡ Some item → p item ≡ true
    go true rest e = let same : first ≡ item = cc in ap p (sym same) ∙ (and_parts _ _ all).0
    go false rest e = rest e

found_passes : (test : Item → Bool) (tree : Tree) (item : Item) → find test tree ≡ Some item → test item ≡ true
found_passes test [] item is = cc
found_passes test (first ∷ tree) item is = go (test first) refl (found_passes test tree item) is
  where
    go : (b : Bool) → test first ≡ b → (find test tree ≡ Some item → test item ≡ true) → cond b (Some first) (find test tree) ≡ Some item → test item ≡ true
    go true passes rest e = let same : first ≡ item = cc in ap test (sym same) ∙ passes
    go false passes rest e = rest e

pub any_found : (test : Item → Bool) (tree : Tree) → list_any test tree ≡ is_some (find test tree)
any_found test [] = refl
any_found test (item ∷ tree) = go (test item) (any_found test tree)
  where
    go : (b : Bool) → list_any test tree ≡ is_some (find test tree) → (b || list_any test tree) ≡ is_some (cond b (Some item) (find test tree))
    go true rest = refl
    go false rest = rest

-- no item at a prefix of fewer names passes the test
pub record NoneAbove (test : Node → Bool) (tree : Tree) (names : List Name) (count : ℕ) : Type 0 where
  pub none : (fewer : ℕ) → fewer < count → (one : Item) → item_at tree (key_of (take fewer names)) ≡ Some one → test one.node ≡ false

none_further : (test : Node → Bool) (tree : Tree) (names : List Name) (count : ℕ) → NoneAbove test tree names count
    → ((one : Item) → item_at tree (key_of (take count names)) ≡ Some one → test one.node ≡ false) → NoneAbove test tree names (count + 1)
none_further test tree names count above here = record { none = go }
  where
    go : (fewer : ℕ) → fewer < count + 1 → (one : Item) → item_at tree (key_of (take fewer names)) ≡ Some one → test one.node ≡ false
    go = below_more (λ fewer. (one : Item) → item_at tree (key_of (take fewer names)) ≡ Some one → test one.node ≡ false) count above.none here

pub none_at_nothing : (test : Node → Bool) (tree : Tree) (names : List Name) (count : ℕ) → NoneAbove test tree names count
    → None ≡ item_at tree (key_of (take count names)) → NoneAbove test tree names (count + 1)
none_at_nothing test tree names count above is = none_further test tree names count above (λ one found. let e = is ∙ found in cc)

pub none_at_item : (test : Node → Bool) (tree : Tree) (names : List Name) (count : ℕ) (item : Item) → NoneAbove test tree names count
    → Some item ≡ item_at tree (key_of (take count names)) → test item.node ≡ false → NoneAbove test tree names (count + 1)
none_at_item test tree names count item above is fails =
    none_further test tree names count above (λ one found. let e : Some item ≡ Some one = is ∙ found in let same : item ≡ one = cc in ap (λ (i : Item). test i.node) (sym same) ∙ fails)

apart_behind : (key : Key) (item : Item) (tree : Tree) (one : Item) → list_all (comes_before item) tree ≡ true → has_key item.names key ≡ true
    → item_at tree key ≡ Some one → true ≡ false
apart_behind key item tree one ahead has is =
    let later : key_cmp (key_of item.names) (key_of one.names) ≡ Less = less_is _ (found_has (comes_before item) (λ other. has_key other.names key) tree one ahead is) in
    let key_one : key_of one.names ≡ key = has_key_is one.names key (found_passes (λ (other : Item). has_key other.names key) tree one is) in
    let key_item : key_of item.names ≡ key = has_key_is item.names key has in
    let same : key_cmp (key_of item.names) (key_of one.names) ≡ Equal =
    ap (λ k. key_cmp k (key_of one.names)) (key_item ∙ sym key_one) ∙ key_cmp-same (key_of one.names) in
    cc

-- the items behind the first
none_behind : (test : Node → Bool) (item : Item) (tree : Tree) (names : List Name) (count : ℕ) → list_all (comes_before item) tree ≡ true
    → NoneAbove test (item ∷ tree) names count → NoneAbove test tree names count
none_behind test item tree names count ahead above = record {
  none = λ fewer less one is.
      go fewer one is (above.none fewer less one) (has_key item.names (key_of (take fewer names))) refl;
}
  where
    go : (fewer : ℕ) (one : Item) → item_at tree (key_of (take fewer names)) ≡ Some one
        → (item_at (item ∷ tree) (key_of (take fewer names)) ≡ Some one → test one.node ≡ false)
        → (b : Bool) → has_key item.names (key_of (take fewer names)) ≡ b → test one.node ≡ false
    go fewer one is rest true has = let e = apart_behind (key_of (take fewer names)) item tree one ahead has is in cc
    go fewer one is rest false has = rest (ap (λ (b : Bool). cond b (Some item) (item_at tree (key_of (take fewer names)))) has ∙ is)

-- the first item stands at a prefix, and so isn't one that passes
first_fails : (test : Node → Bool) (item : Item) (tree : Tree) (names : List Name) (count : ℕ) → NoneAbove test (item ∷ tree) names count
    → length item.names < count → is_under (key_of names) (key_of item.names) ≡ true → test item.node ≡ false
first_fails test item tree names count above less under =
    let keys : key_of (take (length item.names) names) ≡ key_of item.names = (under_take names item.names under).1 in
    let has : has_key item.names (key_of (take (length item.names) names)) ≡ true = ap (has_key item.names) keys ∙ has_own_key item.names in
    above.none (length item.names) less item (ap (λ (b : Bool). cond b (Some item) (item_at tree (key_of (take (length item.names) names)))) has)

pub none_found : (test : Node → Bool) (tree : Tree) (names : List Name) → is_in_order tree ≡ true → NoneAbove test tree names (length names)
    → find (λ item. test item.node && is_under (key_of names) (key_of item.names)) tree ≡ None
none_found test [] names order above = refl
none_found test (item ∷ tree) names order above =
    go (test item.node) refl (is_under (key_of names) (key_of item.names)) refl
    (none_found test tree names (and_parts _ _ order).1 (none_behind test item tree names (length names) (and_parts _ _ order).0 above))
  where
    rest : Option Item
    rest = find (λ item. test item.node && is_under (key_of names) (key_of item.names)) tree

    go : (t : Bool) → test item.node ≡ t → (u : Bool) → is_under (key_of names) (key_of item.names) ≡ u → rest ≡ None → cond (t && u) (Some item) rest ≡ None
    go true e true f none = let g = first_fails test item tree names (length names) above (under_take names item.names f).0 f in cc
    go true e false f none = none
    go false e true f none = none
    go false e false f none = none

-- of the items at prefixes, the one at the fewest names is the first of them
pub first_found : (test : Node → Bool) (tree : Tree) (names : List Name) (count : ℕ) (one : Item) → is_in_order tree ≡ true → count < length names
    → NoneAbove test tree names count → Some one ≡ item_at tree (key_of (take count names)) → test one.node ≡ true
    → Some one ≡ find (λ item. test item.node && is_under (key_of names) (key_of item.names)) tree
first_found test [] names count one order less above is passes = cc
first_found test (item ∷ tree) names count one order less above is passes =
    here (has_key item.names key) refl is
    (λ later. first_found test tree names count one (and_parts _ _ order).1 less (none_behind test item tree names count (and_parts _ _ order).0 above) later passes)
  where
    key : Key
    key = key_of (take count names)

    rest : Option Item
    rest = find (λ item. test item.node && is_under (key_of names) (key_of item.names)) tree

    ahead : list_all (comes_before item) tree ≡ true
    ahead = (and_parts _ _ order).0

    -- the first item isn't one that passes, at a prefix
    fails : has_key item.names key ≡ false → Some one ≡ item_at tree key → test item.node ≡ true → is_under (key_of names) (key_of item.names) ≡ true → true ≡ false
    fails apart later pass under = by_three (length item.names) count (true ≡ false) (λ l.
        let e = first_fails test item tree names count above l under in cc) (λ same.
        let keys : key_of (take (length item.names) names) ≡ key_of item.names = (under_take names item.names under).1 in
        let has : has_key item.names key ≡ true = ap (λ n. has_key item.names (key_of (take n names))) (sym same) ∙ ap (has_key item.names) keys ∙ has_own_key item.names in
        cc) (λ more.
        let keys : key_of (take (length item.names) names) ≡ key_of item.names = (under_take names item.names under).1 in
        let key_one : key_of one.names ≡ key = has_key_is one.names key (found_passes (λ (other : Item). has_key other.names key) tree one (sym later)) in
        let below : is_under (key_of (take (length item.names) names)) key ≡ true = take_further names count (length item.names) more (omega (arith, (under_take names item.names under).0)) in
        let under_one : is_under (key_of item.names) (key_of one.names) ≡ true = ap (λ k. is_under k (key_of one.names)) (sym keys) ∙ ap (is_under (key_of (take (length item.names) names))) key_one ∙ below in
        let over : key_cmp (key_of one.names) (key_of item.names) ≡ Less = under_after ((under_by_test (key_of item.names) (key_of one.names)).0 under_one) in
        let turn = turned (key_of one.names) (key_of item.names) over in
        let comes : key_cmp (key_of item.names) (key_of one.names) ≡ Less = less_is _ (found_has (comes_before item) (λ other. has_key other.names key) tree one ahead (sym later)) in
        cc)

    there : has_key item.names key ≡ true → Some one ≡ Some item → Some one ≡ cond (test item.node && is_under (key_of names) (key_of item.names)) (Some item) rest
    there has e =
        let same : one ≡ item = cc in
        let under : is_under (key_of names) (key_of item.names) ≡ true = ap (is_under (key_of names)) (has_key_is item.names key has) ∙ take_under names count less in
        let pass : test item.node ≡ true = ap (λ (i : Item). test i.node) (sym same) ∙ passes in
        e ∙ sym (ap (λ (b : Bool). cond b (Some item) rest) (and_from _ _ pass under))

    behind : has_key item.names key ≡ false → Some one ≡ item_at tree key → (Some one ≡ item_at tree key → Some one ≡ rest)
        → (t : Bool) → test item.node ≡ t → (u : Bool) → is_under (key_of names) (key_of item.names) ≡ u → Some one ≡ cond (t && u) (Some item) rest
    behind apart e later true pass true under = let f = fails apart e pass under in cc
    behind apart e later true pass false under = later e
    behind apart e later false pass true under = later e
    behind apart e later false pass false under = later e

    here : (b : Bool) → has_key item.names key ≡ b → Some one ≡ cond b (Some item) (item_at tree key) → (Some one ≡ item_at tree key → Some one ≡ rest)
        → Some one ≡ cond (test item.node && is_under (key_of names) (key_of item.names)) (Some item) rest
    here true has e later = there has e
    here false apart e later = behind apart e later (test item.node) refl (is_under (key_of names) (key_of item.names)) refl
