-- Keys, and the names that have them.
use Rattle.std.proofs.Common.{◌≡◌, ℕ, Bool, true, false, ◌&&◌, ◌||◌, List, [], ◌∷◌, refl, sym, ap, ◌∙◌}
use Rattle.std.proofs.lemmas.Bool.{and_parts, and_from}
use Rattle.std.proofs.lemmas.Slice.Eq.{bytes_eq-Decides}
use Rattle.std.specs.FinMap.{nat_cmp-IsAntisymmetric, slice_cmp-IsAntisymmetric}
use Rattle.std.specs.Ordering.{is_lt, is_gt, ordering_reverse, ordering_then}
use Rattle.std.specs.Str.{bytes_eq}
use Rattle.std.specs.declared.cmp.Ordering.{Ordering}
use Rattle.std.specs.declared.cmp.Ordering.TheVariants.{Less, Equal, Greater}
use Rattle.fh_model.proofs.KeyLaws.{key_cmp-IsTotalOrder, key_cmp-IsAntisymmetric, key_cmp-same, under_by_test, under_after}
use Rattle.fh_model.specs.declared.names.Name.{Name}
use Rattle.fh_model.specs.KeyOrder.{name_cmp, key_cmp, is_under}
use Rattle.fh_model.specs.Keys.{Key, key_of, has_key}

pub less_is : (order : Ordering) → is_lt order ≡ true → order ≡ Less
less_is Less h = refl
less_is Equal h = cc
less_is Greater h = cc

pub has_key_is : (names : List Name) (key : Key) → has_key names key ≡ true → key_of names ≡ key
has_key_is [] [] h = refl
has_key_is [] (first ∷ key) h = cc
has_key_is (name ∷ names) [] h = cc
has_key_is (name ∷ names) (first ∷ key) h =
    let both = and_parts _ _ h in
    let same : name.folded ≡ first = (bytes_eq-Decides name.folded first).0 both.0 in
    let rest : key_of names ≡ key = has_key_is names key both.1 in
    cc

pub has_own_key : (names : List Name) → has_key names (key_of names) ≡ true
has_own_key [] = refl
has_own_key (name ∷ names) = and_from _ _ ((bytes_eq-Decides name.folded name.folded).1 refl) (has_own_key names)

-- a key that comes before another turns round
pub turned : (key other : Key) → key_cmp key other ≡ Less → key_cmp other key ≡ Greater
turned key other h = key_cmp-IsTotalOrder.antisymm other key ∙ ap ordering_reverse h

pub turned_back : (key other : Key) → key_cmp key other ≡ Greater → key_cmp other key ≡ Less
turned_back key other h = key_cmp-IsTotalOrder.antisymm other key ∙ ap ordering_reverse h

-- names with the key of others don't come before it
pub has_ties : (names : List Name) (key : Key) → has_key names key ≡ true → key_cmp (key_of names) key ≡ Equal
has_ties names key h = ap (λ k. key_cmp k key) (has_key_is names key h) ∙ key_cmp-same key

pub under_greater : (key base : Key) → is_under key base ≡ true → key_cmp key base ≡ Greater
under_greater key base h = turned base key (under_after ((under_by_test key base).0 h))

-- what is at a key or under it doesn't come before it
pub before_apart : (names : List Name) (key : Key) → is_lt (key_cmp (key_of names) key) ≡ true → (has_key names key || is_under (key_of names) key) ≡ false
before_apart names key less = one (has_key names key) refl (is_under (key_of names) key) refl
  where
    one : (has : Bool) → has_key names key ≡ has → (under : Bool) → is_under (key_of names) key ≡ under → (has || under) ≡ false
    one true h under k = let e = has_ties names key h in let l = less_is _ less in cc
    one false h true k = let e = under_greater (key_of names) key k in let l = less_is _ less in cc
    one false h false k = refl

-- what doesn't come before a key, and isn't at it, comes behind it
pub behind_from : (names : List Name) (key : Key) → is_lt (key_cmp (key_of names) key) ≡ false → has_key names key ≡ false → is_gt (key_cmp (key_of names) key) ≡ true
behind_from names key least apart = one (key_cmp (key_of names) key) refl
  where
    one : (order : Ordering) → key_cmp (key_of names) key ≡ order → is_gt order ≡ true
    one Less e = let f = ap is_lt e in cc
    one Equal e =
        let same : key_of names ≡ key = key_cmp-IsAntisymmetric (key_of names) key e in
        let has : has_key names key ≡ true = ap (λ k. has_key names k) (sym same) ∙ has_own_key names in
        cc
    one Greater e = refl

-- what comes behind what doesn't come before a key comes behind the key
pub behind_next : (first later key : Key) → is_lt (key_cmp first key) ≡ false → is_lt (key_cmp first later) ≡ true → key_cmp later key ≡ Greater
behind_next first later key least less = one (key_cmp first key) refl
  where
    one : (order : Ordering) → key_cmp first key ≡ order → key_cmp later key ≡ Greater
    one Less e = let f = ap is_lt e in cc
    one Equal e = ap (λ k. key_cmp later k) (sym (key_cmp-IsAntisymmetric first key e)) ∙ turned first later (less_is _ less)
    one Greater e = turned key later (key_cmp-IsTotalOrder.trans key first later (turned_back first key e) (less_is _ less))

name_cmp_same : (name other : List ℕ) → name_cmp name other ≡ Equal → name ≡ other
name_cmp_same = slice_cmp-IsAntisymmetric nat_cmp-IsAntisymmetric

-- Between a key and one under it there are only the key and those under it.
pub between : (names : List Name) (key later : Key) → is_lt (key_cmp (key_of names) key) ≡ false → is_lt (key_cmp (key_of names) later) ≡ true
    → is_under later key ≡ true → (has_key names key || is_under (key_of names) key) ≡ true
between [] [] later least less under = refl
between [] (first ∷ key) later least less under = cc
between (name ∷ names) [] later least less under = refl
between (name ∷ names) (first ∷ key) [] least less under = cc
between (name ∷ names) (first ∷ key) (other ∷ later) least less under =
    one (name_cmp name.folded first) refl (λ least_rest less_rest. between names key later least_rest less_rest parts.1)
  where
    parts : (bytes_eq other first ≡ true) × (is_under later key ≡ true)
    parts = and_parts _ _ under

    same : other ≡ first
    same = (bytes_eq-Decides other first).0 parts.0

    both : (b : Bool) → b ≡ true → (has_key names key || is_under (key_of names) key) ≡ true → ((b && has_key names key) || (b && is_under (key_of names) key)) ≡ true
    both true e h = h
    both false e h = cc

    one : (order : Ordering) → name_cmp name.folded first ≡ order
        → (is_lt (key_cmp (key_of names) key) ≡ false → is_lt (key_cmp (key_of names) later) ≡ true → (has_key names key || is_under (key_of names) key) ≡ true)
        → ((bytes_eq name.folded first && has_key names key) || (bytes_eq name.folded first && is_under (key_of names) key)) ≡ true
    one Less e rest =
        let f : is_lt (ordering_then (name_cmp name.folded first) (key_cmp (key_of names) key)) ≡ false = least in
        let g : is_lt (ordering_then (name_cmp name.folded first) (key_cmp (key_of names) key)) ≡ true = ap (λ order. is_lt (ordering_then order (key_cmp (key_of names) key))) e in
        cc
    one Equal e rest =
        let least_rest : is_lt (key_cmp (key_of names) key) ≡ false = sym (ap (λ order. is_lt (ordering_then order (key_cmp (key_of names) key))) e) ∙ least in
        let at_other : name_cmp name.folded other ≡ Equal = ap (λ n. name_cmp name.folded n) same ∙ e in
        let less_rest : is_lt (key_cmp (key_of names) later) ≡ true = sym (ap (λ order. is_lt (ordering_then order (key_cmp (key_of names) later))) at_other) ∙ less in
        both (bytes_eq name.folded first) ((bytes_eq-Decides name.folded first).1 (name_cmp_same name.folded first e)) (rest least_rest less_rest)
    one Greater e rest =
        let at_other : name_cmp name.folded other ≡ Greater = ap (λ n. name_cmp name.folded n) same ∙ e in
        let f : is_lt (ordering_then (name_cmp name.folded other) (key_cmp (key_of names) later)) ≡ true = less in
        let g : is_lt (ordering_then (name_cmp name.folded other) (key_cmp (key_of names) later)) ≡ false = ap (λ order. is_lt (ordering_then order (key_cmp (key_of names) later))) at_other in
        cc
