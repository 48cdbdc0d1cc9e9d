-- Lists, and tests on their members.
use Rattle.std.proofs.Common.{◌≡◌, ℕ, zero, suc, ◌≤◌, ◌<◌, ◌-◌, Bool, true, false, not, cond, List, [], ◌∷◌, find, filter, take, drop, get_or, length, None, refl, ap, arith, length-drop, take_all}
use Rattle.std.proofs.lemmas.Bool.{and_parts, and_from}
use Rattle.std.specs.List.{list_all}

pub not_true : (b : Bool) → not b ≡ true → b ≡ false
not_true true h = cc
not_true false h = refl

pub not_false : (b : Bool) → b ≡ false → not b ≡ true
not_false true h = cc
not_false false h = refl

-- what is tested by more
pub all_more : {A : Type 0} (p q : A → Bool) → ((x : A) → p x ≡ true → q x ≡ true) → (xs : List A) → list_all p xs ≡ true → list_all q xs ≡ true
all_more p q means [] h = refl
all_more p q means (x ∷ xs) h = let both = and_parts _ _ h in and_from _ _ (means x both.0) (all_more p q means xs both.1)

-- what holds of all holds of those that are kept
pub all_kept : {A : Type 0} (p keeps : A → Bool) (xs : List A) → list_all p xs ≡ true → list_all p (filter keeps xs) ≡ true
all_kept p keeps [] h = refl
all_kept {A} p keeps (x ∷ xs) h = let both = and_parts _ _ h in one (keeps x) both.0 (all_kept p keeps xs both.1)
  where
    one : (b : Bool) → p x ≡ true → list_all p (filter keeps xs) ≡ true → list_all p (cond b (x ∷ filter keeps xs) (filter keeps xs)) ≡ true
    one true first rest = and_from _ _ first rest
    one false first rest = rest

pub filter_all : {A : Type 0} (p : A → Bool) (xs : List A) → list_all p xs ≡ true → filter p xs ≡ xs
filter_all p [] h = refl
filter_all p (x ∷ xs) h = let both = and_parts (p x) (list_all p xs) h in rw both.0 (ap (λ rest. x ∷ rest) (filter_all p xs both.1))

pub filter_none : {A : Type 0} (p : A → Bool) (xs : List A) → list_all (λ x. not (p x)) xs ≡ true → filter p xs ≡ []
filter_none p [] h = refl
filter_none p (x ∷ xs) h = let both = and_parts _ _ h in rw (not_true (p x) both.0) (filter_none p xs both.1)

pub find_none : {A : Type 0} (p : A → Bool) (xs : List A) → list_all (λ x. not (p x)) xs ≡ true → find p xs ≡ None
find_none p [] h = refl
find_none p (x ∷ xs) h = let both = and_parts _ _ h in rw (not_true (p x) both.0) (find_none p xs both.1)

pub all_take : {A : Type 0} (p : A → Bool) (xs : List A) (i : ℕ) → i ≤ length xs → ((k : ℕ) (d : A) → k < i → p (get_or xs k d) ≡ true) → list_all p (take i xs) ≡ true
all_take p [] zero bound h = refl
all_take p [] (suc i) bound h = absurd (omega arith)
all_take p (x ∷ xs) zero bound h = refl
all_take p (x ∷ xs) (suc i) bound h = and_from _ _ (h 0 x (omega arith)) (all_take p xs i (omega arith) (λ k d less. h (suc k) d (omega arith)))

pub all_drop : {A : Type 0} (p : A → Bool) (xs : List A) (i : ℕ) → ((k : ℕ) (d : A) → i ≤ k → k < length xs → p (get_or xs k d) ≡ true) → list_all p (drop i xs) ≡ true
all_drop p [] zero h = refl
all_drop p [] (suc i) h = refl
all_drop p (x ∷ xs) zero h = and_from _ _ (h 0 x (omega arith) (omega arith)) (all_drop p xs 0 (λ k d least less. h (suc k) d (omega arith) (omega arith)))
all_drop p (x ∷ xs) (suc i) h = all_drop p xs i (λ k d least less. h (suc k) d (omega arith) (omega arith))

pub all_get : {A : Type 0} (p : A → Bool) (xs : List A) (i : ℕ) (d : A) → i < length xs → list_all p xs ≡ true → p (get_or xs i d) ≡ true
all_get p [] i d less h = absurd (omega arith)
all_get p (x ∷ xs) zero d less h = (and_parts _ _ h).0
all_get p (x ∷ xs) (suc i) d less h = all_get p xs i d (omega arith) (and_parts _ _ h).1

-- what stands behind the first ones, as a pattern or a range gives it
pub take_rest : {A : Type 0} (n : ℕ) (xs : List A) → take (length xs - n) (drop n xs) ≡ drop n xs
take_rest n xs = take_all (length xs - n) (drop n xs) (omega (arith, length-drop n xs))
