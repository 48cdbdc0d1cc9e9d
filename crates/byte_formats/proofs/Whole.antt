-- What is read of all of the bytes, and which byte is the first bad one.
use Rattle.std.proofs.Common.{◌≡◌, ℕ, ◌+◌, ◌-◌, ◌<◌, ◌≤◌, Bool, true, false, cond, eqb, List, [], ◌∷◌, ◌++◌, length, take, drop, Result, Ok, Err, refl, sym, ap, subst, ◌∙◌, inl, inr, append_assoc, arith}
use Rattle.std.proofs.lemmas.Bool.{eqb-true, cases_lt}
use Rattle.std.proofs.lemmas.List.{append-nil, nil_from_length, length-append, take_at, take-take, take-append-drop}
use Rattle.byte_formats.specs.Formats.{Reading, Format}
use Rattle.byte_formats.specs.Spelling.{whole_at, Spells, IsFirstBad}
use Rattle.byte_formats.specs.Fields.{IsBytes}
use Rattle.byte_formats.proofs.Laws.{bind_ok, bind_err, ok_is, head_is, Begun, Stuck, Lawful}

-- ---- all of the bytes

guard_end : {A : Type 0} (b : Bool) (d : ℕ) (x y : A) → cond b (Ok x) (Err d) ≡ Ok y → (b ≡ true) × (x ≡ y)
guard_end true d x y e = (refl, cc)
guard_end false d x y e = absurd cc

guard_rest : {A : Type 0} (b : Bool) (d left : ℕ) (x : A) → cond b (Ok x) (Err d) ≡ Err left → left ≡ d
guard_rest true d left x e = absurd cc
guard_rest false d left x e = cc

end_ok : {A : Type 0} (x : A × List ℕ) (y : A) → cond (eqb (length x.1) 0) (Ok x.0) (Err (length x.1)) ≡ Ok y → (x.0 ≡ y) × (x.1 ≡ [])
end_ok x y e = let g = guard_end (eqb (length x.1) 0) (length x.1) x.0 y e in (g.1, nil_from_length x.1 (eqb-true _ _ g.0))

end_err : {A : Type 0} (a : A) (rest : List ℕ) (left : ℕ) → cond (eqb (length rest) 0) (Ok a) (Err (length rest)) ≡ Err left → (b : ℕ) × (after : List ℕ) × (rest ≡ b ∷ after) × (left ≡ length rest)
end_err a [] left e = absurd cc
end_err a (b ∷ rest) left e = (b, rest, refl, guard_rest (eqb (length (b ∷ rest)) 0) (length (b ∷ rest)) left a e)

pub whole_takes : {A : Type 0} (f : Format A) → Lawful f → (bytes : List ℕ) (a : A) → IsBytes bytes → whole_at f.read bytes ≡ Ok a → Spells f bytes a
whole_takes f F bytes a h e =
    let w = bind_ok (f.read bytes) (λ x. cond (eqb (length x.1) 0) (Ok x.0) (Err (length x.1))) a e in
    let g = end_ok w.0 a w.2 in
    let t = F.takes bytes w.0 h w.1 in
    record { fits = subst f.fits g.0 t.fits; parts = t.parts ∙ ap (λ (r : List ℕ). f.spell w.0.0 ++ r) g.1 ∙ append-nil (f.spell w.0.0) ∙ ap f.spell g.0 }

pub whole_again : {A : Type 0} (f : Format A) → Lawful f → (bytes : List ℕ) (a : A) → Spells f bytes a → whole_at f.read bytes ≡ Ok a
whole_again f F bytes a s =
    let one : f.read bytes ≡ Ok (a, []) = ap f.read (s.parts ∙ sym (append-nil (f.spell a))) ∙ F.again a [] s.fits in
    rw one refl

-- a spelling is read to its end
reads_all : {A : Type 0} (f : Format A) → Lawful f → (a : A) (bytes : List ℕ) → Spells f bytes a → f.read bytes ≡ Ok (a, [])
reads_all f F a bytes s = ap f.read (s.parts ∙ sym (append-nil (f.spell a))) ∙ F.again a [] s.fits

-- the place, where what was seen and what is left are known
first_bad : {A : Type 0} (f : Format A) → (bytes seen rest : List ℕ) → bytes ≡ seen ++ rest → Begun f seen
    → ((a : A) → Spells f bytes a → ⊥) → ((b : ℕ) (after : List ℕ) → rest ≡ b ∷ after → (a : A) (more : List ℕ) → Spells f (seen ++ b ∷ more) a → ⊥)
    → IsFirstBad f bytes (length bytes - length rest)
first_bad {A = A} f bytes seen rest parts begun none stuck =
    let len : length bytes - length rest ≡ length seen = omega (arith, ap length parts, length-append seen rest) in
    let front : take (length seen) bytes ≡ seen = rw parts (take_at seen rest (length seen) refl) in
    rw len (record {
      within = omega (arith, ap length parts, length-append seen rest);
      no_spelling = none;
      before = (begun.value, begun.more, record { fits = begun.fits; parts = ap (λ (r : List ℕ). r ++ begun.more) front ∙ sym begun.parts });
      here = λ lt a more s. next_bad f bytes seen rest parts stuck lt a more s;
    })
  where
    next_bad : {A : Type 0} (f : Format A) → (bytes seen rest : List ℕ) → bytes ≡ seen ++ rest
        → ((b : ℕ) (after : List ℕ) → rest ≡ b ∷ after → (a : A) (more : List ℕ) → Spells f (seen ++ b ∷ more) a → ⊥)
        → length seen < length bytes → (a : A) (more : List ℕ) → Spells f (take (length seen + 1) bytes ++ more) a → ⊥
    next_bad f bytes seen [] parts stuck lt a more s = absurd (omega (arith, ap length parts, length-append seen []))
    next_bad f bytes seen (b ∷ after) parts stuck lt a more s =
        let next : take (length seen + 1) bytes ≡ seen ++ b ∷ [] = rw (parts, sym (append_assoc seen (b ∷ []) after)) (take_at (seen ++ b ∷ []) after (length seen + 1) (length-append seen (b ∷ []))) in
        let whole : take (length seen + 1) bytes ++ more ≡ seen ++ b ∷ more = ap (λ (r : List ℕ). r ++ more) next ∙ append_assoc seen (b ∷ []) more in
        stuck b after refl a more (subst (λ (r : List ℕ). Spells f r a) whole s)

ok_or_err : {A : Type 0} (r : Result A ℕ) (a : A) (left : ℕ) → r ≡ Ok a → r ≡ Err left → ⊥
ok_or_err r a left e d = absurd cc

pub whole_stops : {A : Type 0} (f : Format A) → Lawful f → (bytes : List ℕ) (left : ℕ) → IsBytes bytes → whole_at f.read bytes ≡ Err left → IsFirstBad f bytes (length bytes - left)
whole_stops {A = A} f F bytes left h e =
    let none : (a : A) → Spells f bytes a → ⊥ = λ a s. ok_or_err (whole_at f.read bytes) a left (whole_again f F bytes a s) e in
    elim (bind_err (f.read bytes) (λ x. cond (eqb (length x.1) 0) (Ok x.0) (Err (length x.1))) left e) [
      | inl first ↦
          let s = F.stops bytes left h first in
          rw s.count (first_bad f bytes s.seen s.rest s.parts s.begun none
          (λ b after is a more spells. stuck_not f F s.seen s.rest s.stuck b after is a more spells))
      | inr w ↦
          let t = F.takes bytes w.0 h w.1 in
          let g = end_err w.0.0 w.0.1 left w.2 in
          rw g.3 (first_bad f bytes (f.spell w.0.0) w.0.1 t.parts (record { value = w.0.0; more = []; fits = t.fits; parts = sym (append-nil (f.spell w.0.0)) }) none
          (λ b after is a more spells. trailing f F w.0.0 t.fits b a more spells))
    ]
  where
    stuck_not : {A : Type 0} (f : Format A) → Lawful f → (seen rest : List ℕ) → Stuck f.read seen rest → (b : ℕ) (after : List ℕ) → rest ≡ b ∷ after → (a : A) (more : List ℕ) → Spells f (seen ++ b ∷ more) a → ⊥
    stuck_not f F seen [] s b after is a more spells = absurd cc
    stuck_not f F seen (c ∷ rest) s b after is a more spells =
        let same : c ≡ b = head_is c b rest after is in
        let stop = s more in
        ok_or_err (f.read (seen ++ b ∷ more)) (a, []) stop.0 (reads_all f F a (seen ++ b ∷ more) spells) (subst (λ (d : ℕ). f.read (seen ++ d ∷ more) ≡ Err stop.0) same stop.1)

    not_empty : (b : ℕ) (more : List ℕ) → [] ≡ b ∷ more → ⊥
    not_empty b more e = absurd cc

    two_ends : {A : Type 0} (r : Reading A) (c a : A) (b : ℕ) (more : List ℕ) → r ≡ Ok (c, []) → r ≡ Ok (a, b ∷ more) → ⊥
    two_ends {A = A} r c a b more e d =
        let x : A × List ℕ = (c, []) in
        let y : A × List ℕ = (a, b ∷ more) in
        let two : [] ≡ b ∷ more = ap (λ (z : A × List ℕ). z.1) (ok_is x y (sym e ∙ d)) in
        not_empty b more two

    trailing : {A : Type 0} (f : Format A) → Lawful f → (a : A) → f.fits a → (b : ℕ) (c : A) (more : List ℕ) → Spells f (f.spell a ++ b ∷ more) c → ⊥
    trailing {A = A} f F a fits b c more spells =
        let one = reads_all f F c (f.spell a ++ b ∷ more) spells in
        let two = F.again a (b ∷ more) fits in
        two_ends (f.read (f.spell a ++ b ∷ more)) c a b more one two

-- there is one such place
not_before : {A : Type 0} (f : Format A) (bytes : List ℕ) (p q : ℕ) → IsFirstBad f bytes p → IsFirstBad f bytes q → p < q → ⊥
not_before f bytes p q P Q lt =
    let front = take q bytes in
    let w = Q.before in
    let split : front ++ w.1 ≡ take (p + 1) bytes ++ (drop (p + 1) front ++ w.1) =
    ap (λ (r : List ℕ). r ++ w.1) (sym (take-append-drop (p + 1) front)) ∙ append_assoc (take (p + 1) front) (drop (p + 1) front) w.1
    ∙ ap (λ (r : List ℕ). r ++ (drop (p + 1) front ++ w.1)) (take-take (p + 1) q bytes (omega arith)) in
    let le : q ≤ length bytes = Q.within in
    P.here (omega arith) w.0 (drop (p + 1) front ++ w.1) (subst (λ (r : List ℕ). Spells f r w.0) split w.2)

pub first_bad_one : {A : Type 0} (f : Format A) (bytes : List ℕ) (p q : ℕ) → IsFirstBad f bytes p → IsFirstBad f bytes q → p ≡ q
first_bad_one f bytes p q P Q =
    elim (cases_lt p q) [
      | inl lt ↦ absurd (not_before f bytes p q P Q lt)
      | inr le ↦ elim (cases_lt q p) [ inl lt ↦ absurd (not_before f bytes q p Q P lt) | inr ge ↦ omega arith ]
    ]

-- ---- for the answers of a decoder

pub same_read : {A : Type 0} (f : Format A) → Lawful f → (bytes : List ℕ) (a b : A) → whole_at f.read bytes ≡ Ok a → Spells f bytes b → a ≡ b
same_read f F bytes a b e s = ok_is a b (sym e ∙ whole_again f F bytes b s)

pub not_read : {A : Type 0} (f : Format A) → Lawful f → (bytes : List ℕ) (left : ℕ) (b : A) → whole_at f.read bytes ≡ Err left → Spells f bytes b → ⊥
not_read f F bytes left b e s = ok_or_err (whole_at f.read bytes) b left (whole_again f F bytes b s) e

pub left_within : {A : Type 0} (f : Format A) → Lawful f → (bytes : List ℕ) (left : ℕ) → IsBytes bytes → whole_at f.read bytes ≡ Err left → left ≤ length bytes
left_within {A = A} f F bytes left h e =
    elim (bind_err (f.read bytes) (λ x. cond (eqb (length x.1) 0) (Ok x.0) (Err (length x.1))) left e) [
      | inl first ↦ let s = F.stops bytes left h first in omega (arith, s.count, ap length s.parts, length-append s.seen s.rest)
      | inr w ↦
          let t = F.takes bytes w.0 h w.1 in
          let g = end_err w.0.0 w.0.1 left w.2 in
          omega (arith, g.3, ap length t.parts, length-append (f.spell w.0.0) w.0.1)
    ]

-- bytes spell one value at most
pub one_value : {A : Type 0} (f : Format A) → Lawful f → (bytes : List ℕ) (a b : A) → Spells f bytes a → Spells f bytes b → a ≡ b
one_value f F bytes a b s t = ok_is a b (sym (whole_again f F bytes a s) ∙ whole_again f F bytes b t)
