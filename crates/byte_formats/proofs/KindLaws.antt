-- The laws of formats that begin with a byte for the kind.
use Rattle.std.proofs.Common.{◌≡◌, ℕ, Bool, true, false, cond, eqb, List, [], ◌∷◌, ◌++◌, length, Ok, Err, refl, sym, ap, subst, ◌∙◌, arith}
use Rattle.std.proofs.lemmas.Bool.{eqb-true}
use Rattle.byte_formats.specs.Formats.{Reading, Format, made, only_kind, only_kind_at, or_kind, or_kind_at, Choose, pick}
use Rattle.byte_formats.specs.Fields.{IsBytes}
use Rattle.byte_formats.proofs.Laws.{IsBytes-rest, head_is, Took, Begun, Stuck, Stops, Lawful, made_lawful}

-- ---- kinds

-- a spelling begins with the byte of its kind
pub record Kinds {A : Type 0} (tag : A → ℕ) (f : Format A) : Type 0 where
  pub lawful : Lawful f
  pub head : (a : A) → f.fits a → (more : List ℕ) × (f.spell a ≡ tag a ∷ more)

eqb-refl : (k : ℕ) → eqb k k ≡ true
eqb-refl k = grind arith

only_takes : {A : Type 0} (k : ℕ) (f : Format A) → Lawful f → (bytes : List ℕ) (z : A × List ℕ) → IsBytes bytes → only_kind_at k f.read bytes ≡ Ok z → Took (only_kind k f) bytes z
only_takes k f F [] z h e = absurd cc
only_takes {A = A} k f F (b ∷ rest) z h e =
    let go : (t : Bool) → eqb b k ≡ t → cond t (f.read rest) (Err (length (b ∷ rest))) ≡ Ok z → Took (only_kind k f) (b ∷ rest) z = λ t. elim t as (λ t. eqb b k ≡ t → cond t (f.read rest) (Err (length (b ∷ rest))) ≡ Ok z → Took (only_kind k f) (b ∷ rest) z) [
      | true ↦ λ is r. let u = F.takes rest z (IsBytes-rest b rest h) r in record { parts = rw (eqb-true b k is) (ap (λ (r : List ℕ). k ∷ r) u.parts); fits = u.fits }
      | false ↦ λ is r. absurd cc
    ] in
    go (eqb b k) refl e

only_stops : {A : Type 0} (k : ℕ) (f : Format A) → Lawful f → (bytes : List ℕ) (left : ℕ) → IsBytes bytes → only_kind_at k f.read bytes ≡ Err left → Stops (only_kind k f) bytes left
only_stops k f F [] left h e =
    record { seen = []; rest = []; parts = refl; count = cc; begun = record { value = f.some; more = k ∷ f.spell f.some; fits = F.some_fits; parts = refl }; stuck = tt }
only_stops {A = A} k f F (b ∷ rest) left h e =
    let go : (t : Bool) → eqb b k ≡ t → cond t (f.read rest) (Err (length (b ∷ rest))) ≡ Err left → Stops (only_kind k f) (b ∷ rest) left = λ t. elim t as (λ t. eqb b k ≡ t → cond t (f.read rest) (Err (length (b ∷ rest))) ≡ Err left → Stops (only_kind k f) (b ∷ rest) left) [
      | true ↦ λ is r.
          let s = F.stops rest left (IsBytes-rest b rest h) r in
          record {
            seen = b ∷ s.seen;
            rest = s.rest;
            parts = ap (λ (r : List ℕ). b ∷ r) s.parts;
            count = s.count;
            begun = record { value = s.begun.value; more = s.begun.more; fits = s.begun.fits; parts = sym (ap (λ (c : ℕ). c ∷ f.spell s.begun.value) (eqb-true b k is)) ∙ ap (λ (r : List ℕ). b ∷ r) s.begun.parts };
            stuck = behind b k f.read s.seen s.rest is s.stuck;
          }
      | false ↦ λ is r.
          record {
            seen = [];
            rest = b ∷ rest;
            parts = refl;
            count = cc;
            begun = record { value = f.some; more = k ∷ f.spell f.some; fits = F.some_fits; parts = refl };
            stuck = λ more. (length (b ∷ more), rw is refl);
          }
    ] in
    go (eqb b k) refl e
  where
    behind : {A : Type 0} (b k : ℕ) (read : List ℕ → Reading A) (seen rest : List ℕ) → eqb b k ≡ true → Stuck read seen rest → Stuck (only_kind_at k read) (b ∷ seen) rest
    behind b k read seen [] is s = tt
    behind b k read seen (c ∷ rest) is s = λ more. ((s more).0, rw is (s more).1)

pub only_kinds : {A : Type 0} (tag : A → ℕ) (k : ℕ) (f : Format A) → ((a : A) → f.fits a → tag a ≡ k) → Lawful f → Kinds tag (only_kind k f)
only_kinds tag k f is F = record {
  lawful = record {
    some_fits = F.some_fits;
    takes = only_takes k f F;
    again = λ a rest h. rw (eqb-refl k) (F.again a rest h);
    stops = only_stops k f F;
  };
  head = λ a h. (f.spell a, rw (is a h) refl);
}

or_takes : {A : Type 0} (tag : A → ℕ) (k : ℕ) (f others : Format A) → ((a : A) → f.fits a → tag a ≡ k) → Lawful f → Kinds tag others
    → (bytes : List ℕ) (z : A × List ℕ) → IsBytes bytes → or_kind_at k f.read others.read bytes ≡ Ok z → Took (or_kind tag k f others) bytes z
or_takes tag k f others is F G [] z h e = absurd cc
or_takes {A = A} tag k f others is F G (b ∷ rest) z h e =
    let go : (t : Bool) → eqb b k ≡ t → cond t (f.read rest) (others.read (b ∷ rest)) ≡ Ok z → Took (or_kind tag k f others) (b ∷ rest) z = λ t. elim t as (λ t. eqb b k ≡ t → cond t (f.read rest) (others.read (b ∷ rest)) ≡ Ok z → Took (or_kind tag k f others) (b ∷ rest) z) [
      | true ↦ λ same r.
          let u = F.takes rest z (IsBytes-rest b rest h) r in
          let t : eqb (tag z.0) k ≡ true = rw (is z.0 u.fits) (eqb-refl k) in
          record { parts = rw (t, eqb-true b k same) (ap (λ (r : List ℕ). k ∷ r) u.parts); fits = rw t u.fits }
      | false ↦ λ other r.
          let u = G.lawful.takes (b ∷ rest) z h r in
          let first = G.head z.0 u.fits in
          let b-is : b ≡ tag z.0 = head_is b (tag z.0) rest (first.0 ++ z.1) (u.parts ∙ ap (λ (r : List ℕ). r ++ z.1) first.1) in
          let t : eqb (tag z.0) k ≡ false = rw (← b-is) other in
          record { parts = rw t u.parts; fits = rw t u.fits }
    ] in
    go (eqb b k) refl e

or_again : {A : Type 0} (tag : A → ℕ) (k : ℕ) (f others : Format A) → Lawful f → Kinds tag others
    → (a : A) (rest : List ℕ) → (or_kind tag k f others).fits a → or_kind_at k f.read others.read ((or_kind tag k f others).spell a ++ rest) ≡ Ok (a, rest)
or_again {A = A} tag k f others F G a rest h =
    let go : (t : Bool) → eqb (tag a) k ≡ t → Choose t (f.fits a) (others.fits a) → or_kind_at k f.read others.read (cond t (k ∷ f.spell a) (others.spell a) ++ rest) ≡ Ok (a, rest) = λ t. elim t as (λ t. eqb (tag a) k ≡ t → Choose t (f.fits a) (others.fits a) → or_kind_at k f.read others.read (cond t (k ∷ f.spell a) (others.spell a) ++ rest) ≡ Ok (a, rest)) [
      | true ↦ λ same h. rw (eqb-refl k) (F.again a rest h)
      | false ↦ λ other h.
          let first = G.head a h in
          let whole : others.read (tag a ∷ (first.0 ++ rest)) ≡ Ok (a, rest) = ap (λ (r : List ℕ). others.read (r ++ rest)) (sym first.1) ∙ G.lawful.again a rest h in
          ap (λ (r : List ℕ). or_kind_at k f.read others.read (r ++ rest)) first.1 ∙ rw other whole
    ] in
    go (eqb (tag a) k) refl h

stuck_other : {A : Type 0} (k b : ℕ) (read others : List ℕ → Reading A) (seen rest back : List ℕ) → eqb b k ≡ false → b ∷ back ≡ seen ++ rest → Stuck others seen rest → Stuck (or_kind_at k read others) seen rest
stuck_other k b read others seen [] back other parts s = tt
stuck_other k b read others [] (c ∷ rest) back other parts s = λ more. ((s more).0, rw (sym (head_is b c back rest parts), other) (subst (λ (d : ℕ). others (d ∷ more) ≡ Err (s more).0) (sym (head_is b c back rest parts)) (s more).1))
stuck_other k b read others (d ∷ seen) (c ∷ rest) back other parts s = λ more.
    let same : b ≡ d = head_is b d back (seen ++ c ∷ rest) parts in
    let not : eqb d k ≡ false = subst (λ (v : ℕ). eqb v k ≡ false) same other in
    ((s more).0, rw not (s more).1)

begun_other : {A : Type 0} (tag : A → ℕ) (k b : ℕ) (f others : Format A) (seen rest back : List ℕ) → ((a : A) → f.fits a → tag a ≡ k) → Lawful f → Kinds tag others
    → eqb b k ≡ false → b ∷ back ≡ seen ++ rest → Begun others seen → Begun (or_kind tag k f others) seen
begun_other tag k b f others [] rest back is F G other parts s =
    let t : eqb (tag f.some) k ≡ true = rw (is f.some F.some_fits) (eqb-refl k) in
    record { value = f.some; more = (or_kind tag k f others).spell f.some; fits = rw t F.some_fits; parts = refl }
begun_other tag k b f others (d ∷ seen) rest back is F G other parts s =
    let first = G.head s.value s.fits in
    let same : b ≡ d = head_is b d back (seen ++ rest) parts in
    let tag-is : tag s.value ≡ d = head_is (tag s.value) d first.0 (seen ++ s.more) (sym first.1 ∙ s.parts) in
    let t : eqb (tag s.value) k ≡ false = rw (tag-is, ← same) other in
    record { value = s.value; more = s.more; fits = rw t s.fits; parts = rw t s.parts }

begun_none : {A : Type 0} (tag : A → ℕ) (k : ℕ) (f others : Format A) → ((a : A) → f.fits a → tag a ≡ k) → Lawful f → Begun (or_kind tag k f others) []
begun_none tag k f others is F =
    let t : eqb (tag f.some) k ≡ true = rw (is f.some F.some_fits) (eqb-refl k) in
    record { value = f.some; more = (or_kind tag k f others).spell f.some; fits = rw t F.some_fits; parts = refl }

stuck_this : {A : Type 0} (k b : ℕ) (read others : List ℕ → Reading A) (seen rest : List ℕ) → eqb b k ≡ true → Stuck read seen rest → Stuck (or_kind_at k read others) (b ∷ seen) rest
stuck_this k b read others seen [] same s = tt
stuck_this k b read others seen (c ∷ rest) same s = λ more. ((s more).0, rw same (s more).1)

begun_this : {A : Type 0} (tag : A → ℕ) (k b : ℕ) (f others : Format A) (seen : List ℕ) → ((a : A) → f.fits a → tag a ≡ k) → eqb b k ≡ true → Begun f seen → Begun (or_kind tag k f others) (b ∷ seen)
begun_this tag k b f others seen is same s =
    let t : eqb (tag s.value) k ≡ true = rw (is s.value s.fits) (eqb-refl k) in
    record { value = s.value; more = s.more; fits = rw t s.fits; parts = rw t (sym (ap (λ (c : ℕ). c ∷ f.spell s.value) (eqb-true b k same)) ∙ ap (λ (r : List ℕ). b ∷ r) s.parts) }

or_stops : {A : Type 0} (tag : A → ℕ) (k : ℕ) (f others : Format A) → ((a : A) → f.fits a → tag a ≡ k) → Lawful f → Kinds tag others
    → (bytes : List ℕ) (left : ℕ) → IsBytes bytes → or_kind_at k f.read others.read bytes ≡ Err left → Stops (or_kind tag k f others) bytes left
or_stops tag k f others is F G [] left h e =
    record { seen = []; rest = []; parts = refl; count = cc; begun = begun_none tag k f others is F; stuck = tt }
or_stops {A = A} tag k f others is F G (b ∷ rest) left h e =
    let go : (t : Bool) → eqb b k ≡ t → cond t (f.read rest) (others.read (b ∷ rest)) ≡ Err left → Stops (or_kind tag k f others) (b ∷ rest) left = λ t. elim t as (λ t. eqb b k ≡ t → cond t (f.read rest) (others.read (b ∷ rest)) ≡ Err left → Stops (or_kind tag k f others) (b ∷ rest) left) [
      | true ↦ λ same r.
          let s = F.stops rest left (IsBytes-rest b rest h) r in
          record {
            seen = b ∷ s.seen;
            rest = s.rest;
            parts = ap (λ (r : List ℕ). b ∷ r) s.parts;
            count = s.count;
            begun = begun_this tag k b f others s.seen is same s.begun;
            stuck = stuck_this k b f.read others.read s.seen s.rest same s.stuck;
          }
      | false ↦ λ other r.
          let s = G.lawful.stops (b ∷ rest) left h r in
          record {
            seen = s.seen;
            rest = s.rest;
            parts = s.parts;
            count = s.count;
            begun = begun_other tag k b f others s.seen s.rest rest is F G other s.parts s.begun;
            stuck = stuck_other k b f.read others.read s.seen s.rest rest other s.parts s.stuck;
          }
    ] in
    go (eqb b k) refl e

or_head : {A : Type 0} (tag : A → ℕ) (k : ℕ) (f others : Format A) → Kinds tag others → (a : A) → (or_kind tag k f others).fits a → (more : List ℕ) × ((or_kind tag k f others).spell a ≡ tag a ∷ more)
or_head tag k f others G a h =
    let go : (t : Bool) → eqb (tag a) k ≡ t → Choose t (f.fits a) (others.fits a) → (more : List ℕ) × (cond t (k ∷ f.spell a) (others.spell a) ≡ tag a ∷ more) = λ t. elim t as (λ t. eqb (tag a) k ≡ t → Choose t (f.fits a) (others.fits a) → (more : List ℕ) × (cond t (k ∷ f.spell a) (others.spell a) ≡ tag a ∷ more)) [
      | true ↦ λ same h. (f.spell a, ap (λ (c : ℕ). c ∷ f.spell a) (sym (eqb-true (tag a) k same)))
      | false ↦ λ other h. G.head a h
    ] in
    go (eqb (tag a) k) refl h

pub or_kinds : {A : Type 0} (tag : A → ℕ) (k : ℕ) (f others : Format A) → ((a : A) → f.fits a → tag a ≡ k) → Lawful f → Kinds tag others → Kinds tag (or_kind tag k f others)
unfolding begun_none
or_kinds tag k f others is F G = record {
  lawful = record {
    some_fits = (begun_none tag k f others is F).fits;
    takes = or_takes tag k f others is F G;
    again = or_again tag k f others F G;
    stops = or_stops tag k f others is F G;
  };
  head = or_head tag k f others G;
}

-- ---- a form for each kind

pub record OfKind {A : Type 0} (tag : A → ℕ) (k : ℕ) (f : Format A) : Type 0 where
  pub lawful : Lawful f
  pub kind : (a : A) → f.fits a → tag a ≡ k

pub pick_kind : {A : Type 0} (tag : A → ℕ) (k n : ℕ) (f g : Format A) → OfKind tag n f → (eqb k n ≡ false → OfKind tag k g) → OfKind tag k (pick (eqb k n) f g)
pick_kind tag k n f g F G =
    let go : (t : Bool) → eqb k n ≡ t → OfKind tag k (pick t f g) = λ t. elim t as (λ t. eqb k n ≡ t → OfKind tag k (pick t f g)) [
      | true ↦ λ same. record { lawful = F.lawful; kind = λ a h. F.kind a h ∙ sym (eqb-true k n same) }
      | false ↦ λ other. G other
    ] in
    go (eqb k n) refl

-- the last kind
pub last_kind : {A : Type 0} (tag : A → ℕ) (k n : ℕ) (f : Format A) → OfKind tag n f → eqb k n ≡ true → OfKind tag k f
last_kind tag k n f F same = record { lawful = F.lawful; kind = λ a h. F.kind a h ∙ sym (eqb-true k n same) }

-- a kind's fields
pub made_kind : {A B : Type 0} (tag : B → ℕ) (k : ℕ) (to : A → B) (from : B → A) (f : Format A) → ((a : A) → tag (to a) ≡ k) → ((a : A) → from (to a) ≡ a) → Lawful f → OfKind tag k (made to from f)
made_kind tag k to from f is back F = record { lawful = made_lawful to from f (λ a _. back a) F; kind = λ b h. ap tag (sym h.1) ∙ is (from b) }
