-- What is read is spelled so, what is spelled so is read, and where nothing is read the first bad byte is known.
use Rattle.std.proofs.Common.{◌≡◌, ℕ, zero, suc, Bool, true, false, cond, List, [], ◌∷◌, ◌++◌, length, Result, Ok, Err, refl, sym, ap, subst, ◌∙◌, ◌⊎◌, inl, inr, append_assoc, arith}
use Rattle.std.specs.List.{flat_map}
use Rattle.std.proofs.lemmas.List.Concat.{flat_map-cons}
use Rattle.byte_formats.specs.Formats.{◌>>=◌, Reading, Format, follows, both, made, times, times_at, copies, byte_where, byte_where_at}
use Rattle.byte_formats.specs.Fields.{IsBytes}

-- ---- bytes

pub IsBytes-right : (xs ys : List ℕ) → IsBytes (xs ++ ys) → IsBytes ys
IsBytes-right [] ys h = h
IsBytes-right (x ∷ xs) ys h = IsBytes-right xs ys (λ i. h (suc i))

pub IsBytes-rest : (b : ℕ) (bytes : List ℕ) → IsBytes (b ∷ bytes) → IsBytes bytes
IsBytes-rest b bytes h i = h (suc i)

pub IsBytes-append : (xs ys : List ℕ) → IsBytes xs → IsBytes ys → IsBytes (xs ++ ys)
IsBytes-append [] ys h k i = k i
IsBytes-append (x ∷ xs) ys h k zero = h 0
IsBytes-append (x ∷ xs) ys h k (suc i) = IsBytes-append xs ys (λ j. h (suc j)) k i

-- ---- steps

pub bind_ok : {A B : Type 0} (r : Result A ℕ) (f : A → Result B ℕ) (y : B) → (r >>= f) ≡ Ok y → (x : A) × (r ≡ Ok x) × (f x ≡ Ok y)
bind_ok (Ok x) f y e = (x, refl, e)
bind_ok (Err d) f y e = absurd cc

pub bind_err : {A B : Type 0} (r : Result A ℕ) (f : A → Result B ℕ) (d : ℕ) → (r >>= f) ≡ Err d → (r ≡ Err d) ⊎ ((x : A) × (r ≡ Ok x) × (f x ≡ Err d))
bind_err (Ok x) f d e = inr (x, refl, e)
bind_err (Err c) f d e = inl cc

abbrev done : {A : Type 0} → A → Result A ℕ
done x = Ok x

pub ok_is : {A : Type 0} (x y : A) → done x ≡ done y → x ≡ y
ok_is x y e = cc

pub head_is : (a b : ℕ) (x y : List ℕ) → a ∷ x ≡ b ∷ y → a ≡ b
head_is a b x y e = cc

-- ---- the laws of a format

pub record Took {A : Type 0} (f : Format A) (bytes : List ℕ) (x : A × List ℕ) : Type 0 where
  pub parts : bytes ≡ f.spell x.0 ++ x.1
  pub fits : f.fits x.0

-- some spelling begins so
pub record Begun {A : Type 0} (f : Format A) (seen : List ℕ) : Type 0 where
  pub value : A
  pub more : List ℕ
  pub fits : f.fits value
  pub parts : f.spell value ≡ seen ++ more

-- with the next byte no spelling begins
abbrev pub Stuck : {A : Type 0} → (List ℕ → Reading A) → List ℕ → List ℕ → Type 0
Stuck read seen [] = Unit {0}
Stuck read seen (b ∷ rest) = (more : List ℕ) → (left : ℕ) × (read (seen ++ b ∷ more) ≡ Err left)

pub record Stops {A : Type 0} (f : Format A) (bytes : List ℕ) (left : ℕ) : Type 0 where
  pub seen : List ℕ
  pub rest : List ℕ
  pub parts : bytes ≡ seen ++ rest
  pub count : left ≡ length rest
  pub begun : Begun f seen
  pub stuck : Stuck f.read seen rest

pub record Lawful {A : Type 0} (f : Format A) : Type 0 where
  pub some_fits : f.fits f.some
  pub takes : (bytes : List ℕ) (x : A × List ℕ) → IsBytes bytes → f.read bytes ≡ Ok x → Took f bytes x
  pub again : (a : A) (rest : List ℕ) → f.fits a → f.read (f.spell a ++ rest) ≡ Ok (a, rest)
  pub stops : (bytes : List ℕ) (left : ℕ) → IsBytes bytes → f.read bytes ≡ Err left → Stops f bytes left

pub rest_bytes : {A : Type 0} (f : Format A) (bytes : List ℕ) (x : A × List ℕ) → IsBytes bytes → Took f bytes x → IsBytes x.1
rest_bytes f bytes x h t = IsBytes-right (f.spell x.0) x.1 (subst IsBytes t.parts h)

-- ---- one after another

stuck_first : {A B : Type 0} (read : List ℕ → Reading A) (next : A × List ℕ → Reading B) (seen rest : List ℕ) → Stuck read seen rest → Stuck (λ bytes. read bytes >>= next) seen rest
stuck_first read next seen [] s = tt
stuck_first read next seen (b ∷ rest) s = λ more. ((s more).0, rw (s more).1 refl)

stuck_second : {A B C : Type 0} (f : Format A) (g : A → Format B) (last : A × List ℕ → B × List ℕ → Reading C) (a : A) (seen rest : List ℕ)
    → ((more : List ℕ) → f.read (f.spell a ++ more) ≡ Ok (a, more)) → Stuck (g a).read seen rest
    → Stuck (λ bytes. f.read bytes >>= λ x. (g x.0).read x.1 >>= last x) (f.spell a ++ seen) rest
stuck_second f g last a seen [] again s = tt
stuck_second f g last a seen (b ∷ rest) again s = λ more.
    ((s more).0, ap (λ bytes. f.read bytes >>= λ x. (g x.0).read x.1 >>= last x) (append_assoc (f.spell a) seen (b ∷ more)) ∙ rw (again (seen ++ b ∷ more), (s more).1) refl)

follows_takes : {A B : Type 0} (f : Format A) (g : A → Format B) → Lawful f → ((a : A) → f.fits a → Lawful (g a))
    → (bytes : List ℕ) (z : (A × B) × List ℕ) → IsBytes bytes → (follows f g).read bytes ≡ Ok z → Took (follows f g) bytes z
follows_takes {A = A} {B = B} f g F G bytes z h e =
    let a = bind_ok (f.read bytes) (λ x. (g x.0).read x.1 >>= λ y. Ok ((x.0, y.0), y.1)) z e in
    let b = bind_ok ((g a.0.0).read a.0.1) (λ y. Ok ((a.0.0, y.0), y.1)) z a.2 in
    let t = F.takes bytes a.0 h a.1 in
    let u = (G a.0.0 t.fits).takes a.0.1 b.0 (rest_bytes f bytes a.0 h t) b.1 in
    let made_of : (A × B) × List ℕ = ((a.0.0, b.0.0), b.0.1) in
    subst (λ (y : (A × B) × List ℕ). Took (follows f g) bytes y) (ok_is made_of z b.2)
    (record { parts = t.parts ∙ ap (λ (r : List ℕ). f.spell a.0.0 ++ r) u.parts ∙ sym (append_assoc (f.spell a.0.0) ((g a.0.0).spell b.0.0) b.0.1); fits = (t.fits, u.fits) })

follows_again : {A B : Type 0} (f : Format A) (g : A → Format B) → Lawful f → ((a : A) → f.fits a → Lawful (g a))
    → (z : A × B) (rest : List ℕ) → (follows f g).fits z → (follows f g).read ((follows f g).spell z ++ rest) ≡ Ok (z, rest)
follows_again f g F G z rest fits =
    ap (follows f g).read (append_assoc (f.spell z.0) ((g z.0).spell z.1) rest) ∙ rw (F.again z.0 ((g z.0).spell z.1 ++ rest) fits.0, (G z.0 fits.0).again z.1 rest fits.1) refl

follows_first : {A B : Type 0} (f : Format A) (g : A → Format B) → ((a : A) → f.fits a → Lawful (g a)) → (bytes : List ℕ) (left : ℕ) → Stops f bytes left → Stops (follows f g) bytes left
follows_first f g G bytes left s =
    let v = s.begun.value in
    let end = (g v).spell (g v).some in
    record {
      seen = s.seen;
      rest = s.rest;
      parts = s.parts;
      count = s.count;
      begun = record {
        value = (v, (g v).some);
        more = s.begun.more ++ end;
        fits = (s.begun.fits, (G v s.begun.fits).some_fits);
        parts = ap (λ (r : List ℕ). r ++ end) s.begun.parts ∙ append_assoc s.seen s.begun.more end;
      };
      stuck = stuck_first f.read (λ x. (g x.0).read x.1 >>= λ y. Ok ((x.0, y.0), y.1)) s.seen s.rest s.stuck;
    }

follows_second : {A B : Type 0} (f : Format A) (g : A → Format B) → Lawful f → (bytes : List ℕ) (x : A × List ℕ) (left : ℕ) → Took f bytes x → Stops (g x.0) x.1 left → Stops (follows f g) bytes left
follows_second f g F bytes x left t s =
    let front = f.spell x.0 in
    record {
      seen = front ++ s.seen;
      rest = s.rest;
      parts = t.parts ∙ ap (λ (r : List ℕ). front ++ r) s.parts ∙ sym (append_assoc front s.seen s.rest);
      count = s.count;
      begun = record {
        value = (x.0, s.begun.value);
        more = s.begun.more;
        fits = (t.fits, s.begun.fits);
        parts = ap (λ (r : List ℕ). front ++ r) s.begun.parts ∙ sym (append_assoc front s.seen s.begun.more);
      };
      stuck = stuck_second f g (λ a y. Ok ((a.0, y.0), y.1)) x.0 s.seen s.rest (λ more. F.again x.0 more t.fits) s.stuck;
    }

no_last : {A B : Type 0} (r : Reading A) (f : A × List ℕ → B) (left : ℕ) → (r >>= λ y. Ok (f y)) ≡ Err left → r ≡ Err left
no_last (Ok y) f left e = absurd cc
no_last (Err d) f left e = cc

follows_stops : {A B : Type 0} (f : Format A) (g : A → Format B) → Lawful f → ((a : A) → f.fits a → Lawful (g a))
    → (bytes : List ℕ) (left : ℕ) → IsBytes bytes → (follows f g).read bytes ≡ Err left → Stops (follows f g) bytes left
follows_stops f g F G bytes left h e =
    elim (bind_err (f.read bytes) (λ x. (g x.0).read x.1 >>= λ y. Ok ((x.0, y.0), y.1)) left e) [
      | inl first ↦ follows_first f g G bytes left (F.stops bytes left h first)
      | inr w ↦
          let t = F.takes bytes w.0 h w.1 in
          let second = no_last ((g w.0.0).read w.0.1) (λ y. ((w.0.0, y.0), y.1)) left w.2 in
          follows_second f g F bytes w.0 left t ((G w.0.0 t.fits).stops w.0.1 left (rest_bytes f bytes w.0 h t) second)
    ]

pub follows_lawful : {A B : Type 0} (f : Format A) (g : A → Format B) → Lawful f → ((a : A) → f.fits a → Lawful (g a)) → Lawful (follows f g)
follows_lawful f g F G = record {
  some_fits = (F.some_fits, (G f.some F.some_fits).some_fits);
  takes = follows_takes f g F G;
  again = follows_again f g F G;
  stops = follows_stops f g F G;
}

pub both_lawful : {A B : Type 0} (f : Format A) (g : Format B) → Lawful f → Lawful g → Lawful (both f g)
both_lawful f g F G = follows_lawful f (λ _. g) F (λ _ _. G)

-- ---- made of what is read

pub made_lawful : {A B : Type 0} (to : A → B) (from : B → A) (f : Format A) → ((a : A) → f.fits a → from (to a) ≡ a) → Lawful f → Lawful (made to from f)
made_lawful {A = A} {B = B} to from f back F =
    let fits_to : (a : A) → f.fits a → (made to from f).fits (to a) = λ a h. (subst f.fits (sym (back a h)) h, ap to (back a h)) in
    record {
      some_fits = fits_to f.some F.some_fits;
      takes = λ bytes z h e.
          let a = bind_ok (f.read bytes) (λ x. Ok (to x.0, x.1)) z e in
          let t = F.takes bytes a.0 h a.1 in
          let made_of : B × List ℕ = (to a.0.0, a.0.1) in
          subst (λ (y : B × List ℕ). Took (made to from f) bytes y) (ok_is made_of z a.2)
          (record { parts = t.parts ∙ ap (λ (v : A). f.spell v ++ a.0.1) (sym (back a.0.0 t.fits)); fits = fits_to a.0.0 t.fits });
      again = λ b rest h. rw (F.again (from b) rest h.0) (ap (λ (v : B). Ok (v, rest)) h.1);
      stops = λ bytes left h e.
          let s = F.stops bytes left h (no_last (f.read bytes) (λ x. (to x.0, x.1)) left e) in
          record {
            seen = s.seen;
            rest = s.rest;
            parts = s.parts;
            count = s.count;
            begun = record { value = to s.begun.value; more = s.begun.more; fits = fits_to s.begun.value s.begun.fits; parts = ap f.spell (back s.begun.value s.begun.fits) ∙ s.begun.parts };
            stuck = stuck_first f.read (λ x. Ok (to x.0, x.1)) s.seen s.rest s.stuck;
          };
    }

-- ---- so many

copies_fit : {A : Type 0} (f : Format A) → f.fits f.some → (n : ℕ) → (times f n).fits (copies n f.some)
copies_fit f h zero = (refl, tt)
copies_fit f h (suc n) = let k = copies_fit f h n in (ap suc k.0, (h, k.1))

times_takes : {A : Type 0} (f : Format A) → Lawful f → (n : ℕ) (bytes : List ℕ) (z : List A × List ℕ) → IsBytes bytes → times_at f.read n bytes ≡ Ok z → Took (times f n) bytes z
times_takes {A = A} f F zero bytes z h e =
    let made_of : List A × List ℕ = ([], bytes) in
    subst (λ (y : List A × List ℕ). Took (times f 0) bytes y) (ok_is made_of z e) (record { parts = refl; fits = (refl, tt) })
times_takes {A = A} f F (suc n) bytes z h e =
    let a = bind_ok (f.read bytes) (λ x. times_at f.read n x.1 >>= λ xs. Ok (x.0 ∷ xs.0, xs.1)) z e in
    let b = bind_ok (times_at f.read n a.0.1) (λ xs. Ok (a.0.0 ∷ xs.0, xs.1)) z a.2 in
    let t = F.takes bytes a.0 h a.1 in
    let u = times_takes f F n a.0.1 b.0 (rest_bytes f bytes a.0 h t) b.1 in
    let made_of : List A × List ℕ = (a.0.0 ∷ b.0.0, b.0.1) in
    let parts : bytes ≡ f.spell a.0.0 ++ (flat_map f.spell b.0.0 ++ b.0.1) = t.parts ∙ ap (λ (r : List ℕ). f.spell a.0.0 ++ r) u.parts in
    subst (λ (y : List A × List ℕ). Took (times f (suc n)) bytes y) (ok_is made_of z b.2)
    (record { parts = rw flat_map-cons (parts ∙ sym (append_assoc (f.spell a.0.0) (flat_map f.spell b.0.0) b.0.1)); fits = (ap suc u.fits.0, (t.fits, u.fits.1)) })

times_again : {A : Type 0} (f : Format A) → Lawful f → (n : ℕ) (xs : List A) (rest : List ℕ) → (times f n).fits xs → times_at f.read n (flat_map f.spell xs ++ rest) ≡ Ok (xs, rest)
times_again f F zero [] rest h = refl
times_again f F zero (x ∷ xs) rest h = absurd (omega (arith, h.0))
times_again f F (suc n) [] rest h = absurd (omega (arith, h.0))
times_again f F (suc n) (x ∷ xs) rest h =
    let regrouped : flat_map f.spell (x ∷ xs) ++ rest ≡ f.spell x ++ (flat_map f.spell xs ++ rest) = ap (λ (r : List ℕ). r ++ rest) (flat_map-cons f.spell x xs) ∙ append_assoc (f.spell x) (flat_map f.spell xs) rest in
    let len : length xs ≡ n = omega (arith, h.0) in
    ap (times_at f.read (suc n)) regrouped ∙ rw (F.again x (flat_map f.spell xs ++ rest) h.1.0, times_again f F n xs rest (len, h.1.1)) refl

times_stops : {A : Type 0} (f : Format A) → Lawful f → (n : ℕ) (bytes : List ℕ) (left : ℕ) → IsBytes bytes → times_at f.read n bytes ≡ Err left → Stops (times f n) bytes left
times_stops f F zero bytes left h e = absurd cc
times_stops f F (suc n) bytes left h e =
    elim (bind_err (f.read bytes) (λ x. times_at f.read n x.1 >>= λ xs. Ok (x.0 ∷ xs.0, xs.1)) left e) [
      | inl first ↦
          let s = F.stops bytes left h first in
          let k = copies_fit f F.some_fits n in
          let end = flat_map f.spell (copies n f.some) in
          record {
            seen = s.seen;
            rest = s.rest;
            parts = s.parts;
            count = s.count;
            begun = record {
              value = s.begun.value ∷ copies n f.some;
              more = s.begun.more ++ end;
              fits = (ap suc k.0, (s.begun.fits, k.1));
              parts = flat_map-cons f.spell s.begun.value (copies n f.some) ∙ ap (λ (r : List ℕ). r ++ end) s.begun.parts ∙ append_assoc s.seen s.begun.more end;
            };
            stuck = stuck_first f.read (λ x. times_at f.read n x.1 >>= λ xs. Ok (x.0 ∷ xs.0, xs.1)) s.seen s.rest s.stuck;
          }
      | inr w ↦
          let t = F.takes bytes w.0 h w.1 in
          let second = no_last (times_at f.read n w.0.1) (λ xs. (w.0.0 ∷ xs.0, xs.1)) left w.2 in
          let s = times_stops f F n w.0.1 left (rest_bytes f bytes w.0 h t) second in
          let front = f.spell w.0.0 in
          record {
            seen = front ++ s.seen;
            rest = s.rest;
            parts = t.parts ∙ ap (λ (r : List ℕ). front ++ r) s.parts ∙ sym (append_assoc front s.seen s.rest);
            count = s.count;
            begun = record {
              value = w.0.0 ∷ s.begun.value;
              more = s.begun.more;
              fits = (ap suc s.begun.fits.0, (t.fits, s.begun.fits.1));
              parts = flat_map-cons f.spell w.0.0 s.begun.value ∙ ap (λ (r : List ℕ). front ++ r) s.begun.parts ∙ sym (append_assoc front s.seen s.begun.more);
            };
            stuck = stuck_second f (λ _. times f n) (λ a y. Ok (a.0 ∷ y.0, y.1)) w.0.0 s.seen s.rest (λ more. F.again w.0.0 more t.fits) s.stuck;
          }
    ]

pub times_lawful : {A : Type 0} (f : Format A) → Lawful f → (n : ℕ) → Lawful (times f n)
times_lawful f F n = record { some_fits = copies_fit f F.some_fits n; takes = times_takes f F n; again = times_again f F n; stops = times_stops f F n }

-- ---- the same format, said otherwise

stuck_same : {A : Type 0} (one two : List ℕ → Reading A) (seen rest : List ℕ) → ((bytes : List ℕ) → two bytes ≡ one bytes) → Stuck one seen rest → Stuck two seen rest
stuck_same one two seen [] same s = tt
stuck_same one two seen (b ∷ rest) same s = λ more. ((s more).0, same (seen ++ b ∷ more) ∙ (s more).1)

pub same_lawful : {A : Type 0} (f g : Format A) → ((bytes : List ℕ) → g.read bytes ≡ f.read bytes) → ((a : A) → g.fits a → f.fits a) → ((a : A) → f.fits a → g.fits a)
    → ((a : A) → f.fits a → f.spell a ≡ g.spell a) → g.fits g.some → Lawful f → Lawful g
same_lawful f g reads fits fitting spells some F = record {
  some_fits = some;
  takes = λ bytes x h e.
      let t = F.takes bytes x h (sym (reads bytes) ∙ e) in
      record { parts = t.parts ∙ ap (λ (r : List ℕ). r ++ x.1) (spells x.0 t.fits); fits = fitting x.0 t.fits };
  again = λ a rest h. reads (g.spell a ++ rest) ∙ ap (λ (r : List ℕ). f.read (r ++ rest)) (sym (spells a (fits a h))) ∙ F.again a rest (fits a h);
  stops = λ bytes left h e.
      let s = F.stops bytes left h (sym (reads bytes) ∙ e) in
      record {
        seen = s.seen;
        rest = s.rest;
        parts = s.parts;
        count = s.count;
        begun = record { value = s.begun.value; more = s.begun.more; fits = fitting s.begun.value s.begun.fits; parts = sym (spells s.begun.value s.begun.fits) ∙ s.begun.parts };
        stuck = stuck_same f.read g.read s.seen s.rest reads s.stuck;
      };
}

-- ---- one byte

byte_takes : (test : ℕ → Bool) (some : ℕ) (bytes : List ℕ) (z : ℕ × List ℕ) → IsBytes bytes → byte_where_at test bytes ≡ Ok z → Took (byte_where test some) bytes z
byte_takes test some [] z h e = absurd cc
byte_takes test some (b ∷ rest) z h e =
    let go : (t : Bool) → test b ≡ t → cond t (Ok (b, rest)) (Err (length (b ∷ rest))) ≡ Ok z → Took (byte_where test some) (b ∷ rest) z = λ t. elim t as (λ t. test b ≡ t → cond t (Ok (b, rest)) (Err (length (b ∷ rest))) ≡ Ok z → Took (byte_where test some) (b ∷ rest) z) [
      | true ↦ λ yes r. let made_of : ℕ × List ℕ = (b, rest) in subst (λ (y : ℕ × List ℕ). Took (byte_where test some) (b ∷ rest) y) (ok_is made_of z r) (record { parts = refl; fits = yes })
      | false ↦ λ not r. absurd cc
    ] in
    go (test b) refl e

byte_stops : (test : ℕ → Bool) (some : ℕ) → test some ≡ true → (bytes : List ℕ) (left : ℕ) → IsBytes bytes → byte_where_at test bytes ≡ Err left → Stops (byte_where test some) bytes left
byte_stops test some ok [] left h e = record { seen = []; rest = []; parts = refl; count = cc; begun = record { value = some; more = some ∷ []; fits = ok; parts = refl }; stuck = tt }
byte_stops test some ok (b ∷ rest) left h e =
    let good : Reading ℕ = Ok (b, rest) in
    let go : (t : Bool) → test b ≡ t → cond t good (Err (length (b ∷ rest))) ≡ Err left → Stops (byte_where test some) (b ∷ rest) left = λ t. elim t as (λ t. test b ≡ t → cond t good (Err (length (b ∷ rest))) ≡ Err left → Stops (byte_where test some) (b ∷ rest) left) [
      | true ↦ λ yes r. absurd cc
      | false ↦ λ not r. record {
        seen = [];
        rest = b ∷ rest;
        parts = refl;
        count = cc;
        begun = record { value = some; more = some ∷ []; fits = ok; parts = refl };
        stuck = λ more. (length (b ∷ more), rw not refl);
      }
    ] in
    go (test b) refl e

pub byte_lawful : (test : ℕ → Bool) (some : ℕ) → test some ≡ true → Lawful (byte_where test some)
byte_lawful test some ok = record {
  some_fits = ok;
  takes = byte_takes test some;
  again = λ b rest h. rw h refl;
  stops = byte_stops test some ok;
}
