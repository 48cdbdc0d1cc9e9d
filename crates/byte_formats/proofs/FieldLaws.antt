-- The laws of the fields.
use Rattle.std.proofs.Common.{◌≡◌, ℕ, zero, suc, ◌-◌, ◌^◌, ◌<◌, ◌≤◌, Bool, true, false, cond, eqb, ltb, List, [], ◌∷◌, ◌++◌, length, take, drop, Option, Some, None, Ok, Err, refl, sym, ap, subst, ◌∙◌, inl, inr, arith}
use Rattle.std.specs.Int.{Width, w32, w64, byte_len, from_be_bytes, to_be_bytes}
use Rattle.std.proofs.lemmas.Bool.{cases_lt, ltb-true, ltb-false, le-ltb}
use Rattle.std.proofs.lemmas.List.{append-nil, take_at, drop_at, take-append-drop, length-append, length-take, get_or-take, get_or_past}
use Rattle.std.proofs.lemmas.Nat.{be_bytes_4, be_bytes_8, from_be_bytes-to_be_bytes_4, from_be_bytes-to_be_bytes_8}
use Rattle.byte_formats.specs.Formats.{Format, made, copies, only_kind, or_kind}
use Rattle.byte_formats.specs.Fields.{IsBytes, octets, number, n32, n64, flag, flag_at, optional, alone}
use Rattle.byte_formats.proofs.Laws.{IsBytes-append, Took, Stops, Lawful, ok_is, made_lawful, same_lawful}
use Rattle.byte_formats.proofs.KindLaws.{only_kinds, or_kinds}

guard_ok : {A : Type 0} (b : Bool) (d : ℕ) (x y : A) → cond b (Err d) (Ok x) ≡ Ok y → (b ≡ false) × (x ≡ y)
guard_ok true d x y e = absurd cc
guard_ok false d x y e = (refl, cc)

guard_err : {A : Type 0} (b : Bool) (d c : ℕ) (x : A) → cond b (Err d) (Ok x) ≡ Err c → (b ≡ true) × (c ≡ d)
guard_err true d c x e = (refl, cc)
guard_err false d c x e = absurd cc

IsBytes-take : (n : ℕ) (bytes : List ℕ) → IsBytes bytes → IsBytes (take n bytes)
IsBytes-take n bytes h i =
    elim (cases_lt i n) [
      | inl lt ↦ rw (get_or-take n bytes i 0 lt) (h i)
      | inr le ↦ rw (get_or_past (take n bytes) i 0 (omega (arith, length-take n bytes))) (omega arith)
    ]

zeros_are : (n : ℕ) → IsBytes (copies {A = ℕ} n 0)
zeros_are zero i = omega arith
zeros_are (suc n) zero = omega arith
zeros_are (suc n) (suc i) = zeros_are n i

pub length-copies : (n : ℕ) → length (copies {A = ℕ} n 0) ≡ n
length-copies zero = refl
length-copies (suc n) = ap suc (length-copies n)

-- ---- bytes as they stand

pub octets_lawful : (n : ℕ) → Lawful (octets n)
octets_lawful n = record {
  some_fits = (length-copies n, zeros_are n);
  takes = λ bytes z h e.
      let made_of : List ℕ × List ℕ = (take n bytes, drop n bytes) in
      let g = guard_ok (ltb (length bytes) n) 0 made_of z e in
      let long : n ≤ length bytes = ltb-false _ _ g.0 in
      subst (λ (y : List ℕ × List ℕ). Took (octets n) bytes y) g.1 (record { parts = sym (take-append-drop n bytes); fits = (omega (arith, length-take n bytes), IsBytes-take n bytes h) });
  again = λ a rest h.
      let len : length a ≡ n = h.0 in
      let long : ltb (length (a ++ rest)) n ≡ false = le-ltb _ _ (omega (arith, length-append a rest)) in
      rw (long, take_at a rest n len, drop_at a rest n len) refl;
  stops = λ bytes left h e.
      let made_of : List ℕ × List ℕ = (take n bytes, drop n bytes) in
      let g = guard_err (ltb (length bytes) n) 0 left made_of e in
      let short : length bytes < n = ltb-true _ _ g.0 in
      let more = copies (n - length bytes) 0 in
      record {
        seen = bytes;
        rest = [];
        parts = sym (append-nil bytes);
        count = g.1;
        begun = record {
          value = bytes ++ more;
          more = more;
          fits = (omega (arith, length-append bytes more, length-copies (n - length bytes)), IsBytes-append bytes more h (zeros_are (n - length bytes)));
          parts = refl;
        };
        stuck = tt;
      };
}

-- ---- numbers

pub record IsWide (w : Width) (limit : ℕ) : Type 0 where
  pub len : (n : ℕ) → length (to_be_bytes w n) ≡ byte_len w
  pub back : (bytes : List ℕ) → length bytes ≡ byte_len w → IsBytes bytes → to_be_bytes w (from_be_bytes w bytes) ≡ bytes
  pub again : (n : ℕ) → n < limit → from_be_bytes w (to_be_bytes w n) ≡ n
  pub below : (bytes : List ℕ) → IsBytes bytes → from_be_bytes w bytes < limit

pub wide32 : IsWide w32 (2 ^ 32)
wide32 = record {
  len = λ n. refl;
  back = λ bytes len fits. be_bytes_4 bytes _ len fits refl;
  again = λ n lt. from_be_bytes-to_be_bytes_4 n lt;
  below = λ bytes fits. omega (arith, fits 0, fits 1, fits 2, fits 3);
}

pub wide64 : IsWide w64 (2 ^ 64)
wide64 = record {
  len = λ n. refl;
  back = λ bytes len fits. be_bytes_8 bytes _ len fits refl;
  again = λ n lt. from_be_bytes-to_be_bytes_8 n lt;
  below = λ bytes fits. omega (arith, fits 0, fits 1, fits 2, fits 3, fits 4, fits 5, fits 6, fits 7);
}

pub number_lawful : (w : Width) (limit : ℕ) → 0 < limit → IsWide w limit → Lawful (number w limit)
number_lawful w limit some wide = record {
  some_fits = some;
  takes = λ bytes z h e.
      let front = take (byte_len w) bytes in
      let made_of : ℕ × List ℕ = (from_be_bytes w front, drop (byte_len w) bytes) in
      let g = guard_ok (ltb (length bytes) (byte_len w)) 0 made_of z e in
      let long : byte_len w ≤ length bytes = ltb-false _ _ g.0 in
      let is-bytes : IsBytes front = IsBytes-take (byte_len w) bytes h in
      let back : to_be_bytes w (from_be_bytes w front) ≡ front = wide.back front (omega (arith, length-take (byte_len w) bytes)) is-bytes in
      subst (λ (y : ℕ × List ℕ). Took (number w limit) bytes y) g.1
      (record { parts = sym (take-append-drop (byte_len w) bytes) ∙ ap (λ (r : List ℕ). r ++ drop (byte_len w) bytes) (sym back); fits = wide.below front is-bytes });
  again = λ n rest h.
      let len = wide.len n in
      let long : ltb (length (to_be_bytes w n ++ rest)) (byte_len w) ≡ false = le-ltb _ _ (omega (arith, length-append (to_be_bytes w n) rest)) in
      rw (long, take_at (to_be_bytes w n) rest (byte_len w) len, drop_at (to_be_bytes w n) rest (byte_len w) len, wide.again n h) refl;
  stops = λ bytes left h e.
      let made_of : ℕ × List ℕ = (from_be_bytes w (take (byte_len w) bytes), drop (byte_len w) bytes) in
      let g = guard_err (ltb (length bytes) (byte_len w)) 0 left made_of e in
      let short : length bytes < byte_len w = ltb-true _ _ g.0 in
      let more = copies (byte_len w - length bytes) 0 in
      let len : length (bytes ++ more) ≡ byte_len w = omega (arith, length-append bytes more, length-copies (byte_len w - length bytes)) in
      let is-bytes : IsBytes (bytes ++ more) = IsBytes-append bytes more h (zeros_are (byte_len w - length bytes)) in
      record {
        seen = bytes;
        rest = [];
        parts = sym (append-nil bytes);
        count = g.1;
        begun = record { value = from_be_bytes w (bytes ++ more); more = more; fits = wide.below (bytes ++ more) is-bytes; parts = wide.back (bytes ++ more) len is-bytes };
        stuck = tt;
      };
}

pub n32_lawful : Lawful n32
n32_lawful = number_lawful w32 (2 ^ 32) (omega arith) wide32

pub n64_lawful : Lawful n64
n64_lawful = number_lawful w64 (2 ^ 64) (omega arith) wide64

-- ---- truth values

flag_takes : (bytes : List ℕ) (z : Bool × List ℕ) → IsBytes bytes → flag_at bytes ≡ Ok z → Took flag bytes z
unfolding flag_at
flag_takes [] z h e = absurd cc
flag_takes (zero ∷ rest) z h e = subst (λ (y : Bool × List ℕ). Took flag (0 ∷ rest) y) (ok_is (false, rest) z e) (record { parts = refl; fits = tt })
flag_takes (suc zero ∷ rest) z h e = subst (λ (y : Bool × List ℕ). Took flag (1 ∷ rest) y) (ok_is (true, rest) z e) (record { parts = refl; fits = tt })
flag_takes (suc (suc b) ∷ rest) z h e = absurd cc

flag_again : (b : Bool) (rest : List ℕ) → Unit {0} → flag_at (flag.spell b ++ rest) ≡ Ok (b, rest)
unfolding flag_at
flag_again true rest h = refl
flag_again false rest h = refl

flag_stops : (bytes : List ℕ) (left : ℕ) → IsBytes bytes → flag_at bytes ≡ Err left → Stops flag bytes left
unfolding flag_at
flag_stops [] left h e = record { seen = []; rest = []; parts = refl; count = cc; begun = record { value = false; more = 0 ∷ []; fits = tt; parts = refl }; stuck = tt }
flag_stops (zero ∷ rest) left h e = absurd cc
flag_stops (suc zero ∷ rest) left h e = absurd cc
flag_stops (suc (suc b) ∷ rest) left h e = record {
  seen = [];
  rest = suc (suc b) ∷ rest;
  parts = refl;
  count = cc;
  begun = record { value = false; more = 0 ∷ []; fits = tt; parts = refl };
  stuck = λ more. (length (suc (suc b) ∷ more), refl);
}

pub flag_lawful : Lawful flag
flag_lawful = record { some_fits = tt; takes = flag_takes; again = flag_again; stops = flag_stops }

-- ---- nothing, or a field

pub alone_lawful : {A : Type 0} (a : A) → Lawful (alone a)
alone_lawful {A = A} a = record {
  some_fits = refl;
  takes = λ bytes z h e.
      let made_of : A × List ℕ = (a, bytes) in
      subst (λ (y : A × List ℕ). Took (alone a) bytes y) (ok_is made_of z e) (record { parts = refl; fits = refl });
  again = λ b rest h. ap (λ (v : A). Ok (v, rest)) (sym h);
  stops = λ bytes left h e. absurd cc;
}

-- the same as a choice of two kinds

abbrev is_some : {A : Type 0} → Option A → ℕ
is_some None = 0
is_some (Some _) = 1

abbrev or_else : {A : Type 0} → A → Option A → A
or_else a None = a
or_else a (Some b) = b

abbrev optional_kinds : {A : Type 0} → Format A → Format (Option A)
optional_kinds f = or_kind is_some 0 (alone None) (only_kind 1 (made Some (or_else f.some) f))

optional_kinds_lawful : {A : Type 0} (f : Format A) → Lawful f → Lawful (optional_kinds f)
optional_kinds_lawful {A = A} f F =
    let inner = made_lawful (λ (a : A). Some a) (or_else f.some) f (λ a h. refl) F in
    (or_kinds is_some 0 (alone None) (only_kind 1 (made Some (or_else f.some) f)) (λ a h. ap is_some h) (alone_lawful None)
    (only_kinds is_some 1 (made Some (or_else f.some) f) (λ a h. ap is_some (sym h.1)) inner)).lawful

optional_reads : {A : Type 0} (f : Format A) (bytes : List ℕ) → (optional f).read bytes ≡ (optional_kinds f).read bytes
optional_reads f [] = refl
optional_reads f (zero ∷ rest) = refl
optional_reads f (suc zero ∷ rest) = refl
optional_reads f (suc (suc b) ∷ rest) =
    let n0 : eqb (suc (suc b)) 0 ≡ false = grind arith in
    let n1 : eqb (suc (suc b)) 1 ≡ false = grind arith in
    rw (n0, n1) refl

optional_fits : {A : Type 0} (f : Format A) (o : Option A) → (optional f).fits o → (optional_kinds f).fits o
optional_fits f None h = refl
optional_fits f (Some a) h = (h, refl)

optional_fitting : {A : Type 0} (f : Format A) (o : Option A) → (optional_kinds f).fits o → (optional f).fits o
optional_fitting f None h = tt
optional_fitting f (Some a) h = h.0

optional_spells : {A : Type 0} (f : Format A) (o : Option A) → (optional_kinds f).fits o → (optional_kinds f).spell o ≡ (optional f).spell o
optional_spells f None h = refl
optional_spells f (Some a) h = refl

pub optional_lawful : {A : Type 0} (f : Format A) → Lawful f → Lawful (optional f)
optional_lawful f F = same_lawful (optional_kinds f) (optional f) (optional_reads f) (optional_fits f) (optional_fitting f) (optional_spells f) tt (optional_kinds_lawful f F)
