-- A number of eight bytes that is at most a limit, by its bytes from the highest on.
use Rattle.std.proofs.Common.{◌≡◌, ℕ, zero, suc, ◌+◌, ◌*◌, ◌<◌, ◌≤◌, Bool, true, false, cond, eqb, ltb, leb, List, [], ◌∷◌, length, get_or, take, drop, Option, Some, None, Ok, Err, refl, sym, ap, subst, ◌∙◌, inl, inr, arith}
use Rattle.std.specs.Int.{w64, from_be_bytes, to_be_bytes}
use Rattle.std.proofs.Math.Nat.{mul-le-mul_right, suc-mul}
use Rattle.std.proofs.lemmas.Bool.{cases_lt, le-ltb, lt-ltb, leb-true, le-leb, eqb-true, eqb-false, eq-eqb}
use Rattle.byte_formats.specs.Formats.{◌>>=◌, Reading, Format, follows, made, byte_where, pick}
use Rattle.byte_formats.specs.Fields.{IsBytes, octets, octets_at, number_at, alone, over_at, last_second_bytes, last_second, moment, moment_at, unless_over}
use Rattle.byte_formats.proofs.Laws.{IsBytes-rest, Lawful, follows_lawful, made_lawful, byte_lawful, same_lawful}
use Rattle.byte_formats.proofs.FieldLaws.{octets_lawful, alone_lawful, wide64}

-- ---- what is at most a limit, byte by byte

upto : List ℕ → Format (List ℕ)
upto [] = alone []
upto (l ∷ ls) = made (λ x. x.0 ∷ x.1) (λ bs. (get_or bs 0 0, drop 1 bs)) (follows (byte_where (λ b. leb b l) 0) (λ b. pick (eqb b l) (upto ls) (octets (length ls))))

pick_lawful : {A : Type 0} (t : Bool) (f g : Format A) → Lawful f → Lawful g → Lawful (pick t f g)
pick_lawful true f g F G = F
pick_lawful false f g F G = G

upto_lawful : (ls : List ℕ) → Lawful (upto ls)
unfolding upto
upto_lawful [] = alone_lawful []
upto_lawful (l ∷ ls) =
    made_lawful (λ (x : ℕ × List ℕ). x.0 ∷ x.1) (λ bs. (get_or bs 0 0, drop 1 bs)) (follows (byte_where (λ b. leb b l) 0) (λ b. pick (eqb b l) (upto ls) (octets (length ls)))) (λ _ _. refl)
    (follows_lawful (byte_where (λ b. leb b l) 0) (λ b. pick (eqb b l) (upto ls) (octets (length ls))) (byte_lawful (λ b. leb b l) 0 (le-leb 0 l (omega arith)))
    (λ b _. pick_lawful (eqb b l) (upto ls) (octets (length ls)) (upto_lawful ls) (octets_lawful (length ls))))

-- ---- the number that bytes stand for

width : ℕ → ℕ
width zero = 1
width (suc k) = 256 * width k

value : List ℕ → ℕ
value [] = 0
value (b ∷ bs) = b * width (length bs) + value bs

value_below : (bs : List ℕ) → IsBytes bs → value bs < width (length bs)
unfolding value width
value_below [] h = omega arith
value_below (b ∷ bs) h =
    let p = width (length bs) in
    let low : value bs < width (length bs) = value_below bs (IsBytes-rest b bs h) in
    let one : suc b ≤ 256 = omega (arith, h 0) in
    let high : suc b * width (length bs) ≤ 256 * width (length bs) = mul-le-mul_right (width (length bs)) one in
    omega (arith, high, suc-mul b (width (length bs)), low)

upto_fits : (ls bs : List ℕ) → IsBytes ls → IsBytes bs → length bs ≡ length ls → value bs ≤ value ls → (upto ls).fits bs
unfolding upto value width
upto_fits [] [] hl hb len le = refl
upto_fits [] (b ∷ bs) hl hb len le = absurd (omega (arith, len))
upto_fits (l ∷ ls) [] hl hb len le = absurd (omega (arith, len))
upto_fits (l ∷ ls) (b ∷ bs) hl hb len le =
    let same : length bs ≡ length ls = omega (arith, len) in
    let wide : b * width (length ls) + value bs ≤ l * width (length ls) + value ls = subst (λ (k : ℕ). b * width k + value bs ≤ l * width (length ls) + value ls) same le in
    elim (cases_lt b l) [
      | inl lt ↦
          let yes : leb b l ≡ true = le-leb b l (omega arith) in
          let not : eqb b l ≡ false = grind arith in
          ((yes, rw not (same, IsBytes-rest b bs hb)), refl)
      | inr ge ↦ elim (cases_lt l b) [
        | inl gt ↦
            let high : suc l * width (length ls) ≤ b * width (length ls) = mul-le-mul_right (width (length ls)) gt in
            absurd (omega (arith, high, suc-mul l (width (length ls)), value_below ls (IsBytes-rest l ls hl), wide))
        | inr le2 ↦
            let is : b ≡ l = omega arith in
            let yes : leb b l ≡ true = le-leb b l (omega arith) in
            let one : eqb b l ≡ true = eq-eqb b l is in
            let times : b * width (length ls) ≡ l * width (length ls) = ap (λ (k : ℕ). k * width (length ls)) is in
            ((yes, rw one (upto_fits ls bs (IsBytes-rest l ls hl) (IsBytes-rest b bs hb) same (omega (arith, times, wide)))), refl)
      ]
    ]

record Within (ls bs : List ℕ) : Type 0 where
  bytes : IsBytes bs
  len : length bs ≡ length ls
  le : value bs ≤ value ls

IsBytes-cons : (b : ℕ) (bs : List ℕ) → b < 256 → IsBytes bs → IsBytes (b ∷ bs)
IsBytes-cons b bs lt h zero = lt
IsBytes-cons b bs lt h (suc i) = h i

upto_within : (ls bs : List ℕ) → IsBytes ls → (upto ls).fits bs → Within ls bs
unfolding upto value width
upto_within [] bs hl h = subst (λ (r : List ℕ). Within [] r) (sym h) (record { bytes = λ i. omega arith; len = refl; le = omega arith })
upto_within (l ∷ ls) bs hl h =
    let b = get_or bs 0 0 in
    let r = drop 1 bs in
    let le : b ≤ l = leb-true b l h.0.0 in
    let low : b < 256 = omega (arith, hl 0) in
    let go : (t : Bool) → eqb b l ≡ t → (pick t (upto ls) (octets (length ls))).fits r → Within (l ∷ ls) (b ∷ r) = λ t. elim t as (λ t. eqb b l ≡ t → (pick t (upto ls) (octets (length ls))).fits r → Within (l ∷ ls) (b ∷ r)) [
      | true ↦ λ is k.
          let w = upto_within ls r (IsBytes-rest l ls hl) k in
          record {
            bytes = IsBytes-cons b r low w.bytes;
            len = ap suc w.len;
            le = rw (w.len, eqb-true b l is) (omega (arith, w.le));
          }
      | false ↦ λ not k.
          let lt : suc b ≤ l = less b l le (eqb-false b l not) in
          let high : suc b * width (length ls) ≤ l * width (length ls) = mul-le-mul_right (width (length ls)) lt in
          let rest : value r < width (length r) = value_below r k.1 in
          record { bytes = IsBytes-cons b r low k.1; len = ap suc k.0; le = rw k.0 (omega (arith, high, suc-mul b (width (length ls)), subst (λ (n : ℕ). value r < width n) k.0 rest)) }
    ] in
    subst (λ (s : List ℕ). Within (l ∷ ls) s) h.1 (go (eqb b l) refl h.0.1)
  where
    less : (b l : ℕ) → b ≤ l → (b ≡ l → ⊥) → suc b ≤ l
    less b l le not = elim (cases_lt b l) [ inl lt ↦ lt | inr ge ↦ absurd (not (omega arith)) ]

-- ---- reading byte by byte, and reading all and testing

abbrev first : ℕ → List ℕ × List ℕ → Reading (ℕ × List ℕ)
first b y = Ok ((b, y.0), y.1)

abbrev join : (ℕ × List ℕ) × List ℕ → Reading (List ℕ)
join x = Ok (x.0.0 ∷ x.0.1, x.1)

abbrev consed : ℕ → Reading (List ℕ) → Reading (List ℕ)
consed b r = (r >>= first b) >>= join

raw_more : (b n : ℕ) (rest : List ℕ) → consed b (octets_at n rest) ≡ octets_at (suc n) (b ∷ rest)
raw_more b n rest =
    elim (cases_lt (length rest) n) [
      | inl lt ↦
          let one : ltb (length rest) n ≡ true = lt-ltb (length rest) n lt in
          let two : ltb (suc (length rest)) (suc n) ≡ true = lt-ltb (suc (length rest)) (suc n) (omega arith) in
          rw (one, two) refl
      | inr ge ↦
          let one : ltb (length rest) n ≡ false = le-ltb (length rest) n ge in
          let two : ltb (suc (length rest)) (suc n) ≡ false = le-ltb (suc (length rest)) (suc n) (omega arith) in
          rw (one, two) refl
    ]

over_more : (b : ℕ) (o : Option ℕ) (r s : Reading (List ℕ)) → consed b r ≡ s → consed b (unless_over o r) ≡ unless_over o s
over_more b None r s h = h
over_more b (Some left) r s h = refl

upto_read : (ls bytes : List ℕ) → (upto ls).read bytes ≡ unless_over (over_at ls bytes) (octets_at (length ls) bytes)
unfolding upto
upto_read [] bytes =
    let all : ltb (length bytes) 0 ≡ false = le-ltb (length bytes) 0 (omega arith) in
    rw all refl
upto_read (l ∷ ls) [] =
    let short : ltb 0 (suc (length ls)) ≡ true = lt-ltb 0 (suc (length ls)) (omega arith) in
    rw short refl
upto_read (l ∷ ls) (b ∷ rest) =
    elim (cases_lt b l) [
      | inl lt ↦
          let yes : leb b l ≡ true = le-leb b l (omega arith) in
          let not : eqb b l ≡ false = grind arith in
          let less : ltb b l ≡ true = lt-ltb b l lt in
          rw (yes, less) (rw not (raw_more b (length ls) rest))
      | inr ge ↦ elim (cases_lt l b) [
        | inl gt ↦
            let over : leb b l ≡ false = grind arith in
            let not : eqb b l ≡ false = grind arith in
            let less : ltb b l ≡ false = le-ltb b l ge in
            rw (over, less, not) refl
        | inr le2 ↦
            let is : b ≡ l = omega arith in
            let yes : leb b l ≡ true = le-leb b l (omega arith) in
            let same : eqb b l ≡ true = eq-eqb b l is in
            let less : ltb b l ≡ false = le-ltb b l ge in
            rw (yes, less) (rw same (rw (upto_read ls rest) (over_more b (over_at ls rest) (octets_at (length ls) rest) (octets_at (suc (length ls)) (b ∷ rest)) (raw_more b (length ls) rest))))
      ]
    ]

-- ---- moments

base : Format ℕ
base = made (from_be_bytes w64) (to_be_bytes w64) (upto last_second_bytes)

abbrev numbered : List ℕ × List ℕ → Reading ℕ
numbered x = Ok (from_be_bytes w64 x.0, x.1)

raw_number : (bytes : List ℕ) → (octets_at 8 bytes >>= numbered) ≡ number_at w64 bytes
raw_number bytes =
    let all : Reading (List ℕ) = Ok (take 8 bytes, drop 8 bytes) in
    let number : Reading ℕ = Ok (from_be_bytes w64 (take 8 bytes), drop 8 bytes) in
    let go : (t : Bool) → (cond t (Err 0) all >>= numbered) ≡ cond t (Err 0) number = λ t. elim t as (λ t. (cond t (Err 0) all >>= numbered) ≡ cond t (Err 0) number) [ true ↦ refl | false ↦ refl ] in
    go (ltb (length bytes) 8)

over_number : (o : Option ℕ) (r : Reading (List ℕ)) (s : Reading ℕ) → (r >>= numbered) ≡ s → unless_over o s ≡ (unless_over o r >>= numbered)
over_number None r s h = sym h
over_number (Some left) r s h = refl

moment_reads : (bytes : List ℕ) → moment_at bytes ≡ base.read bytes
unfolding moment_at base
moment_reads bytes = over_number (over_at last_second_bytes bytes) (octets_at 8 bytes) (number_at w64 bytes) (raw_number bytes) ∙ ap (λ (r : Reading (List ℕ)). r >>= numbered) (sym (upto_read last_second_bytes bytes))

limit_bytes : IsBytes last_second_bytes
limit_bytes zero = omega arith
limit_bytes (suc zero) = omega arith
limit_bytes (suc (suc zero)) = omega arith
limit_bytes (suc (suc (suc zero))) = omega arith
limit_bytes (suc (suc (suc (suc zero)))) = omega arith
limit_bytes (suc (suc (suc (suc (suc zero))))) = omega arith
limit_bytes (suc (suc (suc (suc (suc (suc zero)))))) = omega arith
limit_bytes (suc (suc (suc (suc (suc (suc (suc zero))))))) = omega arith
limit_bytes (suc (suc (suc (suc (suc (suc (suc (suc i)))))))) = omega arith

number_bytes : (n : ℕ) → IsBytes (to_be_bytes w64 n)
number_bytes n zero = omega arith
number_bytes n (suc zero) = omega arith
number_bytes n (suc (suc zero)) = omega arith
number_bytes n (suc (suc (suc zero))) = omega arith
number_bytes n (suc (suc (suc (suc zero)))) = omega arith
number_bytes n (suc (suc (suc (suc (suc zero))))) = omega arith
number_bytes n (suc (suc (suc (suc (suc (suc zero)))))) = omega arith
number_bytes n (suc (suc (suc (suc (suc (suc (suc zero))))))) = omega arith
number_bytes n (suc (suc (suc (suc (suc (suc (suc (suc i)))))))) = omega arith

value_is : (n : ℕ) → value (to_be_bytes w64 n) ≡ from_be_bytes w64 (to_be_bytes w64 n)
unfolding value width
value_is n = omega arith

limit_is : value last_second_bytes ≡ last_second
unfolding value width
limit_is = refl

base_lawful : Lawful base
unfolding base
base_lawful = made_lawful (from_be_bytes w64) (to_be_bytes w64) (upto last_second_bytes) (λ a h. let w = upto_within last_second_bytes a limit_bytes h in wide64.back a w.len w.bytes) (upto_lawful last_second_bytes)

moment_fits : (n : ℕ) → moment.fits n → base.fits n
unfolding base
moment_fits n h =
    let back = wide64.again n (omega (arith, h)) in
    let le : value (to_be_bytes w64 n) ≤ value last_second_bytes = rw (value_is n, back, limit_is) h in
    (upto_fits last_second_bytes (to_be_bytes w64 n) limit_bytes (number_bytes n) refl le, back)

moment_fitting : (n : ℕ) → base.fits n → moment.fits n
unfolding base
moment_fitting n h =
    let w = upto_within last_second_bytes (to_be_bytes w64 n) limit_bytes h.0 in
    rw (value_is n, h.1, limit_is) at w.le

upto_spells : (ls bs : List ℕ) → (upto ls).fits bs → (upto ls).spell bs ≡ bs
unfolding upto
upto_spells [] bs h = sym h
upto_spells (l ∷ ls) bs h =
    let b = get_or bs 0 0 in
    let r = drop 1 bs in
    let go : (t : Bool) → (pick t (upto ls) (octets (length ls))).fits r → b ∷ (pick t (upto ls) (octets (length ls))).spell r ≡ b ∷ r = λ t. elim t as (λ t. (pick t (upto ls) (octets (length ls))).fits r → b ∷ (pick t (upto ls) (octets (length ls))).spell r ≡ b ∷ r) [
      | true ↦ λ k. ap (λ (s : List ℕ). b ∷ s) (upto_spells ls r k)
      | false ↦ λ k. refl
    ] in
    go (eqb b l) h.0.1 ∙ h.1

base_spells : (n : ℕ) → base.fits n → base.spell n ≡ to_be_bytes w64 n
unfolding base
base_spells n h = upto_spells last_second_bytes (to_be_bytes w64 n) h.0

pub moment_lawful : Lawful moment
moment_lawful = same_lawful base moment moment_reads moment_fits moment_fitting base_spells (omega arith) base_lawful
