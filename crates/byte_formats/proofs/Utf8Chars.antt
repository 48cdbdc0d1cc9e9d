-- The bytes that a reader of texts takes one by one are UTF-8, and all of UTF-8 is taken.
use Rattle.std.proofs.Common.{◌≡◌, ℕ, zero, suc, ◌+◌, ◌-◌, ◌*◌, ◌/◌, ◌<◌, ◌≤◌, ◌⊎◌, true, List, [], ◌∷◌, ◌++◌, length, refl, sym, ap, subst, ◌∙◌, inl, inr, arith, ltb, leb, lt-ltb, le-ltb, le-leb, eq-eqb, ne_eqb}
use Rattle.std.specs.Prelude.{◌||◌}
use Rattle.std.proofs.lemmas.Bool.{cases_lt, cases_eq, and_parts, and_from, or_cases, or_left, or_right, ltb-true, leb-true}
use Rattle.std.proofs.lemmas.Str.{encode_ascii, IsUtf8-nil}
use Rattle.std.specs.Str.{IsUtf8}
use lib.Utf8.{scalar, scalars, encode, encodes, next, low_scalar, scalar_cases}
use Rattle.byte_formats.specs.Texts.{between, bytes_after, least_after, most_after, is_lead, allows, after}
use Rattle.byte_formats.specs.declared.text.Awaited.{Awaited}
use Rattle.byte_formats.specs.declared.text.Awaited.TheVariants.{Lead, Within}

-- The bytes go on from what is awaited, and end after so many where a character ends.
unfoldable pub Chars : Awaited → ℕ → List ℕ → Type 0
Chars awaited zero bytes = bytes ≡ []
Chars awaited (suc left) [] = ⊥
Chars awaited (suc left) (byte ∷ rest) = (allows awaited (suc left) byte ≡ true) × Chars (after awaited byte) left rest

-- ---- the tests as bounds

IsContinuation : ℕ → Type 0
IsContinuation b = (0x80 ≤ b) × (b ≤ 0xBF)

between_parts : (least most b : ℕ) → between least most b ≡ true → (least ≤ b) × (b ≤ most)
between_parts least most b h = let p = and_parts (leb least b) (leb b most) h in (leb-true least b p.0, leb-true b most p.1)

between_from : (least most b : ℕ) → least ≤ b → b ≤ most → between least most b ≡ true
between_from least most b l m = and_from (leb least b) (leb b most) (le-leb least b l) (le-leb b most m)

lead_parts : (left b : ℕ) → is_lead left b ≡ true → ((b < 0x80) ⊎ ((0xC2 ≤ b) × (b ≤ 0xF4))) × (bytes_after b < left)
lead_parts left b h =
    let p = and_parts (ltb b 0x80 || between 0xC2 0xF4 b) (ltb (bytes_after b) left) h in
    (elim (or_cases (ltb b 0x80) (between 0xC2 0xF4 b) p.0) [ inl a ↦ inl (ltb-true b 0x80 a) | inr m ↦ inr (between_parts 0xC2 0xF4 b m) ], ltb-true (bytes_after b) left p.1)

lead_from : (left b : ℕ) → 0xC2 ≤ b → b ≤ 0xF4 → bytes_after b < left → is_lead left b ≡ true
lead_from left b l m room =
    and_from (ltb b 0x80 || between 0xC2 0xF4 b) (ltb (bytes_after b) left) (or_right (ltb b 0x80) (between 0xC2 0xF4 b) (between_from 0xC2 0xF4 b l m)) (lt-ltb (bytes_after b) left room)

-- the two bounds as numbers, by the first byte
pub least_is : (b : ℕ) → ((b ≡ 0xE0) × (least_after b ≡ 0xA0)) ⊎ (((b ≡ 0xF0) × (least_after b ≡ 0x90)) ⊎ ((b ≡ 0xE0 → ⊥) × (b ≡ 0xF0 → ⊥) × (least_after b ≡ 0x80)))
least_is b =
    elim (cases_eq b 0xE0) [
      | inl e ↦ inl (e, rw (eq-eqb b 0xE0 e) refl)
      | inr n ↦ elim (cases_eq b 0xF0) [ inl e ↦ inr (inl (e, rw (ne_eqb b 0xE0 n, eq-eqb b 0xF0 e) refl)) | inr m ↦ inr (inr (n, m, rw (ne_eqb b 0xE0 n, ne_eqb b 0xF0 m) refl)) ]
    ]

pub most_is : (b : ℕ) → ((b ≡ 0xED) × (most_after b ≡ 0x9F)) ⊎ (((b ≡ 0xF4) × (most_after b ≡ 0x8F)) ⊎ ((b ≡ 0xED → ⊥) × (b ≡ 0xF4 → ⊥) × (most_after b ≡ 0xBF)))
most_is b =
    elim (cases_eq b 0xED) [
      | inl e ↦ inl (e, rw (eq-eqb b 0xED e) refl)
      | inr n ↦ elim (cases_eq b 0xF4) [ inl e ↦ inr (inl (e, rw (ne_eqb b 0xED n, eq-eqb b 0xF4 e) refl)) | inr m ↦ inr (inr (n, m, rw (ne_eqb b 0xED n, ne_eqb b 0xF4 m) refl)) ]
    ]

-- what is awaited after a first byte, and for how many bytes there must be room
after_1 : (b : ℕ) → b < 0x80 → after Lead b ≡ Lead
after_1 b h = rw (lt-ltb b 0x80 h) refl

after_2 : (b : ℕ) → 0x80 ≤ b → b < 0xE0 → after Lead b ≡ Within 0x80 0xBF 0
after_2 b l h = rw (le-ltb b 0x80 l, lt-ltb b 0xE0 h, ne_eqb b 0xE0 (omega arith), ne_eqb b 0xF0 (omega arith), ne_eqb b 0xED (omega arith), ne_eqb b 0xF4 (omega arith)) refl

after_3 : (b : ℕ) → 0xE0 ≤ b → b < 0xF0 → after Lead b ≡ Within (least_after b) (most_after b) 1
after_3 b l h = rw (le-ltb b 0x80 (omega arith), le-ltb b 0xE0 l, lt-ltb b 0xF0 h) refl

after_4 : (b : ℕ) → 0xF0 ≤ b → after Lead b ≡ Within (least_after b) (most_after b) 2
after_4 b l = rw (le-ltb b 0x80 (omega arith), le-ltb b 0xE0 (omega arith), le-ltb b 0xF0 l) refl

room_1 : (b : ℕ) → b < 0x80 → bytes_after b ≡ 0
room_1 b h = rw (lt-ltb b 0x80 h) refl

room_2 : (b : ℕ) → 0x80 ≤ b → b < 0xE0 → bytes_after b ≡ 1
room_2 b l h = rw (le-ltb b 0x80 l, lt-ltb b 0xE0 h) refl

room_3 : (b : ℕ) → 0xE0 ≤ b → b < 0xF0 → bytes_after b ≡ 2
room_3 b l h = rw (le-ltb b 0x80 (omega arith), le-ltb b 0xE0 l, lt-ltb b 0xF0 h) refl

room_4 : (b : ℕ) → 0xF0 ≤ b → bytes_after b ≡ 3
room_4 b l = rw (le-ltb b 0x80 (omega arith), le-ltb b 0xE0 (omega arith), le-ltb b 0xF0 l) refl

-- ---- the bytes of a character, by its number

two : (c : ℕ) → 128 ≤ c → c < 2048 → encode c ≡ (192 + c / 64) ∷ next c ∷ []
unfolding encode
two c l h = rw (le-ltb c 128 l, lt-ltb c 2048 h) refl

three : (c : ℕ) → 2048 ≤ c → c < 65536 → encode c ≡ (224 + c / 4096) ∷ next (c / 64) ∷ next c ∷ []
unfolding encode
three c l h = rw (le-ltb c 128 (omega arith), le-ltb c 2048 l, lt-ltb c 65536 h) refl

four : (c : ℕ) → 65536 ≤ c → encode c ≡ (240 + c / 262144) ∷ next (c / 4096) ∷ next (c / 64) ∷ next c ∷ []
unfolding encode
four c l = rw (le-ltb c 128 (omega arith), le-ltb c 2048 (omega arith), le-ltb c 65536 l) refl

high_scalar : (c : ℕ) → 57344 ≤ c → c < 1114112 → scalar c ≡ true
high_scalar c l h = rw (le-ltb c 55296 (omega arith), le-leb 57344 c l, lt-ltb c 1114112 h) refl

-- ---- what is taken is UTF-8

cons : (c : ℕ) (front bs : List ℕ) → scalar c ≡ true → encode c ≡ front → IsUtf8 bs → IsUtf8 (front ++ bs)
cons c front bs ok e u = (c ∷ u.0, (rw ok u.1.0, λ i. e i ++ u.1.1 i))

cons_two : (x y : ℕ) (bs : List ℕ) → 0xC2 ≤ x → x < 0xE0 → IsContinuation y → IsUtf8 bs → IsUtf8 (x ∷ y ∷ bs)
unfolding IsContinuation
cons_two x y bs l h f =
    let c = (x - 192) * 64 + (y - 128) in
    let p : 192 + c / 64 ≡ x = omega arith in
    let q : next c ≡ y = omega arith in
    cons c (x ∷ y ∷ []) bs (low_scalar c (omega arith)) (two c (omega arith) (omega arith) ∙ (λ k. p k ∷ q k ∷ []))

second_continues : (x y : ℕ) → least_after x ≤ y → y ≤ most_after x → IsContinuation y
unfolding IsContinuation
second_continues x y l m = omega (arith, least_is x, most_is x)

three_bytes : (x y z : ℕ) → 224 ≤ x → IsContinuation y → IsContinuation z
    → let c = (x - 224) * 4096 + (y - 128) * 64 + (z - 128) in (224 + c / 4096 ≡ x) × (next (c / 64) ≡ y) × (next c ≡ z)
unfolding IsContinuation
three_bytes x y z h f g = (omega arith, omega arith, omega arith)

four_bytes : (x y z w : ℕ) → 240 ≤ x → IsContinuation y → IsContinuation z → IsContinuation w
    → let c = (x - 240) * 262144 + (y - 128) * 4096 + (z - 128) * 64 + (w - 128) in (240 + c / 262144 ≡ x) × (next (c / 4096) ≡ y) × (next (c / 64) ≡ z) × (next c ≡ w)
unfolding IsContinuation
four_bytes x y z w h f g j =
    let e : ((x - 240) * 262144 + (y - 128) * 4096 + (z - 128) * 64 + (w - 128)) / 64 ≡ (x - 240) * 4096 + (y - 128) * 64 + (z - 128) = omega arith in
    (omega arith, omega arith, rw e (omega arith), omega arith)

cons_three : (x y z : ℕ) (bs : List ℕ) → 0xE0 ≤ x → x < 0xF0 → least_after x ≤ y → y ≤ most_after x → IsContinuation z → IsUtf8 bs → IsUtf8 (x ∷ y ∷ z ∷ bs)
unfolding IsContinuation
cons_three x y z bs l0 h0 l m g =
    let c = (x - 224) * 4096 + (y - 128) * 64 + (z - 128) in
    let bytes = three_bytes x y z l0 (second_continues x y l m) g in
    let p = bytes.0 in
    let q = bytes.1 in
    let r = bytes.2 in
    let least = least_is x in
    let most = most_is x in
    let ok : scalar c ≡ true = elim (cases_lt c 55296) [ inl a ↦ low_scalar c a | inr a ↦ high_scalar c (omega arith) (omega arith) ] in
    cons c (x ∷ y ∷ z ∷ []) bs ok (three c (omega arith) (omega arith) ∙ (λ k. p k ∷ q k ∷ r k ∷ []))

cons_four : (x y z w : ℕ) (bs : List ℕ) → 0xF0 ≤ x → x ≤ 0xF4 → least_after x ≤ y → y ≤ most_after x → IsContinuation z → IsContinuation w → IsUtf8 bs → IsUtf8 (x ∷ y ∷ z ∷ w ∷ bs)
unfolding IsContinuation
cons_four x y z w bs l0 h0 l m g j =
    let c = (x - 240) * 262144 + (y - 128) * 4096 + (z - 128) * 64 + (w - 128) in
    let bytes = four_bytes x y z w l0 (second_continues x y l m) g j in
    let p = bytes.0 in
    let q = bytes.1 in
    let r = bytes.2 in
    let t = bytes.3 in
    let least = least_is x in
    let most = most_is x in
    cons c (x ∷ y ∷ z ∷ w ∷ []) bs (high_scalar c (omega arith) (omega arith)) (four c (omega arith) ∙ (λ k. p k ∷ q k ∷ r k ∷ t k ∷ []))

-- one byte inside a character
record Taken (least most more left : ℕ) (bytes : List ℕ) : Type 0 where
  byte : ℕ
  rest : List ℕ
  room : ℕ
  count : left ≡ suc room
  parts : bytes ≡ byte ∷ rest
  low : least ≤ byte
  high : byte ≤ most
  chars : Chars (after (Within least most more) byte) room rest

taken : (least most more left : ℕ) (bytes : List ℕ) → 0 < left → Chars (Within least most more) left bytes → Taken least most more left bytes
unfolding Chars
taken least most more zero bytes some h = absurd (omega (arith, some))
taken least most more (suc left) [] some h = absurd h
taken least most more (suc left) (b ∷ rest) some h =
    let p = between_parts least most b h.0 in
    record { byte = b; rest = rest; room = left; count = refl; parts = refl; low = p.0; high = p.1; chars = h.1 }

after_two : (b x y : ℕ) (bytes rest others : List ℕ) → bytes ≡ x ∷ rest → rest ≡ y ∷ others → IsUtf8 (b ∷ x ∷ y ∷ others) → IsUtf8 (b ∷ bytes)
after_two b x y bytes rest others e f utf8 = subst (λ (r : List ℕ). IsUtf8 (b ∷ r)) (sym (e ∙ ap (λ (r : List ℕ). x ∷ r) f)) utf8

after_three : (b x y z : ℕ) (bytes rest others last : List ℕ) → bytes ≡ x ∷ rest → rest ≡ y ∷ others → others ≡ z ∷ last → IsUtf8 (b ∷ x ∷ y ∷ z ∷ last) → IsUtf8 (b ∷ bytes)
after_three b x y z bytes rest others last e f g utf8 = subst (λ (r : List ℕ). IsUtf8 (b ∷ r)) (sym (e ∙ ap (λ (r : List ℕ). x ∷ r) (f ∙ ap (λ (r : List ℕ). y ∷ r) g))) utf8

module _ (k : ℕ) (others : (n : ℕ) (bs : List ℕ) → n ≤ k → Chars Lead n bs → IsUtf8 bs) where
  ends_two : (b n : ℕ) (bs : List ℕ) → n ≤ k → 0xC2 ≤ b → b < 0xE0 → 0 < n → Chars (Within 0x80 0xBF 0) n bs → IsUtf8 (b ∷ bs)
  unfolding IsContinuation
  ends_two b n bs le l h some chars =
      let t = taken 0x80 0xBF 0 n bs some chars in
      subst (λ (r : List ℕ). IsUtf8 (b ∷ r)) (sym t.parts) (cons_two b t.byte t.rest l h (t.low, t.high) (others t.room t.rest (omega (arith, t.count)) t.chars))

  ends_three : (b n : ℕ) (bs : List ℕ) → n ≤ k → 0xE0 ≤ b → b < 0xF0 → 1 < n → Chars (Within (least_after b) (most_after b) 1) n bs → IsUtf8 (b ∷ bs)
  unfolding IsContinuation
  ends_three b n bs le l h some chars =
      let t = taken (least_after b) (most_after b) 1 n bs (omega (arith, some)) chars in
      let u = taken 0x80 0xBF 0 t.room t.rest (omega (arith, some, t.count)) t.chars in
      after_two b t.byte u.byte bs t.rest u.rest t.parts u.parts
      (cons_three b t.byte u.byte u.rest l h t.low t.high (u.low, u.high) (others u.room u.rest (omega (arith, t.count, u.count)) u.chars))

  ends_four : (b n : ℕ) (bs : List ℕ) → n ≤ k → 0xF0 ≤ b → b ≤ 0xF4 → 2 < n → Chars (Within (least_after b) (most_after b) 2) n bs → IsUtf8 (b ∷ bs)
  unfolding IsContinuation
  ends_four b n bs le l h some chars =
      let t = taken (least_after b) (most_after b) 2 n bs (omega (arith, some)) chars in
      let u = taken 0x80 0xBF 1 t.room t.rest (omega (arith, some, t.count)) t.chars in
      let v = taken 0x80 0xBF 0 u.room u.rest (omega (arith, some, t.count, u.count)) u.chars in
      after_three b t.byte u.byte v.byte bs t.rest u.rest v.rest t.parts u.parts v.parts
      (cons_four b t.byte u.byte v.byte v.rest l h t.low t.high (u.low, u.high) (v.low, v.high) (others v.room v.rest (omega (arith, t.count, u.count, v.count)) v.chars))

sound : (k n : ℕ) (bs : List ℕ) → n ≤ k → Chars Lead n bs → IsUtf8 bs
unfolding Chars
sound k zero bs le h = subst IsUtf8 (sym h) IsUtf8-nil
sound zero (suc n) bs le h = absurd (omega (arith, le))
sound (suc k) (suc n) [] le h = absurd h
sound (suc k) (suc n) (b ∷ bs) le h =
    let p = lead_parts (suc n) b h.0 in
    let fewer : n ≤ k = omega (arith, le) in
    elim p.0 [
      | inl a ↦ cons b (b ∷ []) bs (low_scalar b (omega arith)) (encode_ascii b a) (sound k n bs fewer (subst (λ (w : Awaited). Chars w n bs) (after_1 b a) h.1))
      | inr m ↦ elim (cases_lt b 0xE0) [
        | inl s ↦ ends_two k (sound k) b n bs fewer m.0 s (omega (arith, p.1, room_2 b (omega arith) s)) (subst (λ (w : Awaited). Chars w n bs) (after_2 b (omega arith) s) h.1)
        | inr s ↦ elim (cases_lt b 0xF0) [
          | inl t ↦ ends_three k (sound k) b n bs fewer s t (omega (arith, p.1, room_3 b s t)) (subst (λ (w : Awaited). Chars w n bs) (after_3 b s t) h.1)
          | inr t ↦ ends_four k (sound k) b n bs fewer t m.1 (omega (arith, p.1, room_4 b t)) (subst (λ (w : Awaited). Chars w n bs) (after_4 b t) h.1)
        ]
      ]
    ]

pub Chars-IsUtf8 : (n : ℕ) (bs : List ℕ) → Chars Lead n bs → IsUtf8 bs
Chars-IsUtf8 n bs h = sound n n bs (omega arith) h

-- ---- UTF-8 is taken

within_from : (least most more left b : ℕ) (rest : List ℕ) → least ≤ b → b ≤ most → Chars (after (Within least most more) b) left rest → Chars (Within least most more) (suc left) (b ∷ rest)
unfolding Chars
within_from least most more left b rest l m h = (between_from least most b l m, h)

lead_first : (awaited : Awaited) (left b : ℕ) (rest : List ℕ) → is_lead (suc left) b ≡ true → after Lead b ≡ awaited → Chars awaited left rest → Chars Lead (suc left) (b ∷ rest)
unfolding Chars
lead_first awaited left b rest ok e h = (ok, subst (λ (w : Awaited). Chars w left rest) (sym e) h)

take_one : (x m : ℕ) (bs : List ℕ) → x < 0x80 → Chars Lead m bs → Chars Lead (suc m) (x ∷ bs)
take_one x m bs h chars =
    let ok : is_lead (suc m) x ≡ true = and_from (ltb x 0x80 || between 0xC2 0xF4 x) (ltb (bytes_after x) (suc m)) (or_left (ltb x 0x80) (between 0xC2 0xF4 x) (lt-ltb x 0x80 h)) (lt-ltb (bytes_after x) (suc m) (omega (arith, room_1 x h))) in
    lead_first Lead m x bs ok (after_1 x h) chars

take_two : (x y m : ℕ) (bs : List ℕ) → 0xC2 ≤ x → x < 0xE0 → IsContinuation y → Chars Lead m bs → Chars Lead (suc (suc m)) (x ∷ y ∷ bs)
unfolding IsContinuation
take_two x y m bs l h f chars =
    lead_first (Within 0x80 0xBF 0) (suc m) x (y ∷ bs) (lead_from (suc (suc m)) x l (omega arith) (omega (arith, room_2 x (omega arith) h))) (after_2 x (omega arith) h)
    (within_from 0x80 0xBF 0 m y bs f.0 f.1 chars)

take_three : (x y z m : ℕ) (bs : List ℕ) → 0xE0 ≤ x → x < 0xF0 → least_after x ≤ y → y ≤ most_after x → IsContinuation z → Chars Lead m bs → Chars Lead (suc (suc (suc m))) (x ∷ y ∷ z ∷ bs)
unfolding IsContinuation
take_three x y z m bs l h low high f chars =
    lead_first (Within (least_after x) (most_after x) 1) (suc (suc m)) x (y ∷ z ∷ bs) (lead_from (suc (suc (suc m))) x (omega arith) (omega arith) (omega (arith, room_3 x l h))) (after_3 x l h)
    (within_from (least_after x) (most_after x) 1 (suc m) y (z ∷ bs) low high (within_from 0x80 0xBF 0 m z bs f.0 f.1 chars))

take_four : (x y z w m : ℕ) (bs : List ℕ) → 0xF0 ≤ x → x ≤ 0xF4 → least_after x ≤ y → y ≤ most_after x → IsContinuation z → IsContinuation w → Chars Lead m bs
    → Chars Lead (suc (suc (suc (suc m)))) (x ∷ y ∷ z ∷ w ∷ bs)
unfolding IsContinuation
take_four x y z w m bs l h low high f g chars =
    lead_first (Within (least_after x) (most_after x) 2) (suc (suc (suc m))) x (y ∷ z ∷ w ∷ bs) (lead_from (suc (suc (suc (suc m)))) x (omega arith) h (omega (arith, room_4 x l))) (after_4 x l)
    (within_from (least_after x) (most_after x) 2 (suc (suc m)) y (z ∷ w ∷ bs) low high (within_from 0x80 0xBF 1 (suc m) z (w ∷ bs) f.0 f.1 (within_from 0x80 0xBF 0 m w bs g.0 g.1 chars)))

placed : (c : ℕ) (front bs : List ℕ) → encode c ≡ front → Chars Lead (length (front ++ bs)) (front ++ bs) → Chars Lead (length (encode c ++ bs)) (encode c ++ bs)
placed c front bs e h = subst (λ (r : List ℕ). Chars Lead (length (r ++ bs)) (r ++ bs)) (sym e) h

one_char : (c : ℕ) (bs : List ℕ) → scalar c ≡ true → Chars Lead (length bs) bs → Chars Lead (length (encode c ++ bs)) (encode c ++ bs)
unfolding IsContinuation
one_char c bs ok chars =
    let range = scalar_cases c ok in
    elim (cases_lt c 128) [
      | inl a ↦ placed c (c ∷ []) bs (encode_ascii c a) (take_one c (length bs) bs a chars)
      | inr a ↦ elim (cases_lt c 2048) [
        | inl b ↦
            placed c ((192 + c / 64) ∷ next c ∷ []) bs (two c a b) (take_two (192 + c / 64) (next c) (length bs) bs (omega arith) (omega arith) (omega arith, omega arith) chars)
        | inr b ↦ elim (cases_lt c 65536) [
          | inl d ↦
              let l = least_is (224 + c / 4096) in
              let m = most_is (224 + c / 4096) in
              placed c ((224 + c / 4096) ∷ next (c / 64) ∷ next c ∷ []) bs (three c b d)
              (take_three (224 + c / 4096) (next (c / 64)) (next c) (length bs) bs (omega arith) (omega arith) (omega arith) (omega arith) (omega arith, omega arith) chars)
          | inr d ↦
              let l = least_is (240 + c / 262144) in
              let m = most_is (240 + c / 262144) in
              placed c ((240 + c / 262144) ∷ next (c / 4096) ∷ next (c / 64) ∷ next c ∷ []) bs (four c d)
              (take_four (240 + c / 262144) (next (c / 4096)) (next (c / 64)) (next c) (length bs) bs (omega arith) (omega arith) (omega arith) (omega arith) (omega arith, omega arith) (omega arith, omega arith) chars)
        ]
      ]
    ]

encodes_taken : (cs : List ℕ) → scalars cs ≡ true → Chars Lead (length (encodes cs)) (encodes cs)
unfolding Chars
encodes_taken [] ok = refl
encodes_taken (c ∷ cs) ok = let p = and_parts (scalar c) (scalars cs) ok in one_char c (encodes cs) p.0 (encodes_taken cs p.1)

pub IsUtf8-Chars : (bs : List ℕ) → IsUtf8 bs → Chars Lead (length bs) bs
IsUtf8-Chars bs u = subst (λ (r : List ℕ). Chars Lead (length r) r) u.1.1 (encodes_taken u.0 u.1.0)

pub length-Chars : (awaited : Awaited) (n : ℕ) (bs : List ℕ) → Chars awaited n bs → length bs ≡ n
unfolding Chars
length-Chars awaited zero bs h = ap length h
length-Chars awaited (suc n) [] h = absurd h
length-Chars awaited (suc n) (b ∷ rest) h = ap suc (length-Chars (after awaited b) n rest h.1)
