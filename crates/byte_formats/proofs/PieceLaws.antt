-- The laws of pieces.
use Rattle.std.proofs.Common.{◌≡◌, ℕ, zero, suc, ◌+◌, ◌*◌, ◌<◌, ◌≤◌, ◌&&◌, Bool, true, false, eqb, if◌then◌else◌, List, [], ◌∷◌, get_or, refl, ap, arith}
use Rattle.std.proofs.lemmas.Bool.{and_parts, and_from, le-leb, leb-true, eqb-true}
use Rattle.std.specs.Int.{w32, from_be_bytes, to_be_bytes}
use Rattle.fh_model.specs.declared.limits.TheConstants.{BLOCK_BYTES}
use Rattle.byte_formats.specs.Fields.{IsBytes, n64, octets}
use Rattle.byte_formats.specs.Formats.{both, follows}
use Rattle.byte_formats.specs.Pieces.{byte_in, bytes_of_len, digest_format, digest_of, last_byte, last_bytes, least_behind, len_bytes, len_of, most_behind, piece_fields, piece_format, piece_len, piece_of}
use Rattle.byte_formats.specs.Texts.{between}
use Rattle.byte_formats.proofs.Laws.{Lawful, both_lawful, byte_lawful, follows_lawful, made_lawful}
use Rattle.byte_formats.proofs.FieldLaws.{n64_lawful, octets_lawful, wide32}

between_from : (least most byte : ℕ) → least ≤ byte → byte ≤ most → between least most byte ≡ true
between_from least most byte low high = and_from _ _ (le-leb least byte low) (le-leb byte most high)

record IsIn (least most byte : ℕ) : Type 0 where
  low : least ≤ byte
  high : byte ≤ most

between_is : (least most byte : ℕ) → between least most byte ≡ true → IsIn least most byte
between_is least most byte h =
    let both = and_parts _ _ h in record { low = leb-true least byte both.0; high = leb-true byte most both.1 }

byte_in_lawful : (least most : ℕ) → least ≤ most → Lawful (byte_in least most)
byte_in_lawful least most le = byte_lawful (between least most) least (between_from least most least (omega arith) le)

most_is_byte : (second : ℕ) → most_behind second ≤ 255
most_is_byte second = go (eqb second 0x40)
  where
    go : (b : Bool) → (if b then 0 else 255) ≤ 255
    go true = omega arith
    go false = omega arith

least_below : (second third : ℕ) → least_behind second third ≤ most_behind second
least_below second third = go (eqb second 0) (eqb third 0) refl
  where
    go : (a b : Bool) → eqb second 0 ≡ a → (if a && b then 1 else 0) ≤ most_behind second
    go true true is = rw (eqb-true second 0 is) (omega arith)
    go true false is = omega arith
    go false b is = omega arith

last_bytes_lawful : (second : ℕ) → Lawful (last_bytes second)
last_bytes_lawful second =
    follows_lawful (byte_in 0 (most_behind second)) (last_byte second) (byte_in_lawful 0 (most_behind second) (omega arith))
    (λ third _. byte_in_lawful (least_behind second third) (most_behind second) (least_below second third))

len_bytes_lawful : Lawful len_bytes
len_bytes_lawful =
    both_lawful (byte_in 0 0) (follows (byte_in 0 0x40) last_bytes) (byte_in_lawful 0 0 (omega arith))
    (follows_lawful (byte_in 0 0x40) last_bytes (byte_in_lawful 0 0x40 (omega arith)) (λ second _. last_bytes_lawful second))

abbrev listed : ℕ × (ℕ × (ℕ × ℕ)) → List ℕ
listed x = x.0 ∷ x.1.0 ∷ x.1.1.0 ∷ x.1.1.1 ∷ []

abbrev parted : List ℕ → ℕ × (ℕ × (ℕ × ℕ))
parted bytes = (get_or bytes 0 0, (get_or bytes 1 0, (get_or bytes 2 0, get_or bytes 3 0)))

len_back : (x : ℕ × (ℕ × (ℕ × ℕ))) → len_bytes.fits x → bytes_of_len (len_of x) ≡ x
len_back x h = ap parted (wide32.back (listed x) refl bytes)
  where
    first : IsIn 0 0 x.0
    first = between_is 0 0 x.0 h.0

    second : IsIn 0 0x40 x.1.0
    second = between_is 0 0x40 x.1.0 h.1.0

    third : IsIn 0 (most_behind x.1.0) x.1.1.0
    third = between_is 0 (most_behind x.1.0) x.1.1.0 h.1.1.0

    last : IsIn (least_behind x.1.0 x.1.1.0) (most_behind x.1.0) x.1.1.1
    last = between_is (least_behind x.1.0 x.1.1.0) (most_behind x.1.0) x.1.1.1 h.1.1.1

    bytes : IsBytes (listed x)
    bytes zero = omega (arith, first.high)
    bytes (suc zero) = omega (arith, second.high)
    bytes (suc (suc zero)) = omega (arith, third.high, most_is_byte x.1.0)
    bytes (suc (suc (suc zero))) = omega (arith, last.high, most_is_byte x.1.0)
    bytes (suc (suc (suc (suc i)))) = omega arith

piece_len_lawful : Lawful piece_len
unfolding piece_len
piece_len_lawful = made_lawful len_of bytes_of_len len_bytes len_back len_bytes_lawful

pub piece_lawful : Lawful piece_format
unfolding piece_format
piece_lawful =
    made_lawful piece_of (λ piece. (piece.place, (piece.len, piece.digest))) piece_fields (λ _ _. refl)
    (both_lawful n64 (both piece_len digest_format) n64_lawful
    (both_lawful piece_len digest_format piece_len_lawful (made_lawful digest_of (λ digest. digest.bytes) (octets 32) (λ _ _. refl) (octets_lawful 32))))

-- ---- which lengths have a spelling

-- a byte behind the second one, where the number is at most 4,194,304
low_enough : (second byte : ℕ) → second * 65536 + byte ≤ 4194304 → byte < 256 → byte ≤ most_behind second
low_enough second byte few small = go (eqb second 0x40) refl
  where
    go : (b : Bool) → eqb second 0x40 ≡ b → byte ≤ (if b then 0 else 255)
    go true is = omega (arith, few, eqb-true second 0x40 is)
    go false is = omega (arith, small)

-- the last byte, where the number is not 0
high_enough : (second third last : ℕ) → 0 < second * 65536 + third * 256 + last → least_behind second third ≤ last
high_enough second third last some = go (eqb second 0) (eqb third 0) refl refl
  where
    go : (a b : Bool) → eqb second 0 ≡ a → eqb third 0 ≡ b → (if a && b then 1 else 0) ≤ last
    go true true is also = omega (arith, some, eqb-true second 0 is, eqb-true third 0 also)
    go true false is also = omega arith
    go false b is also = omega arith

bytes_fit : (first second third last : ℕ) → third < 256 → last < 256
    → 0 < first * 16777216 + second * 65536 + third * 256 + last → first * 16777216 + second * 65536 + third * 256 + last ≤ 4194304
    → len_bytes.fits (first, (second, (third, last)))
bytes_fit first second third last small little some few = (
  between_from 0 0 first (omega arith) (omega (arith, few)),
  (
    between_from 0 0x40 second (omega arith) (omega (arith, few)),
    (
      between_from 0 (most_behind second) third (omega arith) (low_enough second third (omega (arith, few)) small),
      between_from (least_behind second third) (most_behind second) last
          (high_enough second third last (omega (arith, few, some))) (low_enough second last (omega (arith, few)) little),
    ),
  ),
)

-- from 1 to 4,194,304
pub len_fits : (n : ℕ) → 0 < n → n ≤ BLOCK_BYTES → piece_len.fits n
unfolding piece_len
len_fits n some few = (bytes_fit b0 b1 b2 b3 (omega arith) (omega arith) (rw value some) (rw value few), again)
  where
    b0 : ℕ
    b0 = get_or (to_be_bytes w32 n) 0 0

    b1 : ℕ
    b1 = get_or (to_be_bytes w32 n) 1 0

    b2 : ℕ
    b2 = get_or (to_be_bytes w32 n) 2 0

    b3 : ℕ
    b3 = get_or (to_be_bytes w32 n) 3 0

    again : from_be_bytes w32 (to_be_bytes w32 n) ≡ n
    again = wide32.again n (omega (arith, few))

    value : b0 * 16777216 + b1 * 65536 + b2 * 256 + b3 ≡ n
    value = omega (arith, again)
