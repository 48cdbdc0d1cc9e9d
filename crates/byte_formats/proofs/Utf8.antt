-- The laws of UTF-8 of a known length.
use Rattle.std.proofs.Common.{◌≡◌, ℕ, zero, suc, ◌-◌, ◌≤◌, Bool, true, false, cond, ltb, leb, List, [], ◌∷◌, length, get_or, take, drop, None, Result, Ok, Err, refl, sym, ap, subst, ◌∙◌, arith, lt-ltb, le-leb}
use Rattle.std.specs.Str.{IsAscii, IsUtf8}
use Rattle.std.specs.Result.{MatchResult, is_ok}
use Rattle.std.proofs.lemmas.Bool.{and_from}
use Rattle.std.proofs.lemmas.Str.{IsUtf8-from_ascii}
use Rattle.byte_formats.specs.Formats.{◌>>=◌, Reading, Format, follows, made, byte_where, copies}
use Rattle.byte_formats.specs.Fields.{IsBytes, alone}
use Rattle.byte_formats.specs.Texts.{bytes_after, least_after, most_after, allows, after, characters, characters_at, fault_of}
use Rattle.byte_formats.specs.declared.text.Awaited.{Awaited}
use Rattle.byte_formats.specs.declared.text.Awaited.TheVariants.{Lead, Within}
use Rattle.byte_formats.proofs.Laws.{Lawful, follows_lawful, made_lawful, byte_lawful, same_lawful}
use Rattle.byte_formats.proofs.FieldLaws.{alone_lawful, length-copies}
use Rattle.byte_formats.proofs.Utf8Chars.{Chars, Chars-IsUtf8, IsUtf8-Chars, length-Chars, least_is, most_is}
use Rattle.byte_formats.proofs.TextLoop.{no_fault}

-- ---- a text as a format of bytes, one after the other

abbrev front : List ℕ → ℕ × List ℕ
front bs = (get_or bs 0 0, drop 1 bs)

-- a byte that may come next
abbrev a_byte : Awaited → ℕ
a_byte Lead = 97
a_byte (Within least most more) = least

utf8 : Awaited → ℕ → Format (List ℕ)
utf8 awaited zero = alone []
utf8 awaited (suc left) = made (λ x. x.0 ∷ x.1) front (follows (byte_where (allows awaited (suc left)) (a_byte awaited)) (λ byte. utf8 (after awaited byte) left))

Ordered : Awaited → Type 0
Ordered Lead = Unit {0}
Ordered (Within least most more) = least ≤ most

first_ordered : Ordered Lead
unfolding Ordered
first_ordered = tt

after_ordered : (awaited : Awaited) (b : ℕ) → Ordered (after awaited b)
unfolding Ordered
after_ordered Lead b =
    let go : (t : Bool) → Ordered (cond t Lead (Within (least_after b) (most_after b) (bytes_after b - 1))) = λ t. elim t as (λ t. Ordered (cond t Lead (Within (least_after b) (most_after b) (bytes_after b - 1)))) [
      | true ↦ tt
      | false ↦ omega (arith, least_is b, most_is b)
    ] in
    go (ltb b 0x80)
after_ordered (Within least most zero) b = tt
after_ordered (Within least most (suc more)) b = omega arith

allows_some : (awaited : Awaited) (left : ℕ) → Ordered awaited → allows awaited (suc left) (a_byte awaited) ≡ true
unfolding Ordered
allows_some Lead left h = lt-ltb 0 (suc left) (omega arith)
allows_some (Within least most more) left h = and_from (leb least least) (leb least most) (le-leb least least (omega arith)) (le-leb least most h)

utf8_lawful : (awaited : Awaited) (n : ℕ) → Ordered awaited → Lawful (utf8 awaited n)
unfolding utf8
utf8_lawful awaited zero h = alone_lawful []
utf8_lawful awaited (suc left) h =
    made_lawful (λ (x : ℕ × List ℕ). x.0 ∷ x.1) front (follows (byte_where (allows awaited (suc left)) (a_byte awaited)) (λ byte. utf8 (after awaited byte) left)) (λ _ _. refl)
    (follows_lawful (byte_where (allows awaited (suc left)) (a_byte awaited)) (λ byte. utf8 (after awaited byte) left) (byte_lawful (allows awaited (suc left)) (a_byte awaited) (allows_some awaited left h))
    (λ byte _. utf8_lawful (after awaited byte) left (after_ordered awaited byte)))

-- ---- it reads as `characters_at` does

abbrev first : ℕ → List ℕ × List ℕ → Reading (ℕ × List ℕ)
first b y = Ok ((b, y.0), y.1)

abbrev join : (ℕ × List ℕ) × List ℕ → Reading (List ℕ)
join x = Ok (x.0.0 ∷ x.0.1, x.1)

abbrev with_byte : ℕ → List ℕ × List ℕ → Reading (List ℕ)
with_byte b x = Ok (b ∷ x.0, x.1)

joined : (b : ℕ) (r : Reading (List ℕ)) → (r >>= with_byte b) ≡ ((r >>= first b) >>= join)
joined b (Ok x) = refl
joined b (Err left) = refl

utf8_reads : (awaited : Awaited) (n : ℕ) (bytes : List ℕ) → characters_at awaited n bytes ≡ (utf8 awaited n).read bytes
unfolding utf8 characters_at
utf8_reads awaited zero bytes = refl
utf8_reads awaited (suc left) [] = refl
utf8_reads awaited (suc left) (b ∷ rest) =
    let others = λ (x : ℕ × List ℕ). (utf8 (after awaited x.0) left).read x.1 >>= first x.0 in
    let short = characters_at (after awaited b) left rest >>= with_byte b in
    let got : Reading ℕ = Ok (b, rest) in
    let bad = length (b ∷ rest) in
    let same : short ≡ (others (b, rest) >>= join) = ap (λ (r : Reading (List ℕ)). r >>= with_byte b) (utf8_reads (after awaited b) left rest) ∙ joined b ((utf8 (after awaited b) left).read rest) in
    let go : (t : Bool) → cond t short (Err bad) ≡ ((cond t got (Err bad) >>= others) >>= join) = λ t. elim t as (λ t. cond t short (Err bad) ≡ ((cond t got (Err bad) >>= others) >>= join)) [ true ↦ same | false ↦ refl ] in
    go (allows awaited (suc left) b)

-- ---- its spellings are UTF-8

chars_fit : (awaited : Awaited) (n : ℕ) (bs : List ℕ) → Chars awaited n bs → (utf8 awaited n).fits bs
unfolding utf8 Chars
chars_fit awaited zero bs h = h
chars_fit awaited (suc left) [] h = absurd h
chars_fit awaited (suc left) (b ∷ rest) h = ((h.0, chars_fit (after awaited b) left rest h.1), refl)

fit_chars : (awaited : Awaited) (n : ℕ) (bs : List ℕ) → (utf8 awaited n).fits bs → Chars awaited n bs
unfolding utf8 Chars
fit_chars awaited zero bs h = h
fit_chars awaited (suc left) [] h = not_nil 0 [] h.1
  where
    not_nil : (b : ℕ) (bs : List ℕ) → b ∷ bs ≡ [] → ⊥
    not_nil b bs e = absurd cc
fit_chars awaited (suc left) (b ∷ rest) h = (h.0.0, fit_chars (after awaited b) left rest h.0.1)

utf8_spells : (awaited : Awaited) (n : ℕ) (bs : List ℕ) → (utf8 awaited n).fits bs → (utf8 awaited n).spell bs ≡ bs
unfolding utf8
utf8_spells awaited zero bs h = sym h
utf8_spells awaited (suc left) bs h = ap (λ (r : List ℕ). get_or bs 0 0 ∷ r) (utf8_spells (after awaited (get_or bs 0 0)) left (drop 1 bs) h.0.1) ∙ h.1

zeros_ascii : (n : ℕ) → IsAscii (copies {A = ℕ} n 0)
zeros_ascii zero i = omega arith
zeros_ascii (suc n) zero = omega arith
zeros_ascii (suc n) (suc i) = zeros_ascii n i

pub characters_lawful : (n : ℕ) → Lawful (characters n)
characters_lawful n =
    let fits : (bs : List ℕ) → (characters n).fits bs → (utf8 Lead n).fits bs = λ bs h. chars_fit Lead n bs (subst (λ (k : ℕ). Chars Lead k bs) h.0 (IsUtf8-Chars bs h.1)) in
    let fitting : (bs : List ℕ) → (utf8 Lead n).fits bs → (characters n).fits bs = λ bs h. let chars = fit_chars Lead n bs h in (length-Chars Lead n bs chars, Chars-IsUtf8 n bs chars) in
    same_lawful (utf8 Lead n) (characters n) (utf8_reads Lead n) fits fitting (utf8_spells Lead n) (length-copies n, IsUtf8-from_ascii (copies n 0) (zeros_ascii n)) (utf8_lawful Lead n first_ordered)

-- what is read without a fault is UTF-8
pub no_fault_utf8 : (n : ℕ) (bytes : List ℕ) → IsBytes bytes → None ≡ fault_of (characters_at Lead n bytes) → IsUtf8 (take n bytes)
no_fault_utf8 n bytes h e =
    let read = no_fault Lead n bytes e in
    let taken = (characters_lawful n).takes bytes (take n bytes, drop n bytes) h read.1 in
    taken.fits.1

pub is_ok_unless : {T E : Type 0} (r : Result T E) (P : T → Type 0) (Q : E → Type 0) → MatchResult r P Q → ((e : E) → Q e → ⊥) → is_ok r ≡ true
is_ok_unless (Ok x) P Q h none = refl
is_ok_unless (Err e) P Q h none = absurd (none e h)
