-- What slots of records stand for.
use Rattle.std.proofs.Common.{◌≡◌, ◌≢◌, ℕ, ◌+◌, ◌<◌, ◌≤◌, ◌^◌, zero, suc, true, nat_lt, List, [], ◌∷◌, ◌++◌, length, take, drop, get_or, refl, sym, ◌∙◌, ap, subst, arith, append_assoc, length-append, length-drop, take-append-drop}
use Rattle.std.specs.Int.{w64, to_be_bytes, from_be_bytes}
use Rattle.std.proofs.lemmas.Nat.{from_be_bytes-to_be_bytes_8}
use Rattle.std.proofs.lemmas.Bool.Decides.{nat_tests}
use Rattle.std.proofs.lemmas.List.{append-nil, take_at, drop_at, take_more, length-take-le}
use Rattle.gate_journal.specs.Slot.{behind_gate, records, staged, AllShort, Held, Broken, prepend, read_from, found, length_field, IsWhole, Begins}

pub length-behind_gate : (body : List ℕ) → length (behind_gate body) ≡ 8 + length body
unfolding behind_gate
length-behind_gate body = length-append (to_be_bytes w64 (length body)) body

pub records-push : (bodies : List (List ℕ)) (body rest : List ℕ) → records (bodies ++ body ∷ []) ++ rest ≡ records bodies ++ (165 ∷ (behind_gate body ++ rest))
records-push [] body rest = ap (λ (l : List ℕ). 165 ∷ (l ++ rest)) (append-nil (behind_gate body))
records-push (b ∷ bodies) body rest =
    ap (λ (l : List ℕ). 165 ∷ l) (append_assoc (behind_gate b) (records (bodies ++ body ∷ [])) rest
    ∙ ap (λ (l : List ℕ). behind_gate b ++ l) (records-push bodies body rest)
    ∙ sym (append_assoc (behind_gate b) (records bodies) (165 ∷ (behind_gate body ++ rest))))

-- a closed gate ends them
pub read_closed : (bound place gate : ℕ) (rest : List ℕ) → gate ≢ 165 → read_from (suc bound) place (gate ∷ rest) ≡ Held []
read_closed bound place gate rest shut = grind (arith, nat_tests)

-- the length that stands behind a gate
pub length_field-behind_gate : (body rest : List ℕ) → length body < 2 ^ 64 → length_field (behind_gate body ++ rest) ≡ length body
unfolding behind_gate length_field
length_field-behind_gate body rest short = from_be_bytes-to_be_bytes_8 (length body) short

drop-behind_gate : (body rest : List ℕ) → drop 8 (behind_gate body ++ rest) ≡ body ++ rest
unfolding behind_gate
drop-behind_gate body rest = refl

-- an open record with a byte behind it is read
pub read_open : (bound place : ℕ) (body rest : List ℕ) → length body < 2 ^ 64 → 0 < length rest
    → read_from (suc bound) place (165 ∷ (behind_gate body ++ rest)) ≡ prepend body (read_from bound (place + 9 + length body) rest)
read_open bound place body rest short more =
    let field = length_field-behind_gate body rest short in
    let long : length (behind_gate body ++ rest) ≡ 8 + length body + length rest = omega (arith, length-append (behind_gate body) rest, length-behind_gate body) in
    let taken : take (length body) (drop 8 (behind_gate body ++ rest)) ≡ body = ap (take (length body)) (drop-behind_gate body rest) ∙ take_at body rest (length body) refl in
    let left : drop (8 + length body) (behind_gate body ++ rest) ≡ rest = drop_at (behind_gate body) rest (8 + length body) (length-behind_gate body) in
    let test : nat_lt (8 + length body) (length (behind_gate body ++ rest)) ≡ true = grind (arith, nat_tests) in
    rw (field, test, taken, left) refl

-- the records of these bodies, and then a closed gate
pub read_records : (bodies : List (List ℕ)) (bound place gate : ℕ) (rest : List ℕ) → AllShort bodies → gate ≢ 165 → length bodies < bound
    → read_from bound place (records bodies ++ gate ∷ rest) ≡ Held bodies
read_records [] zero place gate rest short shut enough = absurd (omega arith)
read_records [] (suc bound) place gate rest short shut enough = read_closed bound place gate rest shut
read_records (b ∷ bodies) zero place gate rest short shut enough = absurd (omega arith)
read_records (b ∷ bodies) (suc bound) place gate rest short shut enough =
    let tail = records bodies ++ gate ∷ rest in
    ap (λ (l : List ℕ). read_from (suc bound) place (165 ∷ l)) (append_assoc (behind_gate b) (records bodies) (gate ∷ rest))
    ∙ read_open bound place b tail short.0 (omega (arith, length-append (records bodies) (gate ∷ rest)))
    ∙ ap (prepend b) (read_records bodies bound (place + 9 + length b) gate rest short.1 shut (omega arith))

-- a body takes more than one byte
bodies_few : (bodies : List (List ℕ)) → length bodies ≤ length (records bodies)
bodies_few [] = omega arith
bodies_few (b ∷ bodies) = omega (arith, bodies_few bodies, length-append (behind_gate b) (records bodies))

pub found_records : (bodies : List (List ℕ)) (gate : ℕ) (rest : List ℕ) → AllShort bodies → gate ≢ 165 → found (records bodies ++ gate ∷ rest) ≡ Held bodies
found_records bodies gate rest short shut =
    read_records bodies (suc (length (records bodies ++ gate ∷ rest))) 0 gate rest short shut (omega (arith, bodies_few bodies, length-append (records bodies) (gate ∷ rest)))

pub AllShort-push : (bodies : List (List ℕ)) (body : List ℕ) → AllShort bodies → length body < 2 ^ 64 → AllShort (bodies ++ body ∷ [])
AllShort-push [] body all short = (short, tt)
AllShort-push (b ∷ bodies) body all short = (all.0, AllShort-push bodies body all.1 short)

pub length-records-push : (bodies : List (List ℕ)) (body : List ℕ) → length (records (bodies ++ body ∷ [])) ≡ length (records bodies) + 9 + length body
length-records-push [] body = omega (arith, length-behind_gate body, length-append (behind_gate body) [])
length-records-push (b ∷ bodies) body = omega (arith, length-records-push bodies body, length-append (behind_gate b) (records bodies), length-append (behind_gate b) (records (bodies ++ body ∷ [])))

-- records behind which the file breaks
pub read_broken : (bodies : List (List ℕ)) (bound place : ℕ) (rest : List ℕ) → AllShort bodies → length bodies < bound → (0 < length bodies → 0 < length rest)
    → ((b p : ℕ) → read_from (suc b) p rest ≡ Broken p) → read_from bound place (records bodies ++ rest) ≡ Broken (place + length (records bodies))
read_broken [] zero place rest short enough more broken = absurd (omega arith)
read_broken [] (suc bound) place rest short enough more broken = broken bound place ∙ ap (λ (n : ℕ). Broken n) (omega arith)
read_broken (b ∷ bodies) zero place rest short enough more broken = absurd (omega arith)
read_broken (b ∷ bodies) (suc bound) place rest short enough more broken =
    let tail = records bodies ++ rest in
    let some : 0 < length rest = more (omega arith) in
    let sum : place + 9 + length b + length (records bodies) ≡ place + length (records (b ∷ bodies)) = omega (arith, length-append (behind_gate b) (records bodies), length-behind_gate b) in
    ap (λ (l : List ℕ). read_from (suc bound) place (165 ∷ l)) (append_assoc (behind_gate b) (records bodies) rest)
    ∙ read_open bound place b tail short.0 (omega (arith, length-append (records bodies) rest))
    ∙ ap (prepend b) (read_broken bodies bound (place + 9 + length b) rest short.1 (omega arith) (λ _. some) broken)
    ∙ ap (λ (n : ℕ). Broken n) sum

pub found_broken : (bodies : List (List ℕ)) (place : ℕ) (bytes rest : List ℕ) → Begins bodies place bytes rest → ((b p : ℕ) → read_from (suc b) p rest ≡ Broken p) → found bytes ≡ Broken place
found_broken bodies place bytes rest begins broken =
    let few : length bodies < suc (length (records bodies ++ rest)) = omega (arith, bodies_few bodies, length-append (records bodies) rest) in
    ap found begins.split ∙ read_broken bodies (suc (length (records bodies ++ rest))) 0 rest begins.short few begins.more broken
    ∙ ap (λ (n : ℕ). Broken n) (omega (arith, begins.at))

pub broken_empty : (b p : ℕ) → read_from (suc b) p [] ≡ Broken p
broken_empty b p = refl

pub broken_record : (after : List ℕ) → length after ≤ 8 + length_field after → (b p : ℕ) → read_from (suc b) p (165 ∷ after) ≡ Broken p
broken_record after ends b p = grind (arith, nat_tests)

-- one record more
pub begins_more : (bodies : List (List ℕ)) (place : ℕ) (bytes after body next : List ℕ) → Begins bodies place bytes (165 ∷ after) → IsWhole body next after → Begins (bodies ++ body ∷ []) (place + (9 + length body)) bytes next
begins_more bodies place bytes after body next begins whole = record {
  split = begins.split ∙ ap (λ (l : List ℕ). records bodies ++ 165 ∷ l) whole.split ∙ sym (records-push bodies body next);
  at = omega (arith, begins.at, length-records-push bodies body);
  short = AllShort-push bodies body begins.short whole.short;
  more = λ some. whole.more;
}

-- what stands behind a gate, by its parts
pub whole_from : (after field behind : List ℕ) (len : ℕ) → field ≡ take 8 after → behind ≡ drop 8 after → to_be_bytes w64 len ≡ field → len < length behind → len < 2 ^ 64 → IsWhole (take len behind) (drop len behind) after
unfolding behind_gate
whole_from after field behind len field_is behind_is spelled less fits =
    let size : length (take len behind) ≡ len = length-take-le len behind (omega arith) in
    record {
      split =
          sym (take-append-drop 8 after) ∙ ap (λ (l : List ℕ). l ++ drop 8 after) (sym field_is ∙ sym spelled ∙ ap (to_be_bytes w64) (sym size))
          ∙ ap (λ (l : List ℕ). to_be_bytes w64 (length (take len behind)) ++ l) (sym behind_is ∙ sym (take-append-drop len behind))
          ∙ sym (append_assoc (to_be_bytes w64 (length (take len behind))) (take len behind) (drop len behind));
      more = omega (arith, length-drop len behind);
      short = omega (arith, size);
    }

pub broken_field : (after field behind : List ℕ) (len : ℕ) → field ≡ take 8 after → length behind + 8 ≡ length after → len ≡ from_be_bytes w64 field → length behind ≤ len → length after ≤ 8 + length_field after
unfolding length_field
broken_field after field behind len field_is size value ends = omega (arith, value ∙ ap (from_be_bytes w64) field_is)

pub begins_none : (bodies : List (List ℕ)) (bytes : List ℕ) → bodies ≡ [] → Begins bodies 0 bytes bytes
begins_none [] bytes is = record { split = refl; at = refl; short = tt; more = λ some. absurd (omega arith) }
begins_none (b ∷ bodies) bytes is = cc

pub begins_rest : (bodies : List (List ℕ)) (place : ℕ) (bytes rest next : List ℕ) → Begins bodies place bytes rest → rest ≡ next → Begins bodies place bytes next
begins_rest bodies place bytes rest next begins is = subst (Begins bodies place bytes) is begins

pub records-append : (xs ys : List (List ℕ)) → records (xs ++ ys) ≡ records xs ++ records ys
records-append [] ys = refl
records-append (x ∷ xs) ys = ap (λ (l : List ℕ). 165 ∷ (behind_gate x ++ l)) (records-append xs ys) ∙ ap (λ (l : List ℕ). 165 ∷ l) (sym (append_assoc (behind_gate x) (records xs) (records ys)))

-- the first of short records are short
pub short_append : (bodies news : List (List ℕ)) → AllShort (bodies ++ news) → AllShort bodies
short_append [] news short = tt
short_append (b ∷ bodies) news short = (short.0, short_append bodies news short.1)

-- what is written behind the gate for one record
pub staged_one : (body : List ℕ) → staged (body ∷ []) ≡ behind_gate body ++ 0 ∷ []
staged_one body = ap (λ (l : List ℕ). l ++ 0 ∷ []) (append-nil (behind_gate body))

-- records that fit a file are short
pub short_from : (bodies : List (List ℕ)) → length (records bodies) < 2 ^ 64 → AllShort bodies
short_from [] fits = tt
short_from (b ∷ bodies) fits =
    let sum = length-append (behind_gate b) (records bodies) in
    let long = length-behind_gate b in
    (omega arith, short_from bodies (omega arith))

-- one row more is spelled
pub records_more : (rows : List (List ℕ)) (i : ℕ) (row : List ℕ) → i < length rows → row ≡ get_or rows i row → records (take (i + 1) rows) ≡ records (take i rows) ++ 165 ∷ behind_gate row
records_more rows i row less is =
    ap records (take_more rows i row less) ∙ records-append (take i rows) (get_or rows i row ∷ [])
    ∙ ap (λ (b : List ℕ). records (take i rows) ++ 165 ∷ (behind_gate b ++ [])) (sym is)
    ∙ ap (λ (l : List ℕ). records (take i rows) ++ 165 ∷ l) (append-nil (behind_gate row))
