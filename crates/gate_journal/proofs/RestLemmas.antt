-- What a slot at rest and a staged one stand for, and what a write makes of them.
use Rattle.std.proofs.Common.{◌≡◌, ◌≢◌, inl, inr, ℕ, ◌+◌, ◌<◌, List, [], ◌∷◌, ◌++◌, length, get_or, take, drop, refl, sym, ◌∙◌, ap, arith, append_assoc, length-append, length-drop, length-take, take-append-drop}
use Rattle.std.proofs.lemmas.Bool.{cases_eq, cases_lt}
use Rattle.std.proofs.lemmas.List.{take_at, drop_at, drop_more, get_or_at, get_or_past}
use Rattle.fh_world.specs.Disk.{Overwritten, Torn}
use Rattle.gate_journal.specs.Slot.{behind_gate, records, staged, AllShort, Held, found, IsAtRest, IsStaged, IsBeforeOrAfter, Begins}
use Rattle.gate_journal.proofs.SlotLemmas.{records-append, found_records, short_append}

-- a list with its front
with_front : (n : ℕ) (c front : List ℕ) → take n c ≡ front → c ≡ front ++ drop n c
with_front n c front is = sym (take-append-drop n c) ∙ ap (λ (l : List ℕ). l ++ drop n c) is

-- records with a gate behind them that isn't open
pub rest_from : (bodies : List (List ℕ)) (gate : ℕ) (bytes rest : List ℕ) → gate ≢ 165 → bytes ≡ records bodies ++ gate ∷ rest → IsAtRest bodies bytes
rest_from bodies gate bytes rest shut split = record {
  front = ap (take (length (records bodies))) split ∙ take_at (records bodies) (gate ∷ rest) (length (records bodies)) refl;
  closed = λ is. shut (sym (ap (λ (l : List ℕ). get_or l (length (records bodies)) 165) split ∙ get_or_at (records bodies) gate rest 165 (length (records bodies)) refl) ∙ is);
}

-- the same of bytes that begin with these records
pub rest_begins : (bodies : List (List ℕ)) (place gate : ℕ) (bytes rest : List ℕ) → Begins bodies place bytes (gate ∷ rest) → gate ≢ 165 → IsAtRest bodies bytes
rest_begins bodies place gate bytes rest begins shut = rest_from bodies gate bytes rest shut begins.split

-- there is a gate
pub rest_long : (bodies : List (List ℕ)) (c : List ℕ) → IsAtRest bodies c → length (records bodies) < length c
rest_long bodies c rest = elim (cases_lt (length (records bodies)) (length c)) [
  | inl within ↦ within
  | inr past ↦ absurd (rest.closed (get_or_past c (length (records bodies)) 165 past))
]

-- and then its parts
pub rest_split : (bodies : List (List ℕ)) (c : List ℕ) → IsAtRest bodies c → c ≡ records bodies ++ get_or c (length (records bodies)) 165 ∷ drop (length (records bodies) + 1) c
rest_split bodies c rest =
    let n = length (records bodies) in
    with_front n c (records bodies) rest.front ∙ ap (λ (l : List ℕ). records bodies ++ l) (drop_more c n 165 (rest_long bodies c rest))

-- what a slot at rest stands for
pub found-at_rest : (bodies : List (List ℕ)) (bytes : List ℕ) → AllShort bodies → IsAtRest bodies bytes → found bytes ≡ Held bodies
found-at_rest bodies bytes short rest =
    let n = length (records bodies) in
    ap found (rest_split bodies bytes rest) ∙ found_records bodies (get_or bytes n 165) (drop (n + 1) bytes) short rest.closed

-- the front of a slot at rest, with its gate
front_of_rest : (bodies : List (List ℕ)) (c : List ℕ) → IsAtRest bodies c → take (length (records bodies) + 1) c ≡ records bodies ++ get_or c (length (records bodies)) 165 ∷ []
front_of_rest bodies c rest =
    let n = length (records bodies) in
    let gate = get_or c n 165 in
    let more = drop (n + 1) c in
    let split : c ≡ (records bodies ++ gate ∷ []) ++ more = rest_split bodies c rest ∙ sym (append_assoc (records bodies) (gate ∷ []) more) in
    ap (take (n + 1)) split ∙ take_at (records bodies ++ gate ∷ []) more (n + 1) (length-append (records bodies) (gate ∷ []))

-- what is torn behind the closed gate leaves the slot at rest
pub torn_behind : (bodies : List (List ℕ)) (n : ℕ) (c d : List ℕ) → IsAtRest bodies c → Torn (length (records bodies) + 1) n c d → IsAtRest bodies d
torn_behind bodies n c d rest torn =
    let at = length (records bodies) in
    let gate = get_or c at 165 in
    let same : take (at + 1) d ≡ records bodies ++ gate ∷ [] = torn.before ∙ front_of_rest bodies c rest in
    rest_from bodies gate d (drop (at + 1) d) rest.closed (with_front (at + 1) d (records bodies ++ gate ∷ []) same ∙ append_assoc (records bodies) (gate ∷ []) (drop (at + 1) d))

-- what adds records is staged once it is written behind the closed gate
pub written_behind : (bodies news : List (List ℕ)) (c d : List ℕ) → IsAtRest bodies c → Overwritten (length (records bodies) + 1) (staged news) c d → IsStaged bodies news d
written_behind bodies news c d rest holds =
    let at = length (records bodies) in
    let gate = get_or c at 165 in
    let more = drop (at + 1 + length (staged news)) c in
    let head = records bodies ++ gate ∷ [] in
    let split : d ≡ head ++ (staged news ++ more) = holds ∙ ap (λ (l : List ℕ). l ++ staged news ++ more) (front_of_rest bodies c rest) ∙ append_assoc head (staged news) more in
    let long : length head ≡ at + 1 = length-append (records bodies) (gate ∷ []) in
    record {
      front = ap (take at) (split ∙ append_assoc (records bodies) (gate ∷ []) (staged news ++ more)) ∙ take_at (records bodies) (gate ∷ (staged news ++ more)) at refl;
      behind = ap (λ (l : List ℕ). take (length (staged news)) (drop (at + 1) l)) split ∙ ap (take (length (staged news))) (drop_at head (staged news ++ more) (at + 1) long) ∙ take_at (staged news) more (length (staged news)) refl;
    }

-- a torn gate leaves them staged
pub torn_gate : (bodies news : List (List ℕ)) (c d : List ℕ) → IsStaged bodies news c → Torn (length (records bodies)) 1 c d → IsStaged bodies news d
torn_gate bodies news c d is torn = record { front = torn.before ∙ is.front; behind = ap (take (length (staged news))) torn.after ∙ is.behind }

-- an open gate before what is staged
opened : (bodies news : List (List ℕ)) (tail : List ℕ) → 0 < length news → take (length (staged news)) tail ≡ staged news → records bodies ++ 165 ∷ tail ≡ records (bodies ++ news) ++ 0 ∷ drop (length (staged news)) tail
opened bodies [] tail some is = absurd (omega (arith, some))
opened bodies (b ∷ more) tail some is =
    let t = behind_gate b ++ records more in
    let rest = drop (length (staged (b ∷ more))) tail in
    ap (λ (l : List ℕ). records bodies ++ 165 ∷ l) (with_front (length (staged (b ∷ more))) tail (staged (b ∷ more)) is ∙ append_assoc t (0 ∷ []) rest)
    ∙ sym (append_assoc (records bodies) (165 ∷ t) (0 ∷ rest))
    ∙ ap (λ (l : List ℕ). l ++ 0 ∷ rest) (sym (records-append bodies (b ∷ more)))

-- the open gate adds them
pub written_gate : (bodies news : List (List ℕ)) (c d : List ℕ) → 0 < length news → IsStaged bodies news c → Overwritten (length (records bodies)) (165 ∷ []) c d → IsAtRest (bodies ++ news) d
written_gate bodies news c d some is holds =
    let at = length (records bodies) in
    let tail = drop (at + 1) c in
    let split : d ≡ records bodies ++ 165 ∷ tail = holds ∙ ap (λ (l : List ℕ). l ++ (165 ∷ []) ++ tail) is.front ∙ append_assoc (records bodies) (165 ∷ []) tail in
    rest_from (bodies ++ news) 0 d (drop (length (staged news)) tail) (omega arith) (split ∙ opened bodies news tail some is.behind)

-- staged records all count, or none of them does
pub found-staged : (bodies news : List (List ℕ)) (bytes : List ℕ) → AllShort (bodies ++ news) → 0 < length news → IsStaged bodies news bytes → IsBeforeOrAfter bodies news bytes
found-staged bodies news bytes short some is =
    let at = length (records bodies) in
    let tail = drop (at + 1) bytes in
    let size : length (staged news) ≡ length (drop 1 (records news)) + 1 = length-append (drop 1 (records news)) (0 ∷ []) in
    let within : at < length bytes = omega (arith, size, ap length is.behind, length-take (length (staged news)) tail, length-drop (at + 1) bytes) in
    let split : bytes ≡ records bodies ++ get_or bytes at 165 ∷ tail = with_front at bytes (records bodies) is.front ∙ ap (λ (l : List ℕ). records bodies ++ l) (drop_more bytes at 165 within) in
    elim (cases_eq (get_or bytes at 165) 165) [
      | inl unlocked ↦
          let full = split ∙ ap (λ (g : ℕ). records bodies ++ g ∷ tail) unlocked ∙ opened bodies news tail some is.behind in
          inr (ap found full ∙ found_records (bodies ++ news) 0 (drop (length (staged news)) tail) short (omega arith))
      | inr shut ↦ inl (ap found split ∙ found_records bodies (get_or bytes at 165) tail (short_append bodies news short) shut)
    ]
