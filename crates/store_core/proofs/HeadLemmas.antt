-- What the head file says while it is read, and while it is made.
use Rattle.std.proofs.Common.{◌≡◌, ◌≢◌, inl, inr, ⊎_elim, ℕ, ◌+◌, ◌<◌, ◌≤◌, Bool, true, false, if◌then◌else◌, ◌==◌, nat_lt, List, [], ◌∷◌, ◌++◌, Option, Some, None, length, take, drop, get_or, refl, sym, ◌∙◌, ap, subst, arith, length-drop}
use Rattle.std.proofs.lemmas.Bool.{ltb-false, cases_lt, lt-ltb, le-ltb, eq-eqb, ne_eqb}
use Rattle.std.proofs.lemmas.List.{drop_more}
use Rattle.fh_world.specs.declared.FileNo.TheVariants as file
use Rattle.fh_world.specs.Disk.{Torn, Overwritten}
use Rattle.store_core.specs.declared.head.HeadRead.TheVariants.{New, NotAStore, Names}
use Rattle.store_core.specs.Head.{store_text, first_other, told_by, gated, head_in, text_of_slot_a, IsShut, IsNewOrNames}

-- text is left where the bytes end
pub other_end : (place : ℕ) (text rest bytes : List ℕ) (i : ℕ) → i < length text → length rest < 1 → first_other place (drop i text) rest ≡ first_other 1 text bytes → Some place ≡ first_other 1 text bytes
other_end place text [] bytes i less none so_far =
    let shape : drop i text ≡ get_or text i 0 ∷ drop (i + 1) text = drop_more text i 0 less in
    ap (λ (l : List ℕ). first_other place l []) (sym shape) ∙ so_far
other_end place text (b ∷ rest) bytes i less none so_far = absurd (omega (arith, none))

-- ---- what is no head yet

by_length : (long short : Bool) (bytes : List ℕ) → (if long then NotAStore 18 else if short then New else gated bytes) ≡ New → long ≡ false
by_length true short bytes is = absurd cc
by_length false short bytes is = refl

pub new_short : (bytes : List ℕ) → head_in bytes ≡ New → length bytes ≤ 18
new_short bytes is = ltb-false 18 (length bytes) (by_length (nat_lt 18 (length bytes)) (nat_lt (length bytes) 18) bytes is)

pub short_new : (bytes : List ℕ) → length bytes < 18 → head_in bytes ≡ New
short_new bytes short =
    ap (λ (b : Bool). if b then NotAStore 18 else if nat_lt (length bytes) 18 then New else gated bytes) (le-ltb 18 (length bytes) (omega (arith, short)))
    ∙ ap (λ (b : Bool). if b then New else gated bytes) (lt-ltb (length bytes) 18 short)

-- eighteen bytes say what stands behind their gate
pub whole_says : (bytes : List ℕ) → length bytes ≡ 18 → head_in bytes ≡ gated bytes
whole_says bytes size =
    ap (λ (b : Bool). if b then NotAStore 18 else if nat_lt (length bytes) 18 then New else gated bytes) (le-ltb 18 (length bytes) (omega (arith, size)))
    ∙ ap (λ (b : Bool). if b then New else gated bytes) (le-ltb (length bytes) 18 (omega (arith, size)))

closed_gate : (bytes : List ℕ) → get_or bytes 0 165 ≢ 165 → gated bytes ≡ New
closed_gate [] closed = refl
closed_gate (gate ∷ bytes) closed = ap (λ (b : Bool). if b then told_by (first_other 1 store_text bytes) (get_or bytes 16 0) else New) (ne_eqb gate 165 closed)

pub shut_new : (bytes : List ℕ) → IsShut bytes → head_in bytes ≡ New
shut_new bytes is = ⊎_elim
    (λ less. short_new bytes less)
    (λ full. whole_says bytes (omega (arith, full, is.short)) ∙ closed_gate bytes is.closed)
    (cases_lt (length bytes) 18)

told_not_new : (o : Option ℕ) (byte : ℕ) → told_by o byte ≢ New
told_not_new None byte is = cc
told_not_new (Some place) byte is = cc

gate_open : (bytes : List ℕ) → 0 < length bytes → get_or bytes 0 165 ≡ 165 → gated bytes ≢ New
gate_open [] some opened is = omega (arith, some)
gate_open (gate ∷ bytes) some opened is =
    told_not_new (first_other 1 store_text bytes) (get_or bytes 16 0) (ap (λ (b : Bool). if b then told_by (first_other 1 store_text bytes) (get_or bytes 16 0) else New) (sym (eq-eqb gate 165 opened)) ∙ is)

-- with an open gate it is too short
pub open_short : (bytes : List ℕ) → head_in bytes ≡ New → get_or bytes 0 165 ≡ 165 → length bytes < 18
open_short bytes is opened = ⊎_elim
    (λ less. less)
    (λ full.
    let size : length bytes ≡ 18 = omega (arith, full, new_short bytes is) in
    absurd (gate_open bytes (omega (arith, size)) opened (sym (whole_says bytes size) ∙ is)))
    (cases_lt (length bytes) 18)

-- ---- the gate is closed

pub torn_short : (c d : List ℕ) → length c < 18 → Torn 0 1 c d → head_in d ≡ New
torn_short c d short torn = short_new d (omega (arith, short, torn.no_longer))

pub now_shut : (c d : List ℕ) → length c < 18 → Overwritten 0 (0 ∷ []) c d → IsShut d
now_shut c d short is = subst IsShut (sym is) (record { closed = λ e. absurd (omega (arith, e)); short = omega (arith, short, length-drop 1 c) })

-- ---- the text is written behind it

shut_some : (c : List ℕ) → get_or c 0 165 ≢ 165 → (gate : ℕ) × (rest : List ℕ) × (c ≡ gate ∷ rest) × (gate ≢ 165)
shut_some [] closed = absurd (closed refl)
shut_some (gate ∷ rest) closed = (gate, rest, refl, closed)

first_kept : (gate : ℕ) (rest d : List ℕ) → take 1 d ≡ gate ∷ [] → get_or d 0 165 ≡ gate
first_kept gate rest [] is = absurd cc
first_kept gate rest (b ∷ d) is = cc

pub torn_shut : (c d : List ℕ) → IsShut c → Torn 1 17 c d → IsShut d
torn_shut c d is torn =
    let some = shut_some c is.closed in
    let first : take 1 d ≡ some.0 ∷ [] = torn.before ∙ ap (take 1) some.2 in
    record {
      closed = λ e. some.3 (sym (first_kept some.0 some.1 d first) ∙ e);
      short = omega (arith, is.short, torn.no_longer);
    }

-- a head that is whole but for its gate
pub record IsWritten (bytes : List ℕ) : Type 0 where
  pub gate : ℕ
  pub split : bytes ≡ gate ∷ text_of_slot_a
  pub closed : gate ≢ 165

drop_all : (n : ℕ) (xs : List ℕ) → length xs ≤ n → drop n xs ≡ []
drop_all n xs all = go (drop n xs) (omega (arith, length-drop n xs, all))
  where
    go : (l : List ℕ) → length l ≡ 0 → l ≡ []
    go [] is = refl
    go (x ∷ l) is = absurd (omega (arith, is))

pub now_written : (c d : List ℕ) → IsShut c → Overwritten 1 text_of_slot_a c d → IsWritten d
now_written c d is written =
    let some = shut_some c is.closed in
    let front : take 1 c ≡ some.0 ∷ [] = ap (take 1) some.2 in
    let back : drop 18 c ≡ [] = drop_all 18 c is.short in
    record {
      gate = some.0;
      split = written ∙ ap (λ (l : List ℕ). l ++ text_of_slot_a ++ drop 18 c) front ∙ ap (λ (l : List ℕ). (some.0 ∷ []) ++ text_of_slot_a ++ l) back;
      closed = some.3;
    }

-- ---- the gate is opened

-- whatever stands in the gate
pub any_gate : (gate : ℕ) → IsNewOrNames (gate ∷ text_of_slot_a)
any_gate gate = go (gate == 165) refl
  where
    go : (b : Bool) → (gate == 165) ≡ b → IsNewOrNames (gate ∷ text_of_slot_a)
    go true is = inr (ap (λ (b : Bool). if b then Names file.SlotA else New) is)
    go false is = inl (ap (λ (b : Bool). if b then Names file.SlotA else New) is)

one_first : (d tail : List ℕ) → 0 < length d → drop 1 d ≡ tail → d ≡ get_or d 0 0 ∷ tail
one_first [] tail some is = absurd (omega (arith, some))
one_first (b ∷ d) tail some is = ap (λ (l : List ℕ). b ∷ l) is

pub torn_written : (c d : List ℕ) → IsWritten c → Torn 0 1 c d → IsNewOrNames d
torn_written c d is torn =
    let tail : drop 1 d ≡ text_of_slot_a = torn.after ∙ ap (drop 1) is.split in
    let size : length c ≡ 18 = ap length is.split in
    subst IsNewOrNames (sym (one_first d text_of_slot_a (omega (arith, size, torn.no_shorter)) tail)) (any_gate (get_or d 0 0))

pub now_named : (c d : List ℕ) → IsWritten c → Overwritten 0 (165 ∷ []) c d → head_in d ≡ Names file.SlotA
now_named c d is written =
    let tail : drop 1 c ≡ text_of_slot_a = ap (drop 1) is.split in
    ap head_in (written ∙ ap (λ (l : List ℕ). 165 ∷ l) tail)
