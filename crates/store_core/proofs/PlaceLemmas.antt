-- The places of records.
use Rattle.std.proofs.Common.{◌≡◌, ℕ, ◌+◌, ◌<◌, ◌≤◌, List, ◌∷◌, length, take, drop, get_or, sym, ap, arith, length-append, take-append-drop}
use Rattle.std.proofs.lemmas.List.{take_all}
use Rattle.gate_journal.specs.Slot.{records, behind_gate}
use Rattle.gate_journal.proofs.SlotLemmas.{records-append, records_more, length-behind_gate}
use Rattle.store_core.specs.Bodies.{place_of}

-- the first records end before all of them do
pub front_within : (bodies : List (List ℕ)) (i : ℕ) → place_of bodies i ≤ length (records bodies)
front_within bodies i =
    omega (arith, ap (λ (l : List (List ℕ)). length (records l)) (take-append-drop i bodies), ap length (records-append (take i bodies) (drop i bodies)), length-append (records (take i bodies)) (records (drop i bodies)))

pub place_more : (bodies : List (List ℕ)) (i : ℕ) (body : List ℕ) → i < length bodies → body ≡ get_or bodies i body → place_of bodies (i + 1) ≡ place_of bodies i + (9 + length body)
place_more bodies i body less is =
    omega (arith, ap length (records_more bodies i body less is), length-append (records (take i bodies)) (165 ∷ behind_gate body), length-behind_gate body)

pub place_end : (bodies : List (List ℕ)) (i : ℕ) → length bodies ≤ i → length (records bodies) ≡ place_of bodies i
place_end bodies i all = ap (λ (l : List (List ℕ)). length (records l)) (sym (take_all i bodies all))
