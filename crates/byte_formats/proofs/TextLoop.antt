-- Reading a text byte by byte, as a loop does.
use Rattle.std.proofs.Common.{◌≡◌, ℕ, zero, suc, ◌+◌, ◌-◌, ◌<◌, ◌≤◌, Bool, true, false, cond, List, [], ◌∷◌, length, take, drop, Option, Some, None, Ok, Err, refl, sym, ap, ◌∙◌, arith}
use Rattle.byte_formats.specs.Formats.{◌>>=◌, Reading}
use Rattle.byte_formats.specs.Texts.{allows, after, characters_at, fault_of}
use Rattle.byte_formats.specs.declared.text.Awaited.{Awaited}

abbrev with_byte : ℕ → List ℕ × List ℕ → Reading (List ℕ)
with_byte b x = Ok (b ∷ x.0, x.1)

same_fault : (b : ℕ) (r : Reading (List ℕ)) → fault_of (r >>= with_byte b) ≡ fault_of r
same_fault b (Ok x) = refl
same_fault b (Err left) = refl

pub goes_on : (awaited : Awaited) (len done b : ℕ) (rest others : List ℕ) (total : Option ℕ) → done < len → rest ≡ b ∷ others → allows awaited (len - done) b ≡ true
    → fault_of (characters_at awaited (len - done) rest) ≡ total → fault_of (characters_at (after awaited b) (len - (done + 1)) others) ≡ total
unfolding characters_at
goes_on awaited len done b rest others total lt parts allowed so_far =
    let left : len - done ≡ suc (len - (done + 1)) = omega arith in
    let step : fault_of (characters_at awaited (len - done) rest) ≡ fault_of (characters_at (after awaited b) (len - (done + 1)) others) =
    rw (parts, left) (rw (rw left at allowed) (same_fault b (characters_at (after awaited b) (len - (done + 1)) others))) in
    sym step ∙ so_far

pub refuses : (awaited : Awaited) (len done b : ℕ) (rest others : List ℕ) (total : Option ℕ) → done < len → rest ≡ b ∷ others → allows awaited (len - done) b ≡ false
    → fault_of (characters_at awaited (len - done) rest) ≡ total → Some (length rest) ≡ total
unfolding characters_at
refuses awaited len done b rest others total lt parts refused so_far =
    let left : len - done ≡ suc (len - (done + 1)) = omega arith in
    let step : fault_of (characters_at awaited (len - done) rest) ≡ Some (length rest) = rw (parts, left) (rw (rw left at refused) refl) in
    sym step ∙ so_far

pub ends_early : (awaited : Awaited) (len done : ℕ) (rest : List ℕ) (total : Option ℕ) → done < len → rest ≡ []
    → fault_of (characters_at awaited (len - done) rest) ≡ total → Some 0 ≡ total
unfolding characters_at
ends_early awaited len done rest total lt none so_far =
    let left : len - done ≡ suc (len - (done + 1)) = omega arith in
    let step : fault_of (characters_at awaited (len - done) rest) ≡ Some 0 = rw (none, left) refl in
    sym step ∙ so_far

pub is_whole : (awaited : Awaited) (len done : ℕ) (rest : List ℕ) (total : Option ℕ) → len ≤ done
    → fault_of (characters_at awaited (len - done) rest) ≡ total → None ≡ total
unfolding characters_at
is_whole awaited len done rest total le so_far =
    let left : len - done ≡ 0 = omega arith in
    let step : fault_of (characters_at awaited (len - done) rest) ≡ None = rw left refl in
    sym step ∙ so_far

-- what is read where there is no fault: the bytes as they stand
pub no_fault : (awaited : Awaited) (len : ℕ) (bytes : List ℕ) → None ≡ fault_of (characters_at awaited len bytes) → (len ≤ length bytes) × (characters_at awaited len bytes ≡ Ok (take len bytes, drop len bytes))
unfolding characters_at
no_fault awaited zero bytes h = (omega arith, refl)
no_fault awaited (suc left) [] h = absurd cc
no_fault awaited (suc left) (b ∷ rest) h =
    let short = characters_at (after awaited b) left rest >>= with_byte b in
    let taken : Reading (List ℕ) = Ok (b ∷ take left rest, drop left rest) in
    let bad = length (b ∷ rest) in
    let go : (t : Bool) → None ≡ fault_of (cond t short (Err bad)) → (suc left ≤ suc (length rest)) × ((cond t short (Err bad)) ≡ taken) = λ t. elim t as (λ t. None ≡ fault_of (cond t short (Err bad)) → (suc left ≤ suc (length rest)) × ((cond t short (Err bad)) ≡ taken)) [
      | true ↦ λ e.
          let others = no_fault (after awaited b) left rest (e ∙ same_fault b (characters_at (after awaited b) left rest)) in
          (omega (arith, others.0), ap (λ (r : Reading (List ℕ)). r >>= with_byte b) others.1)
      | false ↦ λ e. absurd cc
    ] in
    go (allows awaited (suc left) b) h
