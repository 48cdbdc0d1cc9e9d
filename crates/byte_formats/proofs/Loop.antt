-- Reading fields one after the other, as a loop does.
use Rattle.std.proofs.Common.{◌≡◌, ℕ, suc, ◌-◌, ◌+◌, ◌≤◌, ◌<◌, List, [], ◌∷◌, ◌++◌, Ok, Err, refl, sym, ap, ◌∙◌, append_assoc, arith}
use Rattle.std.proofs.lemmas.List.{append-nil}
use Rattle.byte_formats.specs.Formats.{◌>>=◌, Reading, times_at}
use Rattle.byte_formats.specs.Given.{Fails}
use Rattle.byte_formats.specs.declared.stop.Stop.{Stop}
use Rattle.byte_formats.specs.declared.stop.Stop.TheVariants as stop

-- what was read before, and what is still read
abbrev pub with_front : {A : Type 0} → List A → Reading (List A) → Reading (List A)
with_front front read = read >>= λ x. Ok (front ++ x.0, x.1)

regroup : {A : Type 0} (front : List A) (n : A) (read : Reading (List A)) → with_front front (read >>= λ x. Ok (n ∷ x.0, x.1)) ≡ with_front (front ++ n ∷ []) read
regroup {A = A} front n (Ok x) = ap (λ (ns : List A). Ok (ns, x.1)) (simp append_assoc)
regroup front n (Err f) = refl

pub goes_on : {A : Type 0} (one : List ℕ → Reading A) (front : List A) (count i : ℕ) (bytes : List ℕ) (n : A) (after : List ℕ) (total : Reading (List A)) → i < count → one bytes ≡ Ok (n, after)
    → with_front front (times_at one (count - i) bytes) ≡ total → with_front (front ++ n ∷ []) (times_at one (count - (i + 1)) after) ≡ total
goes_on one front count i bytes n after total lt h so_far =
    let k : count - i ≡ suc (count - (i + 1)) = omega arith in
    let step : with_front front (times_at one (count - i) bytes) ≡ with_front (front ++ n ∷ []) (times_at one (count - (i + 1)) after) = rw (k, h) (regroup front n (times_at one (count - (i + 1)) after)) in
    sym step ∙ so_far

pub ends : {A : Type 0} (one : List ℕ → Reading A) (e : Stop) (front : List A) (count i : ℕ) (bytes : List ℕ) (total : Reading (List A)) → i < count → Fails e (one bytes)
    → with_front front (times_at one (count - i) bytes) ≡ total → Fails e total
ends one stop.NoMemory front count i bytes total lt h so_far = tt
ends one (stop.Bad f) front count i bytes total lt h so_far =
    let k : count - i ≡ suc (count - (i + 1)) = omega arith in
    let step : with_front front (times_at one (count - i) bytes) ≡ Err f = rw (k, h) refl in
    sym so_far ∙ step

pub is_done : {A : Type 0} (one : List ℕ → Reading A) (front : List A) (count i : ℕ) (bytes : List ℕ) (total : Reading (List A)) → count ≤ i → with_front front (times_at one (count - i) bytes) ≡ total → total ≡ Ok (front, bytes)
is_done {A = A} one front count i bytes total le so_far =
    let k : count - i ≡ 0 = omega arith in
    let step : with_front front (times_at one (count - i) bytes) ≡ Ok (front, bytes) = rw k (ap (λ (ns : List A). Ok (ns, bytes)) (append-nil front)) in
    sym so_far ∙ step
