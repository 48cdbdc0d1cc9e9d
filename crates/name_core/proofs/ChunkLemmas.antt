-- What is found in lists in chunks.
use Rattle.std.proofs.Common.{◌≡◌, ℕ, suc, ◌+◌, ◌<◌, Bool, Option, List, ◌++◌, find, flat_map, get_or, length, drop, sym, ap, ◌∙◌, arith, drop-cons}
use Rattle.std.proofs.lemmas.List.Folds.{find-append}
use Rattle.std.specs.Option.{option_or}

-- in the chunks from one of them on
pub find_from : {A : Type 0} (p : A → Bool) (chunks : List (List A)) (i : ℕ) (one list : List A) → i < length chunks → one ≡ get_or chunks i one → list ≡ one
    → find p (flat_map (λ chunk. chunk) (drop i chunks)) ≡ option_or (find p list) (find p (flat_map (λ chunk. chunk) (drop (i + 1) chunks)))
find_from {A = A} p chunks i one list less is same =
    let next : suc i ≡ i + 1 = omega arith in
    ap (λ (l : List (List A)). find p (flat_map (λ chunk. chunk) l)) (drop-cons chunks i one less)
    ∙ ap (λ (l : List A). find p (l ++ flat_map (λ chunk. chunk) (drop (suc i) chunks))) (sym (same ∙ is))
    ∙ find-append p list (flat_map (λ chunk. chunk) (drop (suc i) chunks))
    ∙ ap (λ n. option_or (find p list) (find p (flat_map (λ chunk. chunk) (drop n chunks)))) next

-- in the chunks and what stands behind them, where this was found in the chunks
pub find_parts : {A : Type 0} (p : A → Bool) (chunks : List (List A)) (last all : List A) (found : Option A) → flat_map (λ chunk. chunk) chunks ++ last ≡ all
    → found ≡ find p (flat_map (λ chunk. chunk) chunks) → option_or found (find p last) ≡ find p all
find_parts {A = A} p chunks last all found is was =
    ap (λ (o : Option A). option_or o (find p last)) was
    ∙ sym (find-append p (flat_map (λ chunk. chunk) chunks) last)
    ∙ ap (find p) is
