-- The prefixes that are missed, as far as some length.
use Rattle.std.proofs.Common.{◌≡◌, ◌-◌, ◌+◌, ◌≤◌, ℕ, if◌then◌else◌, List, [], ◌∷◌, ◌++◌, take, map, refl, arith}
use Rattle.std.proofs.lemmas.List.FromFn.{filter_of_map_range_with_len_more}
use Rattle.std.specs.List.{filter, range_with_len}
use Rattle.std.specs.Prelude.{is_none}
use Rattle.fh_model.specs.declared.names.Name.{Name}
use Rattle.fh_model.specs.Keys.{key_of}
use Rattle.fh_model.specs.Trees.{Tree, item_at}

-- those of at most this many names
unfoldable pub missed_to : Tree → List Name → ℕ → List (List Name)
missed_to tree names most = filter (λ prefix. is_none (item_at tree (key_of prefix))) (map (λ count. take count names) (range_with_len 1 most))

pub missed_none : (tree : Tree) (names : List Name) → missed_to tree names 0 ≡ []
unfolding missed_to
missed_none tree names = refl

pub missed_all : (tree : Tree) (names : List Name) (most : ℕ) → missed_to tree names most
    ≡ filter (λ prefix. is_none (item_at tree (key_of prefix))) (map (λ count. take count names) (range_with_len 1 most))
unfolding missed_to
missed_all tree names most = refl

pub missed_more : (tree : Tree) (names : List Name) (count : ℕ) → 1 ≤ count
    → missed_to tree names (count + 1 - 1)
    ≡ missed_to tree names (count - 1) ++ (if is_none (item_at tree (key_of (take count names))) then take count names ∷ [] else [])
unfolding missed_to
missed_more tree names count some =
    let next : count + 1 - 1 ≡ count - 1 + 1 = omega arith in
    rw next (filter_of_map_range_with_len_more (λ (prefix : List Name). is_none (item_at tree (key_of prefix))) (λ n. take n names) 1 (count - 1) count (omega arith))
