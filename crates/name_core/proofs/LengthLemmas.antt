-- The lengths of namespaces that grow.
use Rattle.std.proofs.Common.{◌≡◌, ℕ, suc, ◌+◌, ◌^◌, ◌≤◌, Bool, true, false, if◌then◌else◌, ◌||◌, ◌==◌, nat_le, List, [], ◌∷◌, ◌++◌, length, map, refl, ap, arith, length-append}
use Rattle.std.proofs.lemmas.Bool.{and_from, lt-ltb, leb-false}
use Rattle.std.specs.List.{list_all, list_any}
use Rattle.fh_model.specs.declared.changes.Change.{Change}
use Rattle.fh_model.specs.declared.names.Name.{Name}
use Rattle.fh_model.specs.declared.state.Namespace.{Namespace}
use Rattle.fh_model.specs.State.{grown, length_of, space_is_spent, spent_at}
use Rattle.fh_model.specs.Folders.{folders}
use Rattle.name_core.specs.Machine.{length_fits}

or_false : (a b : Bool) → (a || b) ≡ false → (a ≡ false) × (b ≡ false)
or_false true b is = cc
or_false false b is = (refl, is)

-- more changes fit, where the namespace isn't spent
one_grown : (number : ℕ) (changes : List Change) (space : Namespace) → length changes ≤ 2 ^ 63 → space_is_spent space ≡ false → length_fits (grown number changes space) ≡ true
one_grown number changes space few is = go (space.number == number)
  where
    short : length_of space + 1 ≤ 2 ^ 62
    short = let e = (or_false (nat_le spent_at (length_of space)) (nat_le (2 ^ 31) (length space.members)) is).0 in omega (arith, leb-false spent_at (length_of space) e)

    go : (b : Bool) → length_fits (if b then record space { changes = space.changes ++ changes } else space) ≡ true
    go true = lt-ltb (space.floor + length (space.changes ++ changes)) (2 ^ 64) (omega (arith, length-append space.changes changes, short, few))
    go false = lt-ltb (length_of space) (2 ^ 64) (omega (arith, short))

pub lengths_grown : (number : ℕ) (changes : List Change) (spaces : List Namespace) → length changes ≤ 2 ^ 63 → list_any space_is_spent spaces ≡ false → list_all length_fits (map (grown number changes) spaces) ≡ true
lengths_grown number changes [] few is = refl
lengths_grown number changes (space ∷ spaces) few is =
    let each = or_false (space_is_spent space) (list_any space_is_spent spaces) is in
    and_from _ _ (one_grown number changes space few each.0) (lengths_grown number changes spaces few each.1)

pub length-folders : (id : ℕ) (places : List (List Name)) → length (folders id places) ≡ length places
length-folders id [] = refl
length-folders id (names ∷ places) = ap suc (length-folders (id + 1) places)
