use Rattle.std.proofs.Common.{◌≡◌, ℕ, suc, ◌<◌, ◌==◌, List, Option, Some, find, get_or, length, drop, sym, ap, ◌∙◌, drop-cons}
use Rattle.std.specs.Option.{option_map}
use Rattle.fh_model.specs.declared.changes.Item.{Item}
use Rattle.fh_model.specs.declared.names.Name.{Name}
use Rattle.fh_model.specs.Nodes.{id_of}
use Rattle.fh_model.specs.Places.{or_else, place_of_id}
use Rattle.fh_model.specs.State.{State, tree_in}
use Rattle.name_core.proofs.machine.Machine.place_of_id.Goals as goal

-- where the namespace at this place has the item, that is its place
here : (s : State) (id : ℕ) (numbers : List ℕ) (i : ℕ) (item : Item) → i < length numbers
    → find (λ item. id_of item.node == id) (tree_in s (get_or numbers i 0)) ≡ Some item
    → Some (record { ns = get_or numbers i 0; names = item.names }) ≡ place_of_id s id (drop i numbers)
here s id numbers i item inside e =
    sym (ap (place_of_id s id) (drop-cons numbers i 0 inside)
    ∙ ap (λ (found : Option Item). or_else (option_map (λ item. record { ns = get_or numbers i 0; names = item.names }) found) (place_of_id s id (drop (suc i) numbers))) e)

pub returns-in-Some : goal.returns-in-Some
returns-in-Some c =
    let s = c.args.self.now in
    let id = c.args.id in
    let numbers = c.args.numbers.now in
    let i = c.loop-number.number-index in
    let item = c.in-Some.item.now in
    let first : find (λ item. id_of item.node == id) (tree_in s (get_or numbers i 0)) ≡ Some item =
    ap (λ (tree : List Item). find (λ item. id_of item.node == id) tree) (sym c.tree.ensures.items) ∙ sym c.in-Some.ensures in
    let names = c.in_ok-names.ensures ∙ ap (λ (item : Item). item.names) c.deref.ensures in
    ap (λ (names : List Name). Some (record { ns = get_or numbers i 0; names = names })) names
    ∙ here s id numbers i item c.loop-number-test.true first ∙ c.loop-number.invariant
