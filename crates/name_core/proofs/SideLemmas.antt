-- The two sides of a key in a tree that is in order.
use Rattle.std.proofs.Common.{◌≡◌, ℕ, zero, suc, ◌≤◌, ◌<◌, ◌-◌, Bool, true, false, not, cond, ◌||◌, List, [], ◌∷◌, ◌++◌, take, drop, get_or, length, None, Some, refl, sym, ap, subst, ◌∙◌, arith, append-nil}
use Rattle.std.proofs.lemmas.Bool.{and_parts, and_from}
use Rattle.std.proofs.lemmas.List.Elements.{filter-append}
use Rattle.std.proofs.lemmas.List.Folds.{find-append}
use Rattle.std.specs.List.{list_all}
use Rattle.std.specs.List.Sorted.{IsPartitionedBy}
use Rattle.std.specs.Ordering.{is_lt, is_gt}
use Rattle.fh_model.proofs.KeyLaws.{key_cmp-IsTotalOrder}
use Rattle.fh_model.specs.declared.changes.Item.{Item}
use Rattle.fh_model.specs.declared.changes.Node.{Node}
use Rattle.fh_model.specs.declared.names.Name.{Name}
use Rattle.fh_model.specs.KeyOrder.{key_cmp, is_under}
use Rattle.fh_model.specs.Keys.{Key, key_of, has_key}
use Rattle.fh_model.specs.TreeOrder.{comes_before, is_in_order}
use Rattle.fh_model.specs.Trees.{Tree, item_at, before, behind, with_node, without}
use Rattle.name_core.proofs.KeyLemmas.{before_apart, behind_from, behind_next, between, has_ties, less_is}
use Rattle.name_core.proofs.ListLemmas.{all_get, all_kept, all_more, filter_all, filter_none, find_none, not_false, not_true, take_rest}
use Rattle.name_core.specs.TreeSides.{all_before, none_before}

-- no item before a key comes behind one that doesn't
pub partitioned : (key : Key) (tree : Tree) → is_in_order tree ≡ true → IsPartitionedBy (λ item. is_lt (key_cmp (key_of item.names) key)) tree
partitioned key [] h = λ i j d up less is. absurd (omega arith)
partitioned key (item ∷ tree) h = go (partitioned key tree (and_parts _ _ h).1)
  where
    is_before : Item → Bool
    is_before one = is_lt (key_cmp (key_of one.names) key)

    go : IsPartitionedBy is_before tree → (i j : ℕ) (d : Item) → i ≤ j → j < length (item ∷ tree)
        → is_before (get_or (item ∷ tree) j d) ≡ true → is_before (get_or (item ∷ tree) i d) ≡ true
    go rest zero zero d up less is = is
    go rest zero (suc j) d up less is =
        let later : Item = get_or tree j d in
        let ahead : is_lt (key_cmp (key_of item.names) (key_of later.names)) ≡ true = all_get (comes_before item) tree j d (omega arith) (and_parts _ _ h).0 in
        ap is_lt (key_cmp-IsTotalOrder.trans (key_of item.names) (key_of later.names) key (less_is _ ahead) (less_is _ is))
    go rest (suc i) zero d up less is = absurd (omega arith)
    go rest (suc i) (suc j) d up less is = rest i j d (omega arith) (omega arith) is

pub order_drop : (i : ℕ) (tree : Tree) → is_in_order tree ≡ true → is_in_order (drop i tree) ≡ true
order_drop zero tree h = h
order_drop (suc i) [] h = refl
order_drop (suc i) (item ∷ tree) h = order_drop i tree (and_parts _ _ h).1

-- ---- what is found, and what is taken out, on one side

all_apart : (key : Key) (front : Tree) → all_before key front ≡ true → list_all (λ item. not (has_key item.names key || is_under (key_of item.names) key)) front ≡ true
all_apart key front h =
    all_more (λ (item : Item). is_lt (key_cmp (key_of item.names) key)) (λ item. not (has_key item.names key || is_under (key_of item.names) key))
    (λ item less. not_false _ (before_apart item.names key less)) front h

or_left : (a b : Bool) → (a || b) ≡ false → a ≡ false
or_left true b h = cc
or_left false b h = refl

none_there : (key : Key) (front : Tree) → all_before key front ≡ true → list_all (λ item. not (has_key item.names key)) front ≡ true
none_there key front h =
    all_more (λ (item : Item). is_lt (key_cmp (key_of item.names) key)) (λ item. not (has_key item.names key))
    (λ item less. not_false _ (or_left _ _ (before_apart item.names key less))) front h

-- the items behind one that doesn't come before a key come behind the key
all_behind : (key : Key) (item : Item) (back : Tree) → is_lt (key_cmp (key_of item.names) key) ≡ false → list_all (comes_before item) back ≡ true
    → list_all (λ later. is_gt (key_cmp (key_of later.names) key)) back ≡ true
all_behind key item back least ahead =
    all_more (comes_before item) (λ later. is_gt (key_cmp (key_of later.names) key))
    (λ later less. ap is_gt (behind_next (key_of item.names) (key_of later.names) key least less)) back ahead

behind_not_there : (key : Key) (back : Tree) → list_all (λ later. is_gt (key_cmp (key_of later.names) key)) back ≡ true → list_all (λ later. not (has_key later.names key)) back ≡ true
behind_not_there key back h =
    all_more (λ (later : Item). is_gt (key_cmp (key_of later.names) key)) (λ later. not (has_key later.names key))
    (λ later greater. go later (has_key later.names key) refl greater) back h
  where
    go : (later : Item) (b : Bool) → has_key later.names key ≡ b → is_gt (key_cmp (key_of later.names) key) ≡ true → not b ≡ true
    go later true e greater = let t = ap is_gt (has_ties later.names key e) in cc
    go later false e greater = refl

-- what stands at a key is the first of those that don't come before it, or nothing
item_at_first : (key : Key) (item : Item) (back : Tree) → is_in_order (item ∷ back) ≡ true → none_before key (item ∷ back) ≡ true
    → item_at (item ∷ back) key ≡ cond (has_key item.names key) (Some item) None
item_at_first key item back order none =
    let least : is_lt (key_cmp (key_of item.names) key) ≡ false = not_true _ (and_parts _ _ none).0 in
    ap (cond (has_key item.names key) (Some item))
    (find_none (λ (later : Item). has_key later.names key) back (behind_not_there key back (all_behind key item back least (and_parts _ _ order).0)))

item_at_back : (key : Key) (front back : Tree) → all_before key front ≡ true → item_at (front ++ back) key ≡ item_at back key
item_at_back key front back h =
    rw (find-append (λ (item : Item). has_key item.names key) front back, find_none (λ (item : Item). has_key item.names key) front (none_there key front h)) refl

pub nothing_at : (key : Key) (tree front back : Tree) → front ++ back ≡ tree → all_before key front ≡ true → length back < 1 → None ≡ item_at tree key
nothing_at key tree front [] whole ahead none = sym (item_at_back key front [] ahead) ∙ ap (λ (list : Tree). item_at list key) whole
nothing_at key tree front (item ∷ back) whole ahead none = absurd (omega arith)

pub item_at_head : (key : Key) (tree front back : Tree) (item : Item) → front ++ back ≡ tree → all_before key front ≡ true → none_before key back ≡ true
    → is_in_order back ≡ true → 1 ≤ length back → item ≡ get_or back 0 item → cond (has_key item.names key) (Some item) None ≡ item_at tree key
item_at_head key tree front [] item whole ahead none order some is = absurd (omega arith)
item_at_head key tree front (first ∷ back) item whole ahead none order some is =
    ap (λ (one : Item). cond (has_key one.names key) (Some one) None) is
    ∙ sym (item_at_first key first back order none)
    ∙ sym (item_at_back key front (first ∷ back) ahead)
    ∙ ap (λ (list : Tree). item_at list key) whole

pub behind_head : (key : Key) (back : Tree) (item : Item) → is_in_order back ≡ true → none_before key back ≡ true
    → 1 ≤ length back → item ≡ get_or back 0 item → has_key item.names key ≡ true → take (length back - 1) (drop 1 back) ≡ behind key back
behind_head key [] item order none some is has = absurd (omega arith)
behind_head key (first ∷ back) item order none some is has =
    let least : is_lt (key_cmp (key_of first.names) key) ≡ false = not_true _ (and_parts _ _ none).0 in
    let there : has_key first.names key ≡ true = ap (λ (one : Item). has_key one.names key) (sym is) ∙ has in
    let tied : is_gt (key_cmp (key_of first.names) key) ≡ false = ap is_gt (has_ties first.names key there) in
    take_rest 1 (first ∷ back) ∙ sym (rw tied (filter_all (λ (later : Item). is_gt (key_cmp (key_of later.names) key)) back (all_behind key first back least (and_parts _ _ order).0)))

pub behind_all : (key : Key) (back : Tree) (item : Item) → is_in_order back ≡ true → none_before key back ≡ true
    → 1 ≤ length back → item ≡ get_or back 0 item → has_key item.names key ≡ false → back ≡ behind key back
behind_all key [] item order none some is apart = absurd (omega arith)
behind_all key (first ∷ back) item order none some is apart =
    let least : is_lt (key_cmp (key_of first.names) key) ≡ false = not_true _ (and_parts _ _ none).0 in
    let gone : has_key first.names key ≡ false = ap (λ (one : Item). has_key one.names key) (sym is) ∙ apart in
    sym (filter_all (λ (later : Item). is_gt (key_cmp (key_of later.names) key)) (first ∷ back)
    (and_from _ _ (behind_from first.names key least gone) (all_behind key first back least (and_parts _ _ order).0)))

-- the run of those at a key and under it ends at the first that is neither
past_run_at : (key : Key) (item : Item) (back : Tree) → is_in_order (item ∷ back) ≡ true → none_before key (item ∷ back) ≡ true
    → (has_key item.names key || is_under (key_of item.names) key) ≡ false → without key (item ∷ back) ≡ item ∷ back
past_run_at key item back order none apart =
    filter_all (λ (later : Item). not (has_key later.names key || is_under (key_of later.names) key)) (item ∷ back)
    (and_from _ _ (not_false _ apart) (all_more (comes_before item) (λ later. not (has_key later.names key || is_under (key_of later.names) key)) past back (and_parts _ _ order).0))
  where
    least : is_lt (key_cmp (key_of item.names) key) ≡ false
    least = not_true _ (and_parts _ _ none).0

    past : (later : Item) → comes_before item later ≡ true → not (has_key later.names key || is_under (key_of later.names) key) ≡ true
    past later less = go (has_key later.names key) refl (is_under (key_of later.names) key) refl
      where
        go : (has : Bool) → has_key later.names key ≡ has → (under : Bool) → is_under (key_of later.names) key ≡ under → not (has || under) ≡ true
        go true e under f =
            let t = has_ties later.names key e in
            let g = behind_next (key_of item.names) (key_of later.names) key least less in
            cc
        go false e true f = let g = between item.names key (key_of later.names) least less f in cc
        go false e false f = refl

pub past_run : (key : Key) (back : Tree) (item : Item) → is_in_order back ≡ true → none_before key back ≡ true
    → 1 ≤ length back → item ≡ get_or back 0 item → (has_key item.names key || is_under (key_of item.names) key) ≡ false → without key back ≡ back
past_run key [] item order none some is apart = absurd (omega arith)
past_run key (first ∷ back) item order none some is apart =
    past_run_at key first back order none (ap (λ (one : Item). has_key one.names key || is_under (key_of one.names) key) (sym is) ∙ apart)

-- ---- both sides

with_node_sides : (names : List Name) (node : Node) (front back : Tree) → all_before (key_of names) front ≡ true → none_before (key_of names) back ≡ true
    → with_node names node (front ++ back) ≡ front ++ record { names = names; node = node } ∷ behind (key_of names) back
with_node_sides names node front back ahead none =
    let key : Key = key_of names in
    let item : Item = record { names = names; node = node } in
    let first : before key (front ++ back) ≡ front =
    filter-append (λ (one : Item). is_lt (key_cmp (key_of one.names) key)) front back
    ∙ ap (λ (rest : Tree). before key front ++ rest) (filter_none (λ (one : Item). is_lt (key_cmp (key_of one.names) key)) back none)
    ∙ append-nil (before key front)
    ∙ filter_all (λ (one : Item). is_lt (key_cmp (key_of one.names) key)) front ahead in
    let later : behind key (front ++ back) ≡ behind key back =
    filter-append (λ (one : Item). is_gt (key_cmp (key_of one.names) key)) front back
    ∙ ap (λ (rest : Tree). rest ++ behind key back)
    (filter_none (λ (one : Item). is_gt (key_cmp (key_of one.names) key)) front
    (all_more (λ (one : Item). is_lt (key_cmp (key_of one.names) key)) (λ one. not (is_gt (key_cmp (key_of one.names) key)))
    (λ one less. ap (λ order. not (is_gt order)) (less_is _ less)) front ahead)) in
    ap (λ (list : Tree). list ++ item ∷ behind key (front ++ back)) first ∙ ap (λ (list : Tree). front ++ item ∷ list) later

without_sides : (key : Key) (front back : Tree) → all_before key front ≡ true → without key (front ++ back) ≡ front ++ without key back
without_sides key front back ahead =
    filter-append (λ (one : Item). not (has_key one.names key || is_under (key_of one.names) key)) front back
    ∙ ap (λ (list : Tree). list ++ without key back)
    (filter_all (λ (one : Item). not (has_key one.names key || is_under (key_of one.names) key)) front (all_apart key front ahead))

-- what is neither at the key nor under it, and doesn't come before it, comes behind it
without_behind : (key : Key) (back : Tree) → none_before key back ≡ true → behind key (without key back) ≡ without key back
without_behind key [] none = refl
without_behind key (item ∷ back) none = go (has_key item.names key) refl (is_under (key_of item.names) key) (without_behind key back both.1)
  where
    both : (not (is_lt (key_cmp (key_of item.names) key)) ≡ true) × (none_before key back ≡ true)
    both = and_parts _ _ none

    go : (has : Bool) → has_key item.names key ≡ has → (under : Bool) → behind key (without key back) ≡ without key back
        → behind key (cond (not (has || under)) (item ∷ without key back) (without key back)) ≡ cond (not (has || under)) (item ∷ without key back) (without key back)
    go true e under rest = rest
    go false e true rest = rest
    go false e false rest =
        let greater : is_gt (key_cmp (key_of item.names) key) ≡ true = behind_from item.names key (not_true _ both.0) e in
        rw greater (ap (λ (list : Tree). item ∷ list) rest)

with_leaf_sides : (names : List Name) (node : Node) (front back : Tree) → all_before (key_of names) front ≡ true → none_before (key_of names) back ≡ true
    → with_node names node (without (key_of names) (front ++ back)) ≡ front ++ record { names = names; node = node } ∷ without (key_of names) back
with_leaf_sides names node front back ahead none =
    let key : Key = key_of names in
    let item : Item = record { names = names; node = node } in
    ap (with_node names node) (without_sides key front back ahead)
    ∙ with_node_sides names node front (without key back) ahead (all_kept (λ (one : Item). not (is_lt (key_cmp (key_of one.names) key))) _ back none)
    ∙ ap (λ (list : Tree). front ++ item ∷ list) (without_behind key back none)

-- ---- the same as the functions find them, whose names are what was passed on

pub node_joined : (names read : List Name) (node : Node) (tree front back rest : Tree) → read ≡ names → front ++ back ≡ tree
    → all_before (key_of read) front ≡ true → none_before (key_of read) back ≡ true → rest ≡ behind (key_of names) back
    → front ++ record { names = names; node = node } ∷ rest ≡ with_node names node tree
node_joined names read node tree front back rest same whole ahead none is =
    ap (λ (list : Tree). front ++ record { names = names; node = node } ∷ list) is
    ∙ sym (with_node_sides names node front back
    (subst (λ (one : List Name). all_before (key_of one) front ≡ true) same ahead)
    (subst (λ (one : List Name). none_before (key_of one) back ≡ true) same none))
    ∙ ap (with_node names node) whole

pub leaf_joined : (names read : List Name) (node : Node) (tree front back rest : Tree) → read ≡ names → front ++ back ≡ tree
    → all_before (key_of read) front ≡ true → none_before (key_of read) back ≡ true → rest ≡ without (key_of names) back
    → front ++ record { names = names; node = node } ∷ rest ≡ with_node names node (without (key_of names) tree)
leaf_joined names read node tree front back rest same whole ahead none is =
    ap (λ (list : Tree). front ++ record { names = names; node = node } ∷ list) is
    ∙ sym (with_leaf_sides names node front back
    (subst (λ (one : List Name). all_before (key_of one) front ≡ true) same ahead)
    (subst (λ (one : List Name). none_before (key_of one) back ≡ true) same none))
    ∙ ap (λ (list : Tree). with_node names node (without (key_of names) list)) whole

pub rest_joined : (key : Key) (tree front back rest : Tree) → front ++ back ≡ tree → all_before key front ≡ true → rest ≡ without key back
    → front ++ rest ≡ without key tree
rest_joined key tree front back rest whole ahead is =
    ap (λ (list : Tree). front ++ list) is ∙ sym (without_sides key front back ahead) ∙ ap (without key) whole
