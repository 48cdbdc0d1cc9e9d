-- The items of a tree stay in the order of their keys, each key once.
use Rattle.std.proofs.Common.{◌≡◌, Bool, true, false, cond, List, [], ◌∷◌, ◌++◌, filter, refl, ap, ◌∙◌}
use Rattle.std.proofs.lemmas.Bool.{and_parts, and_from}
use Rattle.std.specs.List.{list_all}
use Rattle.std.specs.Ordering.{is_lt, is_gt, ordering_reverse}
use Rattle.std.specs.declared.cmp.Ordering.{Ordering}
use Rattle.std.specs.declared.cmp.Ordering.TheVariants.{Less, Equal, Greater}
use Rattle.fh_model.proofs.KeyLaws.{key_cmp-IsTotalOrder}
use Rattle.fh_model.specs.declared.changes.Change.{Change}
use Rattle.fh_model.specs.declared.changes.Change.TheVariants.{Put, Gone}
use Rattle.fh_model.specs.declared.changes.Item.{Item}
use Rattle.fh_model.specs.declared.changes.Node.{Node}
use Rattle.fh_model.specs.declared.changes.Node.TheVariants.{File, Folder, Mount}
use Rattle.fh_model.specs.declared.names.Name.{Name}
use Rattle.fh_model.specs.declared.state.Namespace.{Namespace}
use Rattle.fh_model.specs.KeyOrder.{key_cmp}
use Rattle.fh_model.specs.Keys.{Key, key_of}
use Rattle.fh_model.specs.TreeOrder.{comes_before, is_in_order}
use Rattle.fh_model.specs.Trees.{Tree, before, behind, changed, tree_after, tree_of, with_node, without}

-- what holds of all holds of those that are kept
all_kept : (holds keeps : Item → Bool) (tree : Tree) → list_all holds tree ≡ true → list_all holds (filter keeps tree) ≡ true
all_kept holds keeps [] h = refl
all_kept holds keeps (item ∷ tree) h = let both = and_parts _ _ h in one (keeps item) both.0 (all_kept holds keeps tree both.1)
  where
    one : (b : Bool) → holds item ≡ true → list_all holds (filter keeps tree) ≡ true → list_all holds (cond b (item ∷ filter keeps tree) (filter keeps tree)) ≡ true
    one true first rest = and_from _ _ first rest
    one false first rest = rest

-- a part of a tree is in order
order_kept : (keeps : Item → Bool) (tree : Tree) → is_in_order tree ≡ true → is_in_order (filter keeps tree) ≡ true
order_kept keeps [] h = refl
order_kept keeps (item ∷ tree) h =
    let both = and_parts _ _ h in
    one (keeps item) (all_kept (comes_before item) keeps tree both.0) (order_kept keeps tree both.1)
  where
    one : (b : Bool) → list_all (comes_before item) (filter keeps tree) ≡ true → is_in_order (filter keeps tree) ≡ true → is_in_order (cond b (item ∷ filter keeps tree) (filter keeps tree)) ≡ true
    one true first rest = and_from _ _ first rest
    one false first rest = rest

-- what is kept passes the test
kept_pass : (holds keeps : Item → Bool) → ((item : Item) → keeps item ≡ true → holds item ≡ true) → (tree : Tree) → list_all holds (filter keeps tree) ≡ true
kept_pass holds keeps means [] = refl
kept_pass holds keeps means (item ∷ tree) = one (keeps item) (means item) (kept_pass holds keeps means tree)
  where
    one : (b : Bool) → (b ≡ true → holds item ≡ true) → list_all holds (filter keeps tree) ≡ true → list_all holds (cond b (item ∷ filter keeps tree) (filter keeps tree)) ≡ true
    one true first rest = and_from _ _ (first refl) rest
    one false first rest = rest

all_append : (holds : Item → Bool) (front back : Tree) → list_all holds front ≡ true → list_all holds back ≡ true → list_all holds (front ++ back) ≡ true
all_append holds [] back h k = k
all_append holds (item ∷ front) back h k = let both = and_parts _ _ h in and_from _ _ both.0 (all_append holds front back both.1 k)

-- two parts in order, the first before the second
order-append : (front back : Tree) → is_in_order front ≡ true → is_in_order back ≡ true
    → list_all (λ item. list_all (comes_before item) back) front ≡ true → is_in_order (front ++ back) ≡ true
order-append [] back h k across = k
order-append (item ∷ front) back h k across =
    let both = and_parts _ _ h in
    let over = and_parts _ _ across in
    and_from _ _ (all_append (comes_before item) front back both.0 over.0) (order-append front back both.1 k over.1)

less_is : (order : Ordering) → is_lt order ≡ true → order ≡ Less
less_is Less h = refl
less_is Equal h = cc
less_is Greater h = cc

greater_is : (order : Ordering) → is_gt order ≡ true → order ≡ Greater
greater_is Less h = cc
greater_is Equal h = cc
greater_is Greater h = refl

-- a key that comes behind another
turned : (key other : Key) → is_gt (key_cmp other key) ≡ true → key_cmp key other ≡ Less
turned key other h = key_cmp-IsTotalOrder.antisymm key other ∙ ap ordering_reverse (greater_is (key_cmp other key) h)

with_node_in_order : (names : List Name) (node : Node) (tree : Tree) → is_in_order tree ≡ true → is_in_order (with_node names node tree) ≡ true
with_node_in_order names node tree h =
    order-append (before key tree) (item ∷ behind key tree) (order_kept _ tree h)
    (and_from _ _ behind_it (order_kept _ tree h)) (kept_pass _ _ ahead tree)
  where
    key : Key
    key = key_of names

    item : Item
    item = record { names = names; node = node }

    behind_it : list_all (comes_before item) (behind key tree) ≡ true
    behind_it = kept_pass (comes_before item) _ (λ other h. ap is_lt (turned key (key_of other.names) h)) tree

    ahead : (other : Item) → is_lt (key_cmp (key_of other.names) key) ≡ true → list_all (comes_before other) (item ∷ behind key tree) ≡ true
    ahead other h = and_from _ _ h (kept_pass (comes_before other) _ (λ later k.
        ap is_lt (key_cmp-IsTotalOrder.trans (key_of other.names) key (key_of later.names) (less_is _ h) (turned key (key_of later.names) k))) tree)

changed_in_order : (change : Change) (tree : Tree) → is_in_order tree ≡ true → is_in_order (changed change tree) ≡ true
changed_in_order (Put names (File meta)) tree h = with_node_in_order names (File meta) (without (key_of names) tree) (order_kept _ tree h)
changed_in_order (Put names (Folder id)) tree h = with_node_in_order names (Folder id) tree h
changed_in_order (Put names (Mount id ns)) tree h = with_node_in_order names (Mount id ns) tree h
changed_in_order (Gone names) tree h = order_kept _ tree h

pub tree_after_in_order : (tree : Tree) (changes : List Change) → is_in_order tree ≡ true → is_in_order (tree_after tree changes) ≡ true
tree_after_in_order tree [] h = h
tree_after_in_order tree (change ∷ changes) h = tree_after_in_order (changed change tree) changes (changed_in_order change tree h)

-- as each tree of a namespace is
pub tree_of_in_order : (space : Namespace) → is_in_order (tree_of space) ≡ true
tree_of_in_order space = tree_after_in_order [] space.changes refl
