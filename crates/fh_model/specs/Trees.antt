-- The tree of a namespace: what stands at each key, made by applying the changes in order.
use Rattle.std.specs.Prelude.{ℕ, ◌-◌, ◌||◌, not, List, [], ◌∷◌, ◌++◌, filter, find, take, Option}
use Rattle.std.specs.Ordering.{is_lt, is_gt}
use Rattle.fh_model.specs.declared.changes.Change.{Change}
use Rattle.fh_model.specs.declared.changes.Change.TheVariants.{Put, Gone}
use Rattle.fh_model.specs.declared.changes.Item.{Item}
use Rattle.fh_model.specs.declared.changes.Node.{Node}
use Rattle.fh_model.specs.declared.changes.Node.TheVariants.{File, Folder, Mount}
use Rattle.fh_model.specs.declared.names.Name.{Name}
use Rattle.fh_model.specs.declared.state.Namespace.{Namespace}
use Rattle.fh_model.specs.KeyOrder.{key_cmp, is_under}
use Rattle.fh_model.specs.Keys.{Key, key_of, has_key}

-- A finite map from keys to names and node: the items in the order of their keys, each key once. The root of a
-- namespace is a folder and is no item.
abbrev pub Tree : Type 0
Tree = List Item

abbrev pub item_at : Tree → Key → Option Item
item_at tree key = find (λ item. has_key item.names key) tree

-- the items before a key, and those behind it
abbrev pub before : Key → Tree → Tree
before key tree = filter (λ item. is_lt (key_cmp (key_of item.names) key)) tree

abbrev pub behind : Key → Tree → Tree
behind key tree = filter (λ item. is_gt (key_cmp (key_of item.names) key)) tree

-- the node stands at the key of the names, in the place of what stood there
abbrev pub with_node : List Name → Node → Tree → Tree
with_node names node tree = before (key_of names) tree ++ record { names = names; node = node } ∷ behind (key_of names) tree

-- nothing stands at the key or under it
abbrev pub without : Key → Tree → Tree
without key tree = filter (λ item. not (has_key item.names key || is_under (key_of item.names) key)) tree

-- A folder or a mount point leaves what stands under it. A file takes it away.
abbrev pub changed : Change → Tree → Tree
changed (Put names (File meta)) tree = with_node names (File meta) (without (key_of names) tree)
changed (Put names (Folder id)) tree = with_node names (Folder id) tree
changed (Put names (Mount id ns)) tree = with_node names (Mount id ns) tree
changed (Gone names) tree = without (key_of names) tree

abbrev pub tree_after : Tree → List Change → Tree
tree_after tree [] = tree
tree_after tree (change ∷ changes) = tree_after (changed change tree) changes

-- the tree of a namespace at a position, from its floor to its length
abbrev pub tree_at : Namespace → ℕ → Tree
tree_at space position = tree_after [] (take (position - space.floor) space.changes)

-- and at its length
abbrev pub tree_of : Namespace → Tree
tree_of space = tree_after [] space.changes
