-- The order of a tree's items.
use Rattle.std.specs.Prelude.{◌&&◌, Bool, true, [], ◌∷◌}
use Rattle.std.specs.List.{list_all}
use Rattle.std.specs.Ordering.{is_lt}
use Rattle.fh_model.specs.declared.changes.Item.{Item}
use Rattle.fh_model.specs.KeyOrder.{key_cmp}
use Rattle.fh_model.specs.Keys.{key_of}
use Rattle.fh_model.specs.Trees.{Tree}

abbrev pub comes_before : Item → Item → Bool
comes_before item later = is_lt (key_cmp (key_of item.names) (key_of later.names))

-- the items are in the order of their keys, each key once
abbrev pub is_in_order : Tree → Bool
is_in_order [] = true
is_in_order (item ∷ tree) = list_all (comes_before item) tree && is_in_order tree
