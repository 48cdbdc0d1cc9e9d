-- The two sides of a key in a tree.
use Rattle.std.specs.Prelude.{not, Bool}
use Rattle.std.specs.List.{list_all}
use Rattle.std.specs.Ordering.{is_lt}
use Rattle.fh_model.specs.KeyOrder.{key_cmp}
use Rattle.fh_model.specs.Keys.{Key, key_of}
use Rattle.fh_model.specs.Trees.{Tree}

-- each item comes before the key
abbrev pub all_before : Key → Tree → Bool
all_before key tree = list_all (λ item. is_lt (key_cmp (key_of item.names) key)) tree

-- none does
abbrev pub none_before : Key → Tree → Bool
none_before key tree = list_all (λ item. not (is_lt (key_cmp (key_of item.names) key))) tree
