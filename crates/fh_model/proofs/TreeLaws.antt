-- Laws of trees.
use Rattle.std.proofs.Common.{◌≡◌, List, [], ◌∷◌, ◌++◌, refl}
use Rattle.fh_model.specs.declared.changes.Change.{Change}
use Rattle.fh_model.specs.Trees.{Tree, changed, tree_after}

-- more changes go on from the tree after those before
pub tree_after-append : (tree : Tree) (changes more : List Change) → tree_after tree (changes ++ more) ≡ tree_after (tree_after tree changes) more
tree_after-append tree [] more = refl
tree_after-append tree (change ∷ changes) more = tree_after-append (changed change tree) changes more
