use Rattle.std.proofs.Common.{◌≡◌, true, [], ◌∷◌, sym, subst}
use Rattle.fh_model.proofs.TreeOrderLaws.{tree_after_in_order}
use Rattle.fh_model.specs.TreeOrder.{is_in_order}
use Rattle.fh_model.specs.Trees.{Tree, changed}
use Rattle.name_core.proofs.trees.tree_after.Goals as goal

pub more_changed-requires : goal.more_changed-requires
more_changed-requires c =
    let change = c.deref.result.now in
    let order : is_in_order (changed change c.args.tree.now) ≡ true = tree_after_in_order c.args.tree.now (change ∷ []) c.requires.order in
    record { order = subst (λ (tree : Tree). is_in_order tree ≡ true) (sym c.in_ok-items-in-len1-up.ensures.tree) order }
