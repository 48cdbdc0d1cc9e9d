use Rattle.std.proofs.Common.{◌≡◌, true, [], ◌∷◌, sym, ap, subst, ◌∙◌, arith}
use Rattle.std.proofs.lemmas.Grind.{common_steps}
use Rattle.fh_model.proofs.TreeOrderLaws.{tree_after_in_order}
use Rattle.fh_model.specs.TreeOrder.{is_in_order}
use Rattle.fh_model.specs.Trees.{Tree, changed}
use Rattle.name_core.proofs.trees.more_changed.Goals as goal

pub loop-change-preserved : goal.loop-change-preserved
loop-change-preserved c =
    let change = c.deref.result.now in
    let items = c.loop-change.items.items in
    let order : is_in_order (changed change items) ≡ true = tree_after_in_order items (change ∷ []) c.loop-change.invariant.order in
    record { order = subst (λ (tree : Tree). is_in_order tree ≡ true) (sym (c.in_ok-items.ensures.tree ∙ ap (changed change) c.deref-in-loop-change.ensures.value)) order; after = grind (arith, common_steps) }
