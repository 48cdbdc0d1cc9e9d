use Rattle.std.proofs.Common.{◌≡◌, true, sym, ap, subst, ◌∙◌}
use Rattle.fh_model.proofs.TreeOrderLaws.{tree_of_in_order}
use Rattle.fh_model.specs.TreeOrder.{is_in_order}
use Rattle.fh_model.specs.Trees.{Tree, tree_of}
use Rattle.name_core.proofs.space.Space.tree.Goals as goal

pub returns-clause-order : goal.returns-clause-order
returns-clause-order c =
    let is = c.deref.ensures.value ∙ c.self.invariant ∙ ap tree_of c.self.view_is in
    subst (λ (tree : Tree). is_in_order tree ≡ true) (sym is) (tree_of_in_order c.args.self.now)
