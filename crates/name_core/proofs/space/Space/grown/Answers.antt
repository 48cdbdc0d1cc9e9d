use Rattle.std.proofs.Common.{List, [], sym, ap, ◌∙◌}
use Rattle.fh_model.proofs.TreeLaws.{tree_after-append}
use Rattle.fh_model.specs.declared.changes.Change.{Change}
use Rattle.fh_model.specs.Trees.{Tree, tree_after, tree_of}
use Rattle.name_core.proofs.space.Space.grown.Goals as goal

pub invariant_of-result : goal.invariant_of-result
invariant_of-result c =
    let before = c.self.inside.changes in
    let more = c.args.changes.now in
    c.in_ok-tree.ensures
    ∙ ap (λ (tree : Tree). tree_after tree more) (c.tree.ensures.items ∙ ap tree_of (sym c.self.view_is))
    ∙ sym (tree_after-append [] before more)
    ∙ sym (ap (λ (changes : List Change). tree_after [] changes) c.in_ok-with.ensures)
