use Rattle.std.proofs.Common.{◌≡◌, IfOk, List, ap, subst, ◌∙◌}
use Rattle.fh_model.specs.declared.names.Name.{Name}
use Rattle.fh_model.specs.Keys.{key_of}
use Rattle.fh_model.specs.Trees.{Tree, behind}
use Rattle.name_core.proofs.SideLemmas.{node_joined}
use Rattle.name_core.proofs.trees.with_node.Goals as goal

pub returns : goal.returns
returns c =
    let sides = c.sides.ensures in
    let back = c.sides.result.1.now in
    let rest = c.behind-behind.ensures ∙ ap (λ (names : List Name). behind (key_of names) back) c.as_slice-2.ensures in
    subst (λ (list : Tree). IfOk c.around.result (λ items. items.items ≡ list))
    (node_joined c.args.names.now c.as_slice.result.now c.args.node.now c.args.tree.now c.sides.result.0.now back c.behind-behind.result.now c.as_slice.ensures sides.whole sides.front sides.back rest)
    c.around.ensures
