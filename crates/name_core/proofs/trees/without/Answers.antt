use Rattle.std.proofs.Common.{◌≡◌, ◌++◌, ap, ◌∙◌}
use Rattle.fh_model.specs.Keys.{key_of}
use Rattle.fh_model.specs.Trees.{Tree}
use Rattle.name_core.proofs.SideLemmas.{rest_joined}
use Rattle.name_core.proofs.trees.without.Goals as goal

pub returns : goal.returns
returns c =
    let sides = c.sides.ensures in
    let all : c.put_all-2.new.items.items ≡ c.sides.result.0.now ++ c.past-past.result.now =
    c.in_ok-put_all-2.ensures ∙ ap (λ (list : Tree). list ++ c.past-past.result.now) (c.in_ok-put_all.ensures ∙ ap (λ (list : Tree). list ++ c.sides.result.0.now) c.in_ok-items.ensures.items) in
    all ∙ rest_joined (key_of c.args.names.now) c.args.tree.now c.sides.result.0.now c.sides.result.1.now c.past-past.result.now sides.whole sides.front c.past-past.ensures
