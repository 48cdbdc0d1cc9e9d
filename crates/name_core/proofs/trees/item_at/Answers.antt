use Rattle.std.proofs.Common.{◌≡◌, Bool, true, false, cond, Some, None, sym, ap, ◌∙◌}
use Rattle.fh_model.specs.declared.changes.Item.{Item}
use Rattle.fh_model.specs.Keys.{key_of, has_key}
use Rattle.name_core.proofs.SideLemmas.{nothing_at, item_at_head}
use Rattle.name_core.proofs.trees.item_at.Goals as goal

pub returns-in-empty : goal.returns-in-empty
returns-in-empty c =
    let sides = c.sides.ensures in
    nothing_at (key_of c.args.names.now) c.args.tree.now c.sides.result.0.now c.sides.result.1.now sides.whole sides.front c.in-empty.len_below

pub returns-then-has_key : goal.returns-then-has_key
returns-then-has_key c =
    let sides = c.sides.ensures in
    let item : Item = c.item-item.result in
    let has : has_key item.names (key_of c.args.names.now) ≡ true = cc in
    sym (ap (λ (b : Bool). cond b (Some item) None) has)
    ∙ item_at_head (key_of c.args.names.now) c.args.tree.now c.sides.result.0.now c.sides.result.1.now item sides.whole sides.front sides.back sides.order c.in-len1-up.len_at_least c.item-item.is

pub returns-else-has_key : goal.returns-else-has_key
returns-else-has_key c =
    let sides = c.sides.ensures in
    let item : Item = c.item-item.result in
    let has : has_key item.names (key_of c.args.names.now) ≡ false = cc in
    sym (ap (λ (b : Bool). cond b (Some item) None) has)
    ∙ item_at_head (key_of c.args.names.now) c.args.tree.now c.sides.result.0.now c.sides.result.1.now item sides.whole sides.front sides.back sides.order c.in-len1-up.len_at_least c.item-item.is
