use Rattle.std.proofs.Common.{◌≡◌, ◌||◌, false, ◌≤◌, List, length, get_or, sym, ap, ◌∙◌, arith}
use Rattle.std.proofs.lemmas.Grind.{common_steps}
use Rattle.fh_model.specs.declared.changes.Item.{Item}
use Rattle.fh_model.specs.declared.names.Name.{Name}
use Rattle.fh_model.specs.KeyOrder.{is_under}
use Rattle.fh_model.specs.Keys.{key_of, has_key}
use Rattle.name_core.proofs.SideLemmas.{past_run}
use Rattle.name_core.proofs.trees.past.Goals as goal

pub returns-then-not-is_at_or_under : goal.returns-then-not-is_at_or_under
returns-then-not-is_at_or_under c =
    let key = key_of c.args.names.now in
    let left = c.loop-item.left.now in
    let item : Item = c.in-Some.item.now in
    let apart : (has_key item.names key || is_under (key_of item.names) key) ≡ false =
    ap (λ (names : List Name). has_key names key || is_under (key_of names) key) (sym (c.as_slice.ensures ∙ ap (λ (one : Item). one.names) c.deref.ensures))
    ∙ sym c.is_at_or_under.ensures ∙ c.if-not-is_at_or_under.true in
    let some : 1 ≤ length left = grind (arith, common_steps, c.in-Some.ensures.cases, c.in-Some.ensures.variant) in
    let is : item ≡ get_or left 0 item = grind (arith, common_steps, c.in-Some.ensures.cases, c.in-Some.item-is) in
    sym (past_run key left item c.loop-item.invariant.order c.loop-item.invariant.none some is apart) ∙ c.loop-item.invariant.same
