use Rattle.std.proofs.Common.{◌≡◌, ◌&&◌, true, false, is_some, length, sym, ap, subst, ◌∙◌, arith}
use Rattle.fh_model.specs.declared.changes.Item.{Item}
use Rattle.fh_model.specs.Keys.{key_of}
use Rattle.fh_model.specs.KeyOrder.{is_under}
use Rattle.fh_model.specs.Nodes.{is_file}
use Rattle.name_core.proofs.PrefixLemmas.{NoneAbove, any_found, none_at_nothing, none_at_item, none_found, first_found}
use Rattle.name_core.proofs.places.is_below_file.Goals.{in-Some+else-is_file, in_default}
use Rattle.name_core.proofs.places.is_below_file.Goals as goal

pub returns-then-is_file : goal.returns-then-is_file
returns-then-is_file c =
    let item : Item = c.in-Some.item.now in
    let names = c.args.names.now in
    let file : is_file item.node ≡ true = ap (λ (one : Item). is_file one.node) (sym c.deref.ensures) ∙ sym c.is_file.ensures ∙ c.if-is_file.true in
    ap is_some (first_found is_file c.args.tree.now names c.loop-count.count item c.requires.order c.loop-count-test.true c.loop-count.invariant c.in-Some.ensures file)
    ∙ sym (any_found (λ (one : Item). is_file one.node && is_under (key_of names) (key_of one.names)) c.args.tree.now)

pub loop-count-preserved : goal.loop-count-preserved
loop-count-preserved c = elim c.match-item_at.branch [
  | in-Some+else-is_file w ↦
      let item : Item = w.in-Some.item.now in
      let no_file : is_file item.node ≡ false = ap (λ (one : Item). is_file one.node) (sym w.deref.ensures) ∙ sym w.is_file.ensures ∙ w.if-is_file.false in
      none_at_item is_file c.args.tree.now c.args.names.now c.loop-count.count item c.loop-count.invariant w.in-Some.ensures no_file
  | in_default w ↦ none_at_nothing is_file c.args.tree.now c.args.names.now c.loop-count.count c.loop-count.invariant w.in_default.ensures
]

pub returns : goal.returns
returns c =
    let names = c.args.names.now in
    let end : c.loop-count.count ≡ length names = omega arith in
    ap is_some (sym (none_found is_file c.args.tree.now names c.requires.order (subst (NoneAbove is_file c.args.tree.now names) end c.loop-count.invariant)))
    ∙ sym (any_found (λ (one : Item). is_file one.node && is_under (key_of names) (key_of one.names)) c.args.tree.now)
