use Rattle.std.proofs.Common.{◌≡◌, Bool, true, false, is_some, length, sym, ap, subst, ◌∙◌, arith}
use Rattle.fh_model.specs.declared.changes.Item.{Item}
use Rattle.fh_model.specs.declared.changes.Node.{Node}
use Rattle.fh_model.specs.Nodes.{mounted_at}
use Rattle.name_core.proofs.PrefixLemmas.{NoneAbove, none_at_nothing, none_at_item, none_found, first_found}
use Rattle.name_core.proofs.places.mount_above.Goals.{in-Some+else-is_some, in_default}
use Rattle.name_core.proofs.places.mount_above.Goals as goal

pub returns-then-is_some : goal.returns-then-is_some
returns-then-is_some c =
    let item : Item = c.in-Some.item.now in
    let mount : is_some (mounted_at item.node) ≡ true = ap (λ (one : Item). is_some (mounted_at one.node)) (sym c.deref.ensures) ∙ ap is_some (sym c.mounted_at.ensures) ∙ sym c.is_some.ensures ∙ c.if-is_some.true in
    first_found (λ node. is_some (mounted_at node)) c.args.tree.now c.args.names.now c.loop-count.count item c.requires.order c.loop-count-test.true c.loop-count.invariant c.in-Some.ensures mount

pub loop-count-preserved : goal.loop-count-preserved
loop-count-preserved c = elim c.match-item_at.branch [
  | in-Some+else-is_some w ↦
      let item : Item = w.in-Some.item.now in
      let no_mount : is_some (mounted_at item.node) ≡ false = ap (λ (one : Item). is_some (mounted_at one.node)) (sym w.deref.ensures) ∙ ap is_some (sym w.mounted_at.ensures) ∙ sym w.is_some.ensures ∙ w.if-is_some.false in
      none_at_item (λ node. is_some (mounted_at node)) c.args.tree.now c.args.names.now c.loop-count.count item c.loop-count.invariant w.in-Some.ensures no_mount
  | in_default w ↦ none_at_nothing (λ node. is_some (mounted_at node)) c.args.tree.now c.args.names.now c.loop-count.count c.loop-count.invariant w.in_default.ensures
]

pub returns : goal.returns
returns c =
    let is_mount : Node → Bool = λ node. is_some (mounted_at node) in
    let names = c.args.names.now in
    let end : c.loop-count.count ≡ length names = omega arith in
    sym (none_found is_mount c.args.tree.now names c.requires.order (subst (NoneAbove is_mount c.args.tree.now names) end c.loop-count.invariant))
