use Rattle.std.proofs.Common.{◌≡◌, true, drop}
use Rattle.fh_model.specs.TreeOrder.{is_in_order}
use Rattle.fh_model.specs.Trees.{tree_after}
use Rattle.name_core.proofs.trees.more_changed.Given as goal

abbrev pub invariant-loop-change : goal.invariant-loop-change
invariant-loop-change l = record {
  order : is_in_order l.items.items ≡ true;
  after : tree_after l.items.items (drop l.change-index l.changes) ≡ tree_after l.fn.items.items l.changes;
}
