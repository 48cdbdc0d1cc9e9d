use Rattle.std.proofs.Common.{◌≡◌, true, length}
use Rattle.fh_model.specs.Keys.{key_of}
use Rattle.fh_model.specs.TreeOrder.{is_in_order}
use Rattle.fh_model.specs.Trees.{without}
use Rattle.name_core.specs.TreeSides.{none_before}
use Rattle.name_core.proofs.trees.past.Given as goal

abbrev pub invariant-loop-item : goal.invariant-loop-item
invariant-loop-item l = record {
  order : is_in_order l.left ≡ true;
  none : none_before (key_of l.names) l.left ≡ true;
  same : without (key_of l.names) l.left ≡ without (key_of l.names) l.back;
}

abbrev pub decreases-loop-item : goal.decreases-loop-item
decreases-loop-item l = length l.left
