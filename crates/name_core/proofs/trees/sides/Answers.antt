use Rattle.std.proofs.Common.{◌≡◌, ◌++◌, true, not, sym, ap, subst, ◌∙◌, rules, arith, take}
use Rattle.std.proofs.lemmas.List.{take-append-drop}
use Rattle.std.proofs.lemmas.List.Sorted.{IsPartitionPoint-from_clause}
use Rattle.std.specs.Ordering.{is_lt}
use Rattle.fh_model.specs.declared.changes.Item.{Item}
use Rattle.fh_model.specs.KeyOrder.{key_cmp}
use Rattle.fh_model.specs.Keys.{key_of}
use Rattle.fh_model.specs.TreeOrder.{is_in_order}
use Rattle.fh_model.specs.Trees.{Tree}
use Rattle.name_core.proofs.ListLemmas.{all_take, all_drop, take_rest}
use Rattle.name_core.proofs.SideLemmas.{partitioned, order_drop}
use Rattle.name_core.specs.TreeSides.{none_before}
use Rattle.name_core.proofs.trees.sides.Goals as goal

pub returns : goal.returns
returns c =
    let tree = c.args.tree.now in
    let key = key_of c.args.names.now in
    let count = c.partition_point-count.result in
    let is_before = λ (item : Item). is_lt (key_cmp (key_of item.names) key) in
    let point = IsPartitionPoint-from_clause is_before tree count c.partition_point-count.ensures.partitioned (partitioned key tree c.requires.order) (λ a r q k. search rules) in
    let bound = c.partition_point-count.ensures.bound in
    let rest = take_rest count tree in
    record {
      whole = ap (λ (list : Tree). take count tree ++ list) rest ∙ take-append-drop count tree;
      front = all_take is_before tree count bound (λ k d less. point.0 k d (omega arith) less);
      back = subst (λ (list : Tree). none_before key list ≡ true) (sym rest) (all_drop (λ item. not (is_before item)) tree count (λ k d least less. ap not (point.1 k d least less)));
      order = subst (λ (list : Tree). is_in_order list ≡ true) (sym rest) (order_drop count tree c.requires.order);
    }
