use Rattle.std.proofs.Common.{◌≡◌, ◌++◌, drop}
use Rattle.std.specs.List.{filter_map}
use Rattle.fh_model.specs.Nodes.{mounted_at}
use Rattle.fh_model.specs.Places.{seen_from}
use Rattle.fh_model.specs.State.{tree_in}
use Rattle.name_core.proofs.machine.Machine.seen_from.Given as goal

abbrev pub invariant-loop-item : goal.invariant-loop-item
invariant-loop-item l = l.numbers.items ++ filter_map (λ item. mounted_at item.node) (drop l.item-index (tree_in l.self l.home)) ≡ seen_from l.self l.home
