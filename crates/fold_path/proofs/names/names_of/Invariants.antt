use Rattle.std.proofs.Common.{◌≡◌, map, take}
use Rattle.fh_model.specs.PathRule.{name_of}
use Rattle.fold_path.proofs.names.names_of.Given as goal

abbrev pub invariant-loop-name : goal.invariant-loop-name
invariant-loop-name l = l.list.items ≡ map name_of (map (λ name. name.now) (take l.name-index l.names))
