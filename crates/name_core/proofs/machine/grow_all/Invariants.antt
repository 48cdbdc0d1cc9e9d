use Rattle.std.proofs.Common.{◌≡◌, map, take}
use Rattle.fh_model.specs.State.{grown}
use Rattle.name_core.proofs.machine.grow_all.Given as goal

abbrev pub invariant-loop-space : goal.invariant-loop-space
invariant-loop-space l = l.grown.items ≡ map (grown l.number l.changes) (take l.space-index l.spaces)
