use Rattle.std.proofs.Common.{◌≡◌, take}
use Rattle.fh_model.specs.History.{state_of, state_after}
use Rattle.store_core.proofs.slot.replayed.Given as goal

abbrev pub invariant-loop-cmd : goal.invariant-loop-cmd
invariant-loop-cmd l = state_of l.image ≡ state_after (state_of l.fn.image) (take l.cmd-index l.commands)
