use Rattle.std.proofs.Common.{◌≡◌, ◌+◌, drop}
use Rattle.store_core.specs.Bodies.{first_beyond}
use Rattle.store_core.proofs.slot.first_beyond.Given as goal

abbrev pub invariant-loop-cmd : goal.invariant-loop-cmd
invariant-loop-cmd l =
    (l.index ≡ l.fn.first + l.cmd-index) × (first_beyond l.len l.index (drop l.cmd-index l.commands) ≡ first_beyond l.len l.fn.first l.commands)
