use Rattle.std.proofs.Common.{◌≡◌, reverse, take}
use Rattle.fh_world.specs.declared.disk.FileNo.{FileNo}
use Rattle.fh_world.specs.Replay.{content, seen_after, MayLeave}
use Rattle.fh_world.proofs.replay.replayed.Given as goal

abbrev pub invariant-loop-step : goal.invariant-loop-step
invariant-loop-step l = record {
  seen : (g : FileNo) → content l.seen g ≡ seen_after (reverse (take l.step-index l.steps)) g;
  left : (g : FileNo) → MayLeave (reverse (take l.step-index l.steps)) g (content l.image g);
}
