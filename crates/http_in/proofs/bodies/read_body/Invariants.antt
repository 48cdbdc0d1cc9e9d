use Rattle.std.proofs.Common.{◌-◌, ◌+◌, ◌*◌, length}
use Rattle.http_in.specs.Advance.{rank}
use Rattle.http_in.specs.BodySteps.{EndsHere}
use Rattle.http_in.specs.Reading.{HasRun, IsGoingOn, IsStillAt}
use Rattle.http_in.proofs.bodies.read_body.Given as goal

abbrev pub invariant-moves : goal.invariant-moves
invariant-moves g l = record {
  run : HasRun g.S.Source.given g.S.Source.left l.initial.source l.source l.initial.held l.held l.initial.place l.place;
  going : IsGoingOn g.S.Source.place g.S.Source.faults l.initial.source l.source (length l.held) (length l.spans) 5462;
  still : EndsHere l.initial.place l.initial.held → IsStillAt l.initial.source l.source l.initial.held l.held l.initial.place l.place;
}

abbrev pub decreases-moves : goal.decreases-moves
decreases-moves g l = 20000 * rank l.place + (16384 - length l.held)
