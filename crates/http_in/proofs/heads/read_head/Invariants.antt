use Rattle.std.proofs.Common.{◌-◌, length}
use Rattle.http_in.specs.Input.{Fills, IsStill}
use Rattle.http_in.specs.Reading.{IsGoingOn}
use Rattle.http_in.specs.Steps.{Suffices}
use Rattle.http_in.proofs.heads.read_head.Given as goal

abbrev pub invariant-reads : goal.invariant-reads
invariant-reads g l = record {
  fills : Fills g.S.Source.given g.S.Source.left l.initial.source l.source l.initial.held l.held;
  going : IsGoingOn g.S.Source.place g.S.Source.faults l.initial.source l.source (length l.held) (length l.spans) 5462;
  still : Suffices l.initial.held → IsStill l.initial.source l.source l.initial.held l.held;
}

abbrev pub decreases-reads : goal.decreases-reads
decreases-reads g l = 16384 - length l.held
