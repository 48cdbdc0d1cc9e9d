use Rattle.std.proofs.Common.{rules, arith, sym, subst, refl, ◌∙◌, List, [], ℕ, ◌<◌}
use Rattle.http_in.specs.declared.place.Place.{Place}
use Rattle.http_in.specs.declared.bodies.BodyStep.TheVariants.{Bytes}
use Rattle.http_in.specs.Advance.{due}
use Rattle.http_in.specs.Bodies.{Runs}
use Rattle.http_in.specs.BodySteps.{PlaceCall}
use Rattle.http_in.specs.Reading.{IsStillAt}
use Rattle.http_in.proofs.BodyRuns.{run_none, run_moves, run_same, run_fills, given_call, given_cut, given_fault, done_call, bad_call, large_call, wanted_cut}
use Rattle.http_in.proofs.StillFacts.{still_none, still_moves, not_cut, given_still}
use Rattle.http_in.proofs.bodies.read_body.Goals as goal

pub moves-init : goal.moves-init
moves-init g c = record {
  run = run_none g.S.Source.given g.S.Source.left c.args.source.now c.args.held.now c.args.place.now;
  going = search rules;
  still = λ _. still_none c.args.source.now c.args.held.now c.args.place.now;
}

pub moves-preserved-in-To : goal.moves-preserved-in-To
moves-preserved-in-To g c = record {
  run = run_moves g.S.Source.given g.S.Source.left c.args.source.now c.moves.source c.args.held.now c.moves.held
      c.advance.new.held c.args.place.now c.moves.place c.in-To.next c.moves.invariant.run c.in-To.ensures.is;
  going = record {
    place_is = c.moves.invariant.going.place_is;
    faults_are = c.moves.invariant.going.faults_are;
    within = omega (arith, c.in-To.ensures.within, c.moves.invariant.going.within);
    room_is = search rules;
  };
  still = λ ends. still_moves c.args.source.now c.moves.source c.args.held.now c.moves.held c.advance.new.held c.args.place.now c.moves.place
      c.in-To.next (c.moves.invariant.still ends) c.in-To.ensures.is;
}

pub moves-preserved : goal.moves-preserved
moves-preserved g c =
    let run = run_same g.S.Source.given g.S.Source.left c.args.source.now c.moves.source c.args.held.now c.moves.held
    c.advance.new.held c.args.place.now c.moves.place c.moves.invariant.run c.in-Wants.ensures.is.0 in
    record {
      run = run_fills g.S.Source.given g.S.Source.left c.args.source.now c.moves.source c.fill.new.source c.args.held.now
          c.advance.new.held c.fill.new.self c.args.place.now c.moves.place run c.in-More.ensures.bytes;
      going = record {
        place_is = c.in-More.ensures.place ∙ c.moves.invariant.going.place_is;
        faults_are = c.in-More.ensures.told (λ e. cc) ∙ c.moves.invariant.going.faults_are;
        within = c.in-More.ensures.within;
        room_is = search rules;
      };
      still = λ ends. absurd {A = IsStillAt c.args.source.now c.fill.new.source c.args.held.now c.fill.new.self c.args.place.now c.moves.place}
          (not_cut c.args.place.now c.moves.place c.args.held.now c.moves.held ends (c.moves.invariant.still ends).runs
          c.in-Wants.ensures.is.1);
    }

pub returns-in-Bytes-clause-step : goal.returns-in-Bytes-clause-step
returns-in-Bytes-clause-step g c =
    let run = run_same g.S.Source.given g.S.Source.left c.args.source.now c.moves.source c.args.held.now c.moves.held
    c.advance.new.held c.args.place.now c.moves.place c.moves.invariant.run c.in-Gives.ensures.is.0 in
    let given = c.in-Bytes.ensures.given in
    let P : Place → Type 0 = λ p. PlaceCall g.S.Source.given g.S.Source.left c.args.source.now c.give.new.source c.args.held.now
    c.give.new.held c.args.place.now p (Bytes c.in-Bytes.count) c.give.new.buf in
    subst P (sym c.shrink.ensures)
    (given_call g.S.Source.given g.S.Source.left c.args.source.now c.moves.source c.give.new.source c.args.held.now
    c.advance.new.held c.give.new.held c.give.new.buf c.args.place.now c.moves.place c.in-Bytes.count run given.0
    (omega (arith, given.1, c.in-Gives.ensures.is.2)) given.2 given.3)

pub returns-in-End-clause-step : goal.returns-in-End-clause-step
returns-in-End-clause-step g c =
    let run = run_same g.S.Source.given g.S.Source.left c.args.source.now c.moves.source c.args.held.now c.moves.held
    c.advance.new.held c.args.place.now c.moves.place c.moves.invariant.run c.in-Gives.ensures.is.0 in
    let given = c.in-End.ensures.given in
    given_cut g.S.Source.given g.S.Source.left c.args.source.now c.moves.source c.give.new.source c.args.held.now
    c.advance.new.held c.give.new.held c.give.new.buf c.args.place.now c.moves.place c.moves.place run
    (omega (arith, c.in-Gives.ensures.is.1, c.in-Gives.ensures.is.2)) given.0 given.1 given.2

pub returns-in-Fault-clause-step : goal.returns-in-Fault-clause-step
returns-in-Fault-clause-step g c =
    let run = run_same g.S.Source.given g.S.Source.left c.args.source.now c.moves.source c.args.held.now c.moves.held
    c.advance.new.held c.args.place.now c.moves.place c.moves.invariant.run c.in-Gives.ensures.is.0 in
    given_fault g.S.Source.given g.S.Source.left c.args.source.now c.moves.source c.give.new.source c.args.held.now
    c.advance.new.held c.give.new.held c.give.new.buf c.args.place.now c.moves.place run c.in-Fault.ensures.given

pub returns-in-End-fill-clause-step : goal.returns-in-End-fill-clause-step
returns-in-End-fill-clause-step g c =
    let run = run_same g.S.Source.given g.S.Source.left c.args.source.now c.moves.source c.args.held.now c.moves.held
    c.advance.new.held c.args.place.now c.moves.place c.moves.invariant.run c.in-Wants.ensures.is.0 in
    let after = run_fills g.S.Source.given g.S.Source.left c.args.source.now c.moves.source c.fill.new.source c.args.held.now
    c.advance.new.held c.fill.new.self c.args.place.now c.moves.place run c.in-End-fill.ensures.bytes in
    let end = c.in-End-fill.ensures.end refl in
    wanted_cut g.S.Source.given g.S.Source.left c.args.source.now c.fill.new.source c.args.held.now c.moves.held
    c.fill.new.self c.moves.buf c.args.place.now c.moves.place c.moves.place after c.in-Wants.ensures.is.1
    (end.1 ∙ c.in-Wants.ensures.is.0) end.0

pub returns-in-Fault-fill-clause-step : goal.returns-in-Fault-fill-clause-step
returns-in-Fault-fill-clause-step g c =
    let run = run_same g.S.Source.given g.S.Source.left c.args.source.now c.moves.source c.args.held.now c.moves.held
    c.advance.new.held c.args.place.now c.moves.place c.moves.invariant.run c.in-Wants.ensures.is.0 in
    let after = run_fills g.S.Source.given g.S.Source.left c.args.source.now c.moves.source c.fill.new.source c.args.held.now
    c.advance.new.held c.fill.new.self c.args.place.now c.moves.place run c.in-Fault-fill.ensures.bytes in
    record { fresh = after.fresh; moves = after.moves; step_is = after.runs; at_end = tt }

pub returns-in-Done-clause-step : goal.returns-in-Done-clause-step
returns-in-Done-clause-step g c =
    done_call g.S.Source.given g.S.Source.left c.args.source.now c.moves.source c.args.held.now c.moves.held
    c.advance.new.held c.moves.buf c.args.place.now c.moves.place c.moves.place c.moves.invariant.run c.in-Done.ensures.is

pub returns-in-Bad-clause-step : goal.returns-in-Bad-clause-step
returns-in-Bad-clause-step g c =
    bad_call g.S.Source.given g.S.Source.left c.args.source.now c.moves.source c.args.held.now c.moves.held
    c.advance.new.held c.moves.buf c.args.place.now c.moves.place c.moves.place c.moves.invariant.run c.in-Bad.ensures.is.1

pub returns-in-TooLarge-clause-step : goal.returns-in-TooLarge-clause-step
returns-in-TooLarge-clause-step g c =
    large_call g.S.Source.given g.S.Source.left c.args.source.now c.moves.source c.args.held.now c.moves.held
    c.advance.new.held c.moves.buf c.args.place.now c.moves.place c.moves.place c.moves.invariant.run c.in-TooLarge.ensures.is.1

pub returns-in-Bytes-clause-still : goal.returns-in-Bytes-clause-still
returns-in-Bytes-clause-still g c ends =
    let before = c.moves.invariant.still ends in
    let P : List ℕ → Type 0 = λ b. Runs c.args.place.now c.args.held.now [] c.moves.place b in
    let runs = subst P (sym c.in-Gives.ensures.is.0) before.runs in
    let some : 0 < due c.moves.place = omega (arith, c.in-Gives.ensures.is.1, c.in-Gives.ensures.is.2) in
    given_still c.moves.source c.give.new.source c.args.place.now c.moves.place c.args.held.now c.advance.new.held ends runs some
    c.in-Bytes.ensures.still ∙ before.source_is

pub returns-in-End-clause-still : goal.returns-in-End-clause-still
returns-in-End-clause-still g c ends =
    let before = c.moves.invariant.still ends in
    let P : List ℕ → Type 0 = λ b. Runs c.args.place.now c.args.held.now [] c.moves.place b in
    let runs = subst P (sym c.in-Gives.ensures.is.0) before.runs in
    let some : 0 < due c.moves.place = omega (arith, c.in-Gives.ensures.is.1, c.in-Gives.ensures.is.2) in
    given_still c.moves.source c.give.new.source c.args.place.now c.moves.place c.args.held.now c.advance.new.held ends runs some
    c.in-End.ensures.still ∙ before.source_is

pub returns-in-Fault-clause-still : goal.returns-in-Fault-clause-still
returns-in-Fault-clause-still g c ends =
    let before = c.moves.invariant.still ends in
    let P : List ℕ → Type 0 = λ b. Runs c.args.place.now c.args.held.now [] c.moves.place b in
    let runs = subst P (sym c.in-Gives.ensures.is.0) before.runs in
    let some : 0 < due c.moves.place = omega (arith, c.in-Gives.ensures.is.1, c.in-Gives.ensures.is.2) in
    given_still c.moves.source c.give.new.source c.args.place.now c.moves.place c.args.held.now c.advance.new.held ends runs some
    c.in-Fault.ensures.still ∙ before.source_is

pub returns-in-End-fill-clause-still : goal.returns-in-End-fill-clause-still
returns-in-End-fill-clause-still g c ends =
    absurd (not_cut c.args.place.now c.moves.place c.args.held.now c.moves.held ends (c.moves.invariant.still ends).runs c.in-Wants.ensures.is.1)

pub returns-in-Fault-fill-clause-still : goal.returns-in-Fault-fill-clause-still
returns-in-Fault-fill-clause-still g c ends =
    absurd (not_cut c.args.place.now c.moves.place c.args.held.now c.moves.held ends (c.moves.invariant.still ends).runs c.in-Wants.ensures.is.1)
