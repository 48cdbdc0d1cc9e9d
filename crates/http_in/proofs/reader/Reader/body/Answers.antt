use Rattle.std.proofs.Common.{rules, ◌≡◌, ℕ, List, refl, subst}
use Rattle.http_in.specs.declared.place.Place.TheVariants.{Known}
use Rattle.http_in.specs.declared.bodies.BodyStep.TheVariants.{Done}
use Rattle.http_in.specs.BodySteps.{PlaceCall}
use Rattle.http_in.proofs.BodyRuns.{run_none, done_call}
use Rattle.http_in.proofs.reader.Reader.body.Goals as goal

pub returns-in-Known-eq0-clause-step : goal.returns-in-Known-eq0-clause-step
returns-in-Known-eq0-clause-step g c =
    let held : List ℕ = c.args.self.now.held in
    let same : held ≡ c.self.inside.held = search rules in
    let P : List ℕ → Type 0 = λ h. PlaceCall g.S.Source.given g.S.Source.left c.args.source.now c.args.source.now held h
    (Known 0) (Known 0) Done c.args.buf.now in
    let run = run_none g.S.Source.given g.S.Source.left c.args.source.now held (Known 0) in
    record {
      place = Known 0;
      next = Known 0;
      inside = search rules;
      leaves = refl;
      call = subst P same (done_call g.S.Source.given g.S.Source.left c.args.source.now c.args.source.now held held held
          c.args.buf.now (Known 0) (Known 0) (Known 0) run (refl, refl));
    }
