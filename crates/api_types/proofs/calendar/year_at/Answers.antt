use Rattle.std.proofs.Common.{◌-◌, ◌<◌, ◌≤◌, ◌+◌, refl, sym, ap, ◌∙◌, arith}
use Rattle.fh_model.specs.Stamps.{date_text, year_length}
use Rattle.api_types.specs.Calendar.{date_of}
use Rattle.api_types.proofs.Days.{date_goes_on, date_stops}
use Rattle.api_types.proofs.calendar.year_at.Goals as goal

pub loop-year-init : goal.loop-year-init
unfolding date_of
loop-year-init c = refl

pub loop-year-preserved : goal.loop-year-preserved
loop-year-preserved c =
    let year = c.loop-year.year in
    let left = c.loop-year.left in
    let length = c.year_length-length.ensures in
    let gone : year_length year ≤ left = omega (arith, c.if-left-length.false) in
    let step = date_goes_on (10000 - year) (10000 - (year + 1)) year left (omega (arith, c.loop-year-test.true)) gone in
    ap (λ n. date_text (10000 - (year + 1)) (year + 1) (left - n)) length ∙ sym step ∙ c.loop-year.invariant

pub returns-then-left-length : goal.returns-then-left-length
returns-then-left-length c =
    let year = c.loop-year.year in
    let left = c.loop-year.left in
    let length = c.year_length-length.ensures in
    let within : left < year_length year = omega (arith, c.if-left-length.true) in
    record {
      year_short = c.loop-year-test.true;
      within = within;
      text = sym c.loop-year.invariant ∙ date_stops (10000 - year) year left (omega (arith, c.loop-year-test.true)) within;
    }
