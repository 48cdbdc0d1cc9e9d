use Rattle.std.proofs.Common.{◌≡◌, ◌-◌}
use Rattle.fh_model.specs.Stamps.{date_text}
use Rattle.api_types.specs.Calendar.{date_of}
use Rattle.api_types.proofs.calendar.year_at.Given as goal

abbrev pub invariant-loop-year : goal.invariant-loop-year
invariant-loop-year l = date_text (10000 - l.year) l.year l.left ≡ date_of l.days
