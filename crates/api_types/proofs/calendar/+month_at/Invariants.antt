use Rattle.std.proofs.Common.{length}
use Rattle.api_types.proofs.calendar.+month_at.Given as goal

abbrev pub decreases-month_at : goal.decreases-month_at
decreases-month_at l = length l.lengths.now
