use Rattle.std.proofs.Common.{length}
use Rattle.api_types.proofs.calendar.+days_in.Given as goal

abbrev pub decreases-days_in : goal.decreases-days_in
decreases-days_in l = length l.lengths.now
