use Rattle.std.proofs.Common.{length}
use Rattle.byte_formats.proofs.moment.«+over_at».Given as goal

abbrev pub decreases-over_at : goal.decreases-over_at
decreases-over_at l = length l.limit.now
