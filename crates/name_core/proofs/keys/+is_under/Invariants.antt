use Rattle.std.proofs.Common.{length}
use Rattle.name_core.proofs.keys.+is_under.Given as goal

abbrev pub decreases-is_under : goal.decreases-is_under
decreases-is_under l = length l.names.now
