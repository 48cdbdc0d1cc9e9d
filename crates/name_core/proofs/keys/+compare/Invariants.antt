use Rattle.std.proofs.Common.{length}
use Rattle.name_core.proofs.keys.+compare.Given as goal

abbrev pub decreases-compare : goal.decreases-compare
decreases-compare l = length l.names.now
