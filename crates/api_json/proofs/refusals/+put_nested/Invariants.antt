use Rattle.std.proofs.Common.{length}
use Rattle.api_json.proofs.refusals.+put_nested.Given as goal

abbrev pub decreases-put_nested : goal.decreases-put_nested
decreases-put_nested l = length l.tags.now
