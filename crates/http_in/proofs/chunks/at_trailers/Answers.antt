use Rattle.std.proofs.Common.{subst, refl}
use Rattle.http_in.specs.Trailers.{IsBadTrailers}
use Rattle.http_in.proofs.chunks.at_trailers.Goals as goal

pub returns-in-Bad-clause-is : goal.returns-in-Bad-clause-is
returns-in-Bad-clause-is c = (refl, subst IsBadTrailers c.as_slice.ensures.value c.in-Bad.ensures)
