use Rattle.api_types.proofs.Moments.{clock_ascii}
use Rattle.api_types.proofs.stamps.time_at.Goals as goal

pub returns-clause-ascii : goal.returns-clause-ascii
returns-clause-ascii c =
    (clock_ascii c.tens.result c.ones.result c.tens-2.result c.ones-2.result c.tens-3.result c.ones-3.result
    c.tens.ensures.ascii c.ones.ensures.ascii c.tens-2.ensures.ascii c.ones-2.ensures.ascii c.tens-3.ensures.ascii c.ones-3.ensures.ascii).is
