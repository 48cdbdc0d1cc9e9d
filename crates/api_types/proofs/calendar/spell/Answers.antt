use Rattle.api_types.proofs.Moments.{date_ascii}
use Rattle.api_types.proofs.calendar.spell.Goals as goal

pub returns-clause-ascii : goal.returns-clause-ascii
returns-clause-ascii c =
    (date_ascii c.tens.result c.ones.result c.tens-2.result c.ones-2.result c.tens-3.result c.ones-3.result c.tens-4.result c.ones-4.result
    c.tens.ensures.ascii c.ones.ensures.ascii c.tens-2.ensures.ascii c.ones-2.ensures.ascii
    c.tens-3.ensures.ascii c.ones-3.ensures.ascii c.tens-4.ensures.ascii c.ones-4.ensures.ascii).is
