use Rattle.std.proofs.Common.{arith, length-take}
use Rattle.api_types.proofs.calendar.days_to.Goals as goal

pub overflow_add-days : goal.overflow_add-days
overflow_add-days c =
    let short = length-take c.min-over.result c.month_lengths-lengths.result in
    omega (arith, short, c.days_in.ensures.small, c.days_through.ensures.small)

pub overflow_add-days-2 : goal.overflow_add-days-2
overflow_add-days-2 c =
    let short = length-take c.min-over.result c.month_lengths-lengths.result in
    omega (arith, short, c.days_in.ensures.small, c.days_through.ensures.small)

pub returns-clause-small : goal.returns-clause-small
returns-clause-small c =
    let short = length-take c.min-over.result c.month_lengths-lengths.result in
    omega (arith, short, c.days_in.ensures.small, c.days_through.ensures.small)
