use Rattle.store_core.proofs.HeadLemmas.{other_end}
use Rattle.store_core.proofs.head.first_other.Goals as goal

pub returns-in-empty : goal.returns-in-empty
returns-in-empty c = other_end c.loop-code.place c.args.text.now c.loop-code.rest.now c.args.bytes.now c.loop-code.code-index c.loop-code-test.true c.in-empty.len_below c.loop-code.invariant.1
