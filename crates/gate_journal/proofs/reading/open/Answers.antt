use Rattle.std.proofs.Common.{◌∙◌}
use Rattle.gate_journal.proofs.StateLemmas.{read_settled}
use Rattle.gate_journal.proofs.reading.open.Goals as goal

pub returns-clause-settled : goal.returns-clause-settled
returns-clause-settled g c told =
    let d = g.D.Disk in
    let slot = c.args.slot in
    let left = c.in_ok-bytes.ensures in
    read_settled (d.seen c.args.disk.now) (d.seen c.read_synced.new.disk) (d.may_leave c.read_synced.new.disk) (d.may_leave c.read_synced.new.disk) slot c.behind.result c.in_ok-records.records.items c.deref.result.now
    (c.deref.ensures.value ∙ left.bytes told) c.in_ok-records.ensures.rest left.durable (c.read_synced.ensures.rests.seen slot)
    (λ left may. may) c.behind.ensures.slot (c.behind.ensures.end ∙ c.in_ok-records.ensures.place) c.behind.ensures.idle
