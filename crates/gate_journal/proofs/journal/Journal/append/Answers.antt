use Rattle.gate_journal.specs.Slot.{IsBefore}
use Rattle.gate_journal.proofs.StateLemmas.{on_err, slot_run}
use Rattle.gate_journal.proofs.journal.Journal.append.Goals as goal

pub returns-clause-unopened : goal.returns-clause-unopened
returns-clause-unopened g c =
    let d = g.D.Disk in
    let j = c.args.self.now in
    let room = c.make_room.ensures in
    on_err c.put.result _ _ (λ was idle told bodies is. slot_run d.moment d.left_since d.may_leave c.args.disk.now c.make_room.new.disk _ j.slot (IsBefore bodies) (room.any_moment told bodies is) (room.others told).crash (was idle told bodies (room.settled told bodies is))) c.put.ensures.unopened
