use Rattle.std.proofs.Common.{◌≡◌, ◌-◌, ◌++◌, ◌∷◌, [], length, arith, ◌∙◌}
use Rattle.gate_journal.specs.Slot.{records}
use Rattle.gate_journal.proofs.StateLemmas.{laid}
use Rattle.gate_journal.proofs.laying.lay.Goals as goal

pub returns-clause-settled : goal.returns-clause-settled
returns-clause-settled g c told =
    let w = c.in_ok-write_through.ensures in
    let is : c.deref.result.now ≡ records c.args.rows.now ++ 0 ∷ [] = c.deref.ensures.value ∙ c.in_ok-bytes.ensures in
    let end : c.behind.result.end ≡ length c.deref.result.now - 1 = omega arith in
    let d = g.D.Disk in
    laid (d.seen c.args.disk.now) (d.seen c.write_through.new.disk) (d.may_leave c.write_through.new.disk) c.args.slot c.behind.result c.args.rows.now c.deref.result.now is (w.written told) w.durable c.behind.ensures.slot end c.behind.ensures.idle
