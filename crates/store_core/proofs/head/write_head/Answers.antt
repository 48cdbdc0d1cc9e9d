use Rattle.std.proofs.Common.{inl}
use Rattle.fh_world.specs.declared.FileNo.TheVariants as file
use Rattle.gate_journal.proofs.StateLemmas.{kept_written, kept_joined}
use Rattle.store_core.specs.Head.{IsNewOrNames}
use Rattle.store_core.proofs.HeadRuns.{then_run, less_run, text_run, gate_run}
use Rattle.store_core.proofs.head.write_head.Goals as goal

pub returns-in_err-write_through-2-clause-any_moment : goal.returns-in_err-write_through-2-clause-any_moment
returns-in_err-write_through-2-clause-any_moment g c = λ told.
    let d = g.D.Disk in
    let s = c.in_ok-shut.ensures in
    let w = c.in_ok-write_through.ensures in
    let closing = less_run d c.args.disk.now c.shut.new.disk _ IsNewOrNames (s.any_moment told) (λ x new. inl new) in
    let text = then_run d c.args.disk.now c.shut.new.disk c.write_through.new.disk IsNewOrNames closing (s.others told) (text_run d c.shut.new.disk c.write_through.new.disk (s.shut told) (s.durable told) (w.any_moment told)) in
    let others = kept_joined file.Head _ _ _ _ _ _ (s.others told) (kept_written file.Head 1 17 _ _ _ _ (w.writes told)) in
    then_run d c.args.disk.now c.write_through.new.disk c.write_through-2.new.disk IsNewOrNames text others (gate_run d c.shut.new.disk c.write_through.new.disk (s.shut told) (s.durable told) (w.written told) w.durable c.write_through-2.new.disk (c.write_through-2.ensures.any_moment told))

pub returns-clause-any_moment : goal.returns-clause-any_moment
returns-clause-any_moment g c = λ told.
    let d = g.D.Disk in
    let s = c.in_ok-shut.ensures in
    let w = c.in_ok-write_through.ensures in
    let closing = less_run d c.args.disk.now c.shut.new.disk _ IsNewOrNames (s.any_moment told) (λ x new. inl new) in
    let text = then_run d c.args.disk.now c.shut.new.disk c.write_through.new.disk IsNewOrNames closing (s.others told) (text_run d c.shut.new.disk c.write_through.new.disk (s.shut told) (s.durable told) (w.any_moment told)) in
    let others = kept_joined file.Head _ _ _ _ _ _ (s.others told) (kept_written file.Head 1 17 _ _ _ _ (w.writes told)) in
    then_run d c.args.disk.now c.write_through.new.disk c.write_through-2.new.disk IsNewOrNames text others (gate_run d c.shut.new.disk c.write_through.new.disk (s.shut told) (s.durable told) (w.written told) w.durable c.write_through-2.new.disk (c.write_through-2.ensures.any_moment told))
