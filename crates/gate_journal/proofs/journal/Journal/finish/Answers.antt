use Rattle.std.proofs.Common.{refl, sym}
use Rattle.std.proofs.lemmas.Result.{err_from_is_err_and}
use Rattle.gate_journal.proofs.StateLemmas.{waiting_stays, settled_now, gate_run}
use Rattle.gate_journal.proofs.journal.Journal.finish.Goals as goal

pub returns-in_err-write_through-clause-fault : goal.returns-in_err-write_through-clause-fault
returns-in_err-write_through-clause-fault g c =
    let p = err_from_is_err_and c.from_residual.result c.from_residual.ensures.1 in
    rw p.1 (λ told bodies news is. waiting_stays _ _ _ _ _ bodies news is (c.write_through.ensures.writes told))

pub returns-in_err-write_through-clause-any_moment : goal.returns-in_err-write_through-clause-any_moment
returns-in_err-write_through-clause-any_moment g c told bodies news is =
    let d = g.D.Disk in
    gate_run d.moment d.left_since d.may_leave _ _ c.args.self.now bodies news _ is (c.write_through.ensures.any_moment told)

pub returns-clause-acknowledged : goal.returns-clause-acknowledged
returns-clause-acknowledged g c told bodies news is =
    settled_now _ _ _ _ c.args.self.now bodies news _ is (c.in_ok-write_through.ensures.written told) c.in_ok-write_through.ensures.durable refl (sym c.in-Some.is) refl

pub returns-clause-any_moment : goal.returns-clause-any_moment
returns-clause-any_moment g c told bodies news is =
    let d = g.D.Disk in
    gate_run d.moment d.left_since d.may_leave _ _ c.args.self.now bodies news _ is (c.write_through.ensures.any_moment told)
