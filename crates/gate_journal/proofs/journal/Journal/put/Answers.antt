use Rattle.std.proofs.Common.{◌∷◌, [], refl, arith}
use Rattle.std.proofs.lemmas.Result.{err_from_is_err_and}
use Rattle.gate_journal.proofs.StateLemmas.{settled_stays, waits_now, framed_staged, framed_end, behind_run, before_run, slot_run, pending_case}
use Rattle.gate_journal.proofs.journal.Journal.put.Goals as goal

pub returns-in_err-write_through-clause-fault : goal.returns-in_err-write_through-clause-fault
returns-in_err-write_through-clause-fault g c =
    let p = err_from_is_err_and c.from_residual.result c.from_residual.ensures.1 in
    rw p.1 (λ told bodies is. rw c.requires.idle (settled_stays _ _ _ _ _ bodies _ is (c.write_through.ensures.writes told)))

pub returns-in_err-write_through-clause-any_moment : goal.returns-in_err-write_through-clause-any_moment
returns-in_err-write_through-clause-any_moment g c told bodies is =
    let d = g.D.Disk in
    behind_run d.moment d.left_since d.may_leave _ _ c.args.self.now bodies (c.args.framed.now ∷ []) _ _ is (c.write_through.ensures.any_moment told)

pub returns-in_err-write_through-clause-unopened : goal.returns-in_err-write_through-clause-unopened
returns-in_err-write_through-clause-unopened g c =
    let d = g.D.Disk in
    let p = err_from_is_err_and c.from_residual.result c.from_residual.ensures.1 in
    rw p.1 (λ idle told bodies is. before_run d.moment d.left_since d.may_leave _ _ c.args.self.now bodies (c.args.framed.now ∷ []) _ _ is (c.write_through.ensures.any_moment told))

pub finish-requires-clause-waiting : goal.finish-requires-clause-waiting
finish-requires-clause-waiting g c told =
    let before = c.requires.settled told in
    let bodies = before.0 in
    let body = c.args.framed.now in
    let framed = c.framed-bytes.ensures in
    let w = c.in_ok-write_through.ensures in
    (bodies, body ∷ [], waits_now _ _ _ _ c.args.self.now bodies (body ∷ []) _ _ before.1 (omega arith) (framed_staged body _ framed) (w.written told) w.durable refl refl (framed_end bodies body _ _ before.1.place framed))

pub returns-in_err-finish-clause-fault : goal.returns-in_err-finish-clause-fault
returns-in_err-finish-clause-fault g c =
    let p = err_from_is_err_and c.from_residual-in_err-finish.result c.from_residual-in_err-finish.ensures.1 in
    let body = c.args.framed.now in
    let framed = c.framed-bytes.ensures in
    let w = c.in_ok-write_through.ensures in
    rw p.1 (λ told bodies is.
    let waits = waits_now _ _ _ _ c.args.self.now bodies (body ∷ []) _ _ is (omega arith) (framed_staged body _ framed) (w.written told) w.durable refl refl (framed_end bodies body _ _ is.place framed) in
    pending_case _ _ _ bodies (body ∷ []) (c.in_err-finish.ensures.fault told bodies (body ∷ []) waits))

pub returns-in_err-finish-clause-any_moment : goal.returns-in_err-finish-clause-any_moment
returns-in_err-finish-clause-any_moment g c told bodies is =
    let d = g.D.Disk in
    let body = c.args.framed.now in
    let framed = c.framed-bytes.ensures in
    let w = c.in_ok-write_through.ensures in
    let waits = waits_now _ _ _ _ c.args.self.now bodies (body ∷ []) _ _ is (omega arith) (framed_staged body _ framed) (w.written told) w.durable refl refl (framed_end bodies body _ _ is.place framed) in
    let behind = behind_run d.moment d.left_since d.may_leave _ _ c.args.self.now bodies (body ∷ []) _ _ is (w.any_moment told) in
    slot_run d.moment d.left_since d.may_leave _ _ _ _ _ behind (w.writes told).others_crash (c.finish.ensures.any_moment told bodies (body ∷ []) waits)

pub returns-clause-acknowledged : goal.returns-clause-acknowledged
returns-clause-acknowledged g c told bodies is =
    let body = c.args.framed.now in
    let framed = c.framed-bytes.ensures in
    let w = c.in_ok-write_through.ensures in
    c.in_ok-finish.ensures.acknowledged told bodies (body ∷ []) (waits_now _ _ _ _ c.args.self.now bodies (body ∷ []) _ _ is (omega arith) (framed_staged body _ framed) (w.written told) w.durable refl refl (framed_end bodies body _ _ is.place framed))

pub returns-clause-any_moment : goal.returns-clause-any_moment
returns-clause-any_moment g c told bodies is =
    let d = g.D.Disk in
    let body = c.args.framed.now in
    let framed = c.framed-bytes.ensures in
    let w = c.in_ok-write_through.ensures in
    let waits = waits_now _ _ _ _ c.args.self.now bodies (body ∷ []) _ _ is (omega arith) (framed_staged body _ framed) (w.written told) w.durable refl refl (framed_end bodies body _ _ is.place framed) in
    let behind = behind_run d.moment d.left_since d.may_leave _ _ c.args.self.now bodies (body ∷ []) _ _ is (w.any_moment told) in
    slot_run d.moment d.left_since d.may_leave _ _ _ _ _ behind (w.writes told).others_crash (c.finish.ensures.any_moment told bodies (body ∷ []) waits)
