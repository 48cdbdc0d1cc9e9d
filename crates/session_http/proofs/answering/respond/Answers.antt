use Rattle.std.proofs.Common.{ℕ, Result, option_map, sym, subst, IfOk, IsErrOf}
use Rattle.std.proofs.lemmas.Result.{IfOk-weaker}
use Rattle.fh_world.specs.Causes.{Rose}
use Rattle.host_seat.specs.declared.port.CommitFault.TheVariants as fault
use Rattle.api_types.specs.declared.route.Route.{Route}
use Rattle.session_rules.specs.Decisions.{decided}
use Rattle.session_rules.specs.Judged.{fault_said}
use Rattle.session_rules.specs.Replies.{text_of}
use Rattle.session_rules.specs.declared.deciding.HeadFault.{HeadFault}
use Rattle.session_http.specs.Points.{Answers, IsStuck, called_as}
use Rattle.session_http.proofs.Callers.{answers_said, misses_still}
use Rattle.session_http.proofs.answering.respond.Goals as goal

pub returns-in-Err-clause-memory : goal.returns-in-Err-clause-memory
returns-in-Err-clause-memory g c content holds err =
    let P = g.P.View in let port = c.args.port.now in
    misses_still P.alone (P.number port) c.args.at (P.seen port) (P.blocks port) (decided (option_map (λ bytes. bytes.now) c.args.arg) content (called_as c.args.call))

pub returns-in-Err-clause-ok : goal.returns-in-Err-clause-ok
returns-in-Err-clause-ok g c content holds =
    let P = g.P.View in let port = c.args.port.now in
    let it = fault_said c.in-Err.fault in
    let A : Result (Route × ℕ) HeadFault → Type 0 = λ call. IfOk c.told.result
    (Answers P.alone (P.number port) c.args.at (P.seen port) (P.seen port) (P.blocks port) (P.blocks port)
    (decided (option_map (λ bytes. bytes.now) c.args.arg) content (called_as call)) c.args.close) in
    subst A (sym c.in-Err.is) (IfOk-weaker c.told.result _ _ (answers_said P.alone (P.number port) c.args.at (P.seen port) (P.blocks port) it c.args.close)
    (c.told.ensures.text (text_of it c.args.close) c.fault_reply.ensures))

pub returns-in-Whole-clause-ok : goal.returns-in-Whole-clause-ok
returns-in-Whole-clause-ok g c content holds =
    let P = g.P.View in let port = c.args.port.now in let new = c.carry_out.new.port in
    let D : Result (Route × ℕ) HeadFault → Type 0 = λ call. IfOk c.carry_out.result (λ answered.
    Answers P.alone (P.number port) c.args.at (P.seen port) (P.seen new) (P.blocks port) (P.blocks new)
    (decided (option_map (λ bytes. bytes.now) c.args.arg) content (called_as call)) c.args.close answered) in
    subst D (sym c.in-Ok.is) (c.carry_out.ensures.ok content (sym (rw c.in-Whole.is at holds)))

pub returns-in-Whole-clause-disk : goal.returns-in-Whole-clause-disk
returns-in-Whole-clause-disk g c content holds =
    let P = g.P.View in let port = c.args.port.now in let new = c.carry_out.new.port in
    let D : Result (Route × ℕ) HeadFault → Type 0 = λ call. IsErrOf c.carry_out.result fault.Disk
    → IsStuck P.alone (P.number port) c.args.at (P.seen port) (P.seen new) (P.blocks port) (P.blocks new) (P.waits port) (P.waits new)
    (decided (option_map (λ bytes. bytes.now) c.args.arg) content (called_as call)) × Rose (P.faults port) (P.faults new) in
    subst D (sym c.in-Ok.is) (c.carry_out.ensures.disk content (sym (rw c.in-Whole.is at holds)))

pub returns-in-Large-2-clause-memory : goal.returns-in-Large-2-clause-memory
returns-in-Large-2-clause-memory g c content holds err =
    let P = g.P.View in let port = c.args.port.now in
    misses_still P.alone (P.number port) c.args.at (P.seen port) (P.blocks port) (decided (option_map (λ bytes. bytes.now) c.args.arg) content (called_as c.args.call))

pub returns-in-Gone-clause-memory : goal.returns-in-Gone-clause-memory
returns-in-Gone-clause-memory g c content holds err =
    let P = g.P.View in let port = c.args.port.now in
    misses_still P.alone (P.number port) c.args.at (P.seen port) (P.blocks port) (decided (option_map (λ bytes. bytes.now) c.args.arg) content (called_as c.args.call))
