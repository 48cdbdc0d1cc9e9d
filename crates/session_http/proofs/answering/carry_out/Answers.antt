use Rattle.std.proofs.Common.{option_map, sym, subst, IfOk}
use Rattle.std.proofs.lemmas.Result.{IfOk-weaker}
use Rattle.session_rules.specs.Decisions.{Decision, argued}
use Rattle.session_rules.specs.Replies.{answered, plain, text_of}
use Rattle.session_http.specs.Points.{Answers, Misses}
use Rattle.session_http.proofs.Callers.{answers_said, misses_still}
use Rattle.session_http.proofs.answering.carry_out.Goals as goal

pub returns-in-Err-clause-memory : goal.returns-in-Err-clause-memory
returns-in-Err-clause-memory g c content is err =
    let P = g.P.View in let port = c.args.port.now in
    misses_still P.alone (P.number port) c.args.at (P.seen port) (P.blocks port)
    (argued c.args.caller.0 c.args.caller.1 (option_map (λ bytes. bytes.now) c.args.arg) content)

pub returns-in-Ok-Refused-clause-ok : goal.returns-in-Ok-Refused-clause-ok
returns-in-Ok-Refused-clause-ok g c content is =
    let P = g.P.View in let old = c.args.port.now in
    let A : Decision → Type 0 = λ d. IfOk c.told.result (Answers P.alone (P.number old) c.args.at (P.seen old) (P.seen old) (P.blocks old) (P.blocks old) d c.args.close) in
    let it = plain 400 c.in-Ok-Refused.text.items in
    subst A (sym (rw c.in-Ok-Refused.field-0-is at c.in-Ok-Refused.ensures.decision content is))
    (IfOk-weaker c.told.result _ _ (answers_said P.alone (P.number old) c.args.at (P.seen old) (P.blocks old) it c.args.close)
    (c.told.ensures.text (text_of it c.args.close) (rw c.deref.ensures.value at c.complaint_reply.ensures)))

pub returns-in-Ok-Refused-clause-memory : goal.returns-in-Ok-Refused-clause-memory
returns-in-Ok-Refused-clause-memory g c content is err =
    let P = g.P.View in let port = c.args.port.now in
    misses_still P.alone (P.number port) c.args.at (P.seen port) (P.blocks port)
    (argued c.args.caller.0 c.args.caller.1 (option_map (λ bytes. bytes.now) c.args.arg) content)

pub returns-in-Ok-Answered-clause-ok : goal.returns-in-Ok-Answered-clause-ok
returns-in-Ok-Answered-clause-ok g c content is =
    let P = g.P.View in let old = c.args.port.now in
    let A : Decision → Type 0 = λ d. IfOk c.tell.result (Answers P.alone (P.number old) c.args.at (P.seen old) (P.seen old) (P.blocks old) (P.blocks old) d c.args.close) in
    let it = answered c.in-Ok-Answered.answer in
    subst A (sym (rw c.in-Ok-Answered.field-0-is at c.in-Ok-Answered.ensures.decision content is))
    (IfOk-weaker c.tell.result _ _ (answers_said P.alone (P.number old) c.args.at (P.seen old) (P.blocks old) it c.args.close)
    c.tell.ensures.text)

pub returns-in-Ok-Answered-clause-memory : goal.returns-in-Ok-Answered-clause-memory
returns-in-Ok-Answered-clause-memory g c content is err =
    let P = g.P.View in let port = c.args.port.now in
    misses_still P.alone (P.number port) c.args.at (P.seen port) (P.blocks port)
    (argued c.args.caller.0 c.args.caller.1 (option_map (λ bytes. bytes.now) c.args.arg) content)

pub returns-in-Ok-Look-clause-ok : goal.returns-in-Ok-Look-clause-ok
returns-in-Ok-Look-clause-ok g c content is =
    let P = g.P.View in let old = c.args.port.now in let new = c.look.new.port in
    let A : Decision → Type 0 = λ d. IfOk c.look.result (Answers P.alone (P.number old) c.args.at (P.seen old) (P.seen new) (P.blocks old) (P.blocks new) d c.args.close) in
    subst A (sym (rw c.in-Ok-Look.field-0-is at c.in-Ok-Look.ensures.decision content is)) (c.look.ensures.ok (P.number old) c.args.at)

pub returns-in-Ok-Look-clause-memory : goal.returns-in-Ok-Look-clause-memory
returns-in-Ok-Look-clause-memory g c content is err =
    let P = g.P.View in let old = c.args.port.now in let new = c.look.new.port in
    let M : Decision → Type 0 = λ d. Misses P.alone (P.number old) c.args.at (P.seen old) (P.seen new) (P.blocks old) (P.blocks new) d in
    subst M (sym (rw c.in-Ok-Look.field-0-is at c.in-Ok-Look.ensures.decision content is)) (c.look.ensures.memory (P.number old) c.args.at err)

pub returns-in-Ok-Load-clause-ok : goal.returns-in-Ok-Load-clause-ok
returns-in-Ok-Load-clause-ok g c content is =
    let P = g.P.View in let old = c.args.port.now in let new = c.load.new.port in
    let A : Decision → Type 0 = λ d. IfOk c.load.result (Answers P.alone (P.number old) c.args.at (P.seen old) (P.seen new) (P.blocks old) (P.blocks new) d c.args.close) in
    subst A (sym (rw c.in-Ok-Load.field-0-is at c.in-Ok-Load.ensures.decision content is)) (c.load.ensures.ok (P.number old) c.args.at)

pub returns-in-Ok-Load-clause-memory : goal.returns-in-Ok-Load-clause-memory
returns-in-Ok-Load-clause-memory g c content is err =
    let P = g.P.View in let old = c.args.port.now in let new = c.load.new.port in
    let M : Decision → Type 0 = λ d. Misses P.alone (P.number old) c.args.at (P.seen old) (P.seen new) (P.blocks old) (P.blocks new) d in
    subst M (sym (rw c.in-Ok-Load.field-0-is at c.in-Ok-Load.ensures.decision content is)) (c.load.ensures.memory (P.number old) c.args.at err)
