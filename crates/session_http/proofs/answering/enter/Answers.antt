use Rattle.std.proofs.Common.{◌∙◌, ap}
use Rattle.std.proofs.lemmas.Result.{IfOk-weaker}
use Rattle.session_rules.specs.Decisions.{enters}
use Rattle.session_rules.specs.Replies.{answered, text_of}
use Rattle.session_http.proofs.Callers.{acts_entered, answers_text, misses_entered}
use Rattle.session_http.proofs.answering.enter.Goals as goal

pub returns-in-Ok-clause-memory : goal.returns-in-Ok-clause-memory
returns-in-Ok-clause-memory g c _ =
    let P = g.P.View in let old = c.args.port.now in let new = c.commit.new.port in
    let entered = c.in-Ok.ensures.point in
    misses_entered P.alone (P.number old) c.args.at (P.seen old) (P.seen new) (P.blocks old) (P.blocks new)
    c.args.act c.args.bytes.now entered.0 entered.1 c.in-Ok.ensures.stored c.commit.ensures.below

pub returns-in-Ok-clause-ok : goal.returns-in-Ok-clause-ok
returns-in-Ok-clause-ok g c =
    let P = g.P.View in let old = c.args.port.now in let new = c.commit.new.port in
    let entered = c.in-Ok.ensures.point in
    IfOk-weaker c.tell.result _ _
    (answers_text P.alone (P.number old) c.args.at (P.seen old) (P.seen new) (P.blocks old) (P.blocks new) (enters c.args.act c.args.bytes.now) c.args.close
    (text_of (answered c.in-Ok.answer) c.args.close)
    (λ text told. acts_entered P.alone (P.number old) c.args.at (P.seen old) (P.seen new) (P.blocks old) (P.blocks new)
    c.args.act c.args.bytes.now entered.0 entered.1 c.in-Ok.ensures.stored c.commit.ensures.below c.args.close text
    (told ∙ ap (λ a. text_of (answered a) c.args.close) entered.2)))
    c.tell.ensures.text
