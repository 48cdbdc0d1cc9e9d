use Rattle.std.proofs.lemmas.Result.{IfOk-weaker}
use Rattle.session_rules.specs.Decisions.{looks}
use Rattle.session_rules.specs.Replies.{answered, text_of}
use Rattle.session_http.proofs.Callers.{acts_looked, answers_text}
use Rattle.session_http.proofs.answering.look.Goals as goal

pub returns-in-Ok-clause-ok : goal.returns-in-Ok-clause-ok
returns-in-Ok-clause-ok g c seat at =
    let P = g.P.View in let old = c.args.port.now in let new = c.find_answer.new.port in
    let path = c.args.path.now in let answer = c.in-Ok.answer in
    IfOk-weaker c.tell.result _ _
    (answers_text P.alone seat at (P.seen old) (P.seen new) (P.blocks old) (P.blocks new) (looks c.args.user path) c.args.close (text_of (answered answer) c.args.close)
    (λ text told. acts_looked P.alone seat at (P.seen old) (P.seen new) (P.blocks old) (P.blocks new) c.args.user path c.args.close
    c.find_answer.ensures.point c.find_answer.ensures.blocks text answer c.in-Ok.ensures.answer told))
    c.tell.ensures.text
