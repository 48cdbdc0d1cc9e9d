use Rattle.std.proofs.Common.{◌∙◌, sym}
use Rattle.std.proofs.lemmas.Result.{IfOk-weaker}
use Rattle.session_rules.specs.Decisions.{loads}
use Rattle.session_rules.specs.Replies.{answered, text_of}
use Rattle.session_http.proofs.Callers.{acts_not_loaded, answers_file, answers_text}
use Rattle.session_http.proofs.answering.load.Goals as goal

pub returns-in-Ok-Answered-clause-ok : goal.returns-in-Ok-Answered-clause-ok
returns-in-Ok-Answered-clause-ok g c seat at =
    let P = g.P.View in let old = c.args.port.now in let new = c.find_load.new.port in
    let path = c.args.path.now in let answer = c.in-Ok-Answered.answer in
    IfOk-weaker c.tell.result _ _
    (answers_text P.alone seat at (P.seen old) (P.seen new) (P.blocks old) (P.blocks new) (loads c.args.user path) c.args.close (text_of (answered answer) c.args.close)
    (λ text told. acts_not_loaded P.alone seat at (P.seen old) (P.seen new) (P.blocks old) (P.blocks new) c.args.user path c.args.close
    c.find_load.ensures.point c.find_load.ensures.blocks text answer (sym c.in-Ok-Answered.field-0-is ∙ c.in-Ok-Answered.ensures.load) told))
    c.tell.ensures.text

pub returns-in-Ok-File-clause-ok : goal.returns-in-Ok-File-clause-ok
returns-in-Ok-File-clause-ok g c seat at =
    let P = g.P.View in let old = c.args.port.now in let new = c.find_load.new.port in
    let names = c.in-Ok-File.names in let meta = c.in-Ok-File.meta in
    let file = c.in-Ok-File.ensures.file names meta c.in-Ok-File.field-0-is in
    IfOk-weaker c.head_of_file.result _ _
    (λ answered head. answers_file P.alone seat at (P.seen old) (P.seen new) (P.blocks old) (P.blocks new) c.args.user c.args.path.now c.args.close
    c.find_load.ensures.point c.find_load.ensures.blocks answered names meta (sym c.in-Ok-File.field-0-is ∙ c.in-Ok-File.ensures.load) file.0 file.1 head)
    c.head_of_file.ensures.file
