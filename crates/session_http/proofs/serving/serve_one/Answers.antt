use Rattle.session_http.specs.Talk.{moment, terms}
use Rattle.session_http.proofs.Serves.{serve_stopped}
use Rattle.session_http.proofs.serving.serve_one.Goals as goal

pub returns-in-Err-clause-err : goal.returns-in-Err-clause-err
returns-in-Err-clause-err g c =
    let P = g.P.View in let S = g.S.Source in let K = g.K.Sink in
    let conn = c.args.conn.now in
    let read = c.receive.new.conn in
    serve_stopped c.in-Err.end (terms P.alone (g.C.Clock.second c.args.clock.now) c.args.admin.now)
    (moment P S K c.args.port.now conn.source conn.sink conn.answered conn.reader.held)
    (moment P S K c.receive.new.port read.source read.sink read.answered read.reader.held) c.in-Err.ensures.err c.requires.few

pub answer-requires-clause-held : goal.answer-requires-clause-held
answer-requires-clause-held g c =
    let hears = c.in-Ok.ensures.ok.hears in
    (hears.asked.content, hears.holds)

pub returns-in-Ok-answer-clause-ok : goal.returns-in-Ok-answer-clause-ok
returns-in-Ok-answer-clause-ok g c =
    let conn = c.args.conn.now in
    let before = moment g.P.View g.S.Source g.K.Sink c.args.port.now conn.source conn.sink conn.answered conn.reader.held in
    c.in-Ok-answer.ensures.served (g.C.Clock.second c.args.clock.now) c.args.admin.now before c.in-Ok.ensures.timed c.in-Ok.ensures.ok.hears

pub returns-clause-err : goal.returns-clause-err
returns-clause-err g c =
    let conn = c.args.conn.now in
    let before = moment g.P.View g.S.Source g.K.Sink c.args.port.now conn.source conn.sink conn.answered conn.reader.held in
    c.in-Err-answer.ensures.served (g.C.Clock.second c.args.clock.now) c.args.admin.now before c.in-Ok.ensures.timed c.in-Ok.ensures.ok.hears
