use Rattle.std.proofs.Common.{refl, subst, sym}
use Rattle.session_rules.specs.Replies.{bad_request, head_too_large}
use Rattle.session_http.specs.Points.{called_if}
use Rattle.session_http.specs.Steps.{Stops}
use Rattle.session_http.specs.Talk.{moment, terms}
use Rattle.session_http.specs.declared.conn.ConnEnd.{ConnEnd}
use Rattle.session_http.proofs.Receives.{opens_by, stops_bad, stops_cut, stops_end, stops_greeted, stops_large, stops_memory, stops_read}
use Rattle.session_http.proofs.receiving.read_head.Goals as goal

pub returns-in-End-clause-err : goal.returns-in-End-clause-err
returns-in-End-clause-err g c =
    let conn = c.args.conn.now in
    stops_end g.P.View g.S.Source g.K.Sink (g.C.Clock.second c.args.clock.now) c.args.admin.now conn.answered c.args.port.now conn.source c.next.new.source
    conn.sink conn.reader.held c.next.new.self.held c.in-End.ensures.step c.in-End.ensures.later

pub returns-in-Cut-clause-err : goal.returns-in-Cut-clause-err
returns-in-Cut-clause-err g c =
    let conn = c.args.conn.now in
    stops_cut g.P.View g.S.Source g.K.Sink (g.C.Clock.second c.args.clock.now) c.args.admin.now conn.answered c.args.port.now conn.source c.next.new.source
    conn.sink conn.reader.held c.next.new.self.held c.in-Cut.ensures.step c.in-Cut.ensures.later

pub returns-in-Bad-clause-err : goal.returns-in-Bad-clause-err
returns-in-Bad-clause-err g c =
    let conn = c.args.conn.now in
    stops_bad g.P.View g.S.Source g.K.Sink (g.C.Clock.second c.args.clock.now) c.args.admin.now conn.answered c.refuse.result c.args.port.now conn.source c.next.new.source
    conn.sink c.refuse.new.sink conn.reader.held c.next.new.self.held c.in-Bad.ensures.step c.in-Bad.ensures.later c.refuse.ensures.later
    (c.refuse.ensures.said bad_request c.bad_request_reply.ensures)

pub returns-in-HeadTooLarge-clause-err : goal.returns-in-HeadTooLarge-clause-err
returns-in-HeadTooLarge-clause-err g c =
    let conn = c.args.conn.now in
    stops_large g.P.View g.S.Source g.K.Sink (g.C.Clock.second c.args.clock.now) c.args.admin.now conn.answered c.refuse-in-HeadTooLarge.result c.args.port.now conn.source c.next.new.source
    conn.sink c.refuse-in-HeadTooLarge.new.sink conn.reader.held c.next.new.self.held c.in-HeadTooLarge.ensures.step c.in-HeadTooLarge.ensures.later c.refuse-in-HeadTooLarge.ensures.later
    (c.refuse-in-HeadTooLarge.ensures.said head_too_large c.head_too_large_reply.ensures)

pub returns-in-ReadFault-clause-err : goal.returns-in-ReadFault-clause-err
returns-in-ReadFault-clause-err g c =
    let conn = c.args.conn.now in
    stops_read g.P.View g.S.Source g.K.Sink (g.C.Clock.second c.args.clock.now) c.args.admin.now conn.answered c.args.port.now conn.source c.next.new.source
    conn.sink conn.reader.held c.next.new.self.held c.in-ReadFault.ensures.step c.in-ReadFault.ensures.later (c.in-ReadFault.ensures.fault refl)

pub returns-in-NoMemory-clause-err : goal.returns-in-NoMemory-clause-err
returns-in-NoMemory-clause-err g c =
    let conn = c.args.conn.now in
    stops_memory g.P.View g.S.Source g.K.Sink (g.C.Clock.second c.args.clock.now) c.args.admin.now conn.answered c.args.port.now conn.source c.next.new.source
    conn.sink conn.reader.held c.next.new.self.held c.in-NoMemory.ensures.step c.in-NoMemory.ensures.later

pub returns-in-Ok-clause-ok : goal.returns-in-Ok-clause-ok
returns-in-Ok-clause-ok g c =
    let conn = c.args.conn.now in
    let caller = c.find_caller-call.ensures in
    opens_by g.P.View g.S.Source g.K.Sink (g.C.Clock.second c.args.clock.now) c.args.admin.now conn.answered c.args.port.now c.find_caller-call.new.port
    conn.source c.next.new.source conn.sink c.greet.new.sink conn.reader.held c.next.new.self.held c.in-Head.head (called_if c.find_caller-call.result)
    c.in-Head.ensures.step c.in-Head.ensures.later caller.calls caller.waits caller.blocks caller.number caller.faults c.in-Ok.ensures.later c.in-Ok.ensures.ok

pub returns-in-Err-clause-err : goal.returns-in-Err-clause-err
returns-in-Err-clause-err g c =
    let P = g.P.View in let S = g.S.Source in let K = g.K.Sink in
    let conn = c.args.conn.now in
    let caller = c.find_caller-call.ensures in
    let old = moment P S K c.args.port.now conn.source conn.sink conn.answered conn.reader.held in
    let new = moment P S K c.find_caller-call.new.port c.next.new.source c.greet.new.sink conn.answered c.next.new.self.held in
    let Q : ConnEnd → Type 0 = λ end. Stops (terms P.alone (g.C.Clock.second c.args.clock.now) c.args.admin.now) old new end in
    subst Q (sym c.in-Err.ensures.end)
    (stops_greeted P S K (g.C.Clock.second c.args.clock.now) c.args.admin.now conn.answered c.args.port.now c.find_caller-call.new.port
    conn.source c.next.new.source conn.sink c.greet.new.sink conn.reader.held c.next.new.self.held c.in-Head.head (called_if c.find_caller-call.result)
    c.in-Head.ensures.step c.in-Head.ensures.later caller.calls caller.waits caller.blocks caller.number caller.faults c.in-Err.ensures.later
    c.in-Err.ensures.err.0 c.in-Err.ensures.err.1)

pub returns-in-End-clause-read_told : goal.returns-in-End-clause-read_told
returns-in-End-clause-read_told g c = λ _. c.in-End.ensures.told (λ e. cc)

pub returns-in-Cut-clause-read_told : goal.returns-in-Cut-clause-read_told
returns-in-Cut-clause-read_told g c = λ _. c.in-Cut.ensures.told (λ e. cc)

pub returns-in-Bad-clause-read_told : goal.returns-in-Bad-clause-read_told
returns-in-Bad-clause-read_told g c = λ _. c.in-Bad.ensures.told (λ e. cc)

pub returns-in-HeadTooLarge-clause-read_told : goal.returns-in-HeadTooLarge-clause-read_told
returns-in-HeadTooLarge-clause-read_told g c = λ _. c.in-HeadTooLarge.ensures.told (λ e. cc)

pub returns-in-NoMemory-clause-read_told : goal.returns-in-NoMemory-clause-read_told
returns-in-NoMemory-clause-read_told g c = λ _. c.in-NoMemory.ensures.told (λ e. cc)

pub returns-in-ReadFault-clause-read_told : goal.returns-in-ReadFault-clause-read_told
returns-in-ReadFault-clause-read_told g c = λ other. absurd (other refl)

pub returns-in-Ok-clause-read_told : goal.returns-in-Ok-clause-read_told
returns-in-Ok-clause-read_told g c = c.in-Head.ensures.told (λ e. cc)

pub returns-in-Err-clause-read_told : goal.returns-in-Err-clause-read_told
returns-in-Err-clause-read_told g c = λ _. c.in-Head.ensures.told (λ e. cc)
