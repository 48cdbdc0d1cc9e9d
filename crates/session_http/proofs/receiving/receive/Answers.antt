use Rattle.std.proofs.Common.{◌≡◌, ℕ, ◌++◌, ◌∙◌, ap, refl, subst, vec_capacity}
use Rattle.session_rules.specs.Connection.{interim_of}
use Rattle.session_rules.specs.Replies.{bad_request, body_too_large}
use Rattle.session_http.specs.Bodies.{GoneOnlyFor}
use Rattle.session_http.specs.Points.{called_if}
use Rattle.session_http.specs.Talk.{moment, terms}
use Rattle.session_http.proofs.Heard.{hears_all, passes_body, refused_bad, refused_large, not_unread, stops_cut, stops_read}
use Rattle.session_http.proofs.Receives.{beside, stops_said, written}
use Rattle.session_http.proofs.receiving.receive.Goals as goal

pub returns-in-Done-clause-ok : goal.returns-in-Done-clause-ok
returns-in-Done-clause-ok g c =
    let P = g.P.View in let S = g.S.Source in let K = g.K.Sink in
    let t = terms P.alone (g.C.Clock.second c.args.clock.now) c.args.admin.now in
    let conn = c.args.conn.now in
    let begun = c.read_head.new.conn in
    let old = moment P S K c.args.port.now conn.source conn.sink conn.answered conn.reader.held in
    let mid = moment P S K c.read_head.new.port begun.source begun.sink begun.answered begun.reader.held in
    let now = moment P S K c.read_head.new.port c.read_body-end.new.source begun.sink begun.answered c.read_body-end.new.reader.held in
    let body = c.read_body-end.ensures.read in
    let read = body.read in
    let by = beside P S K (g.C.Clock.second c.args.clock.now) c.args.admin.now begun.answered c.read_head.new.port begun.source c.read_body-end.new.source begun.sink
    begun.reader.held c.read_body-end.new.reader.held c.read_body-end.ensures.later in
    let room : vec_capacity c.clear.new.self ≡ vec_capacity conn.buffer = c.clear.ensures.capacity ∙ ap vec_capacity c.read_head.ensures.buffer in
    let gone : GoneOnlyFor c.keeps.result (vec_capacity conn.buffer) c.read_body-end.result.1 body.content =
    subst (λ (n : ℕ). GoneOnlyFor c.keeps.result n c.read_body-end.result.1 body.content) room body.gone in
    hears_all t old mid now (called_if c.in-Ok.opened.call) c.in-Ok.opened.head c.in-Ok.ensures.ok begun.reader.state c.in-Ok.ensures.inside
    read.place read.inside read.fresh read.added body.content read.moves.gave read.moves.took by read.gained
    c.keeps.result (vec_capacity conn.buffer) c.read_body-end.result.1 c.read_body-end.new.buffer.items body.holds gone c.keeps.ensures
    (rw c.in-Done.is at read.came)

pub returns-in-Cut-clause-err : goal.returns-in-Cut-clause-err
returns-in-Cut-clause-err g c =
    let P = g.P.View in let S = g.S.Source in let K = g.K.Sink in
    let t = terms P.alone (g.C.Clock.second c.args.clock.now) c.args.admin.now in
    let conn = c.args.conn.now in
    let begun = c.read_head.new.conn in
    let old = moment P S K c.args.port.now conn.source conn.sink conn.answered conn.reader.held in
    let mid = moment P S K c.read_head.new.port begun.source begun.sink begun.answered begun.reader.held in
    let now = moment P S K c.read_head.new.port c.read_body-end.new.source begun.sink begun.answered c.read_body-end.new.reader.held in
    let body = c.read_body-end.ensures.read in
    let read = body.read in
    let by = beside P S K (g.C.Clock.second c.args.clock.now) c.args.admin.now begun.answered c.read_head.new.port begun.source c.read_body-end.new.source begun.sink
    begun.reader.held c.read_body-end.new.reader.held c.read_body-end.ensures.later in
    stops_cut t old mid now (called_if c.in-Ok.opened.call) c.in-Ok.opened.head c.in-Ok.ensures.ok begun.reader.state c.in-Ok.ensures.inside
    read.place read.inside read.fresh read.added body.content read.moves.gave read.moves.took by read.gained
    (rw c.in-Cut.is at read.came) (rw c.in-Cut.is at read.at_end)

pub returns-in-Bad-clause-err : goal.returns-in-Bad-clause-err
returns-in-Bad-clause-err g c =
    let P = g.P.View in let S = g.S.Source in let K = g.K.Sink in
    let t = terms P.alone (g.C.Clock.second c.args.clock.now) c.args.admin.now in
    let conn = c.args.conn.now in
    let begun = c.read_head.new.conn in
    let old = moment P S K c.args.port.now conn.source conn.sink conn.answered conn.reader.held in
    let mid = moment P S K c.read_head.new.port begun.source begun.sink begun.answered begun.reader.held in
    let now = moment P S K c.read_head.new.port c.read_body-end.new.source begun.sink begun.answered c.read_body-end.new.reader.held in
    let body = c.read_body-end.ensures.read in
    let read = body.read in
    let by = beside P S K (g.C.Clock.second c.args.clock.now) c.args.admin.now begun.answered c.read_head.new.port begun.source c.read_body-end.new.source begun.sink
    begun.reader.held c.read_body-end.new.reader.held c.read_body-end.ensures.later in
    stops_said K.held K.faults begun.sink c.refuse.new.sink now (moment P S K c.read_head.new.port c.read_body-end.new.source c.refuse.new.sink begun.answered c.read_body-end.new.reader.held)
    (written P S K (g.C.Clock.second c.args.clock.now) c.args.admin.now begun.answered c.read_head.new.port c.read_body-end.new.source begun.sink c.refuse.new.sink
    c.read_body-end.new.reader.held c.refuse.ensures.later)
    c.refuse.result t old (c.in-Ok.ensures.ok.bytes ++ read.fresh) (interim_of c.in-Ok.ensures.ok.asked) bad_request
    (passes_body t old mid now (called_if c.in-Ok.opened.call) c.in-Ok.opened.head c.in-Ok.ensures.ok begun.reader.state c.in-Ok.ensures.inside
    read.place read.inside read.fresh read.added body.content read.moves.gave read.moves.took by read.gained)
    (refused_bad t old mid now (called_if c.in-Ok.opened.call) c.in-Ok.opened.head c.in-Ok.ensures.ok begun.reader.state c.in-Ok.ensures.inside
    read.place read.inside read.fresh read.added body.content read.moves.gave read.moves.took by read.gained
    (rw c.in-Bad.is at read.came))
    (c.refuse.ensures.said bad_request c.bad_request_reply.ensures)

pub returns-in-TooLarge-clause-err : goal.returns-in-TooLarge-clause-err
returns-in-TooLarge-clause-err g c =
    let P = g.P.View in let S = g.S.Source in let K = g.K.Sink in
    let t = terms P.alone (g.C.Clock.second c.args.clock.now) c.args.admin.now in
    let conn = c.args.conn.now in
    let begun = c.read_head.new.conn in
    let old = moment P S K c.args.port.now conn.source conn.sink conn.answered conn.reader.held in
    let mid = moment P S K c.read_head.new.port begun.source begun.sink begun.answered begun.reader.held in
    let now = moment P S K c.read_head.new.port c.read_body-end.new.source begun.sink begun.answered c.read_body-end.new.reader.held in
    let body = c.read_body-end.ensures.read in
    let read = body.read in
    let by = beside P S K (g.C.Clock.second c.args.clock.now) c.args.admin.now begun.answered c.read_head.new.port begun.source c.read_body-end.new.source begun.sink
    begun.reader.held c.read_body-end.new.reader.held c.read_body-end.ensures.later in
    stops_said K.held K.faults begun.sink c.refuse-in-TooLarge.new.sink now (moment P S K c.read_head.new.port c.read_body-end.new.source c.refuse-in-TooLarge.new.sink begun.answered c.read_body-end.new.reader.held)
    (written P S K (g.C.Clock.second c.args.clock.now) c.args.admin.now begun.answered c.read_head.new.port c.read_body-end.new.source begun.sink c.refuse-in-TooLarge.new.sink
    c.read_body-end.new.reader.held c.refuse-in-TooLarge.ensures.later)
    c.refuse-in-TooLarge.result t old (c.in-Ok.ensures.ok.bytes ++ read.fresh) (interim_of c.in-Ok.ensures.ok.asked) (body_too_large c.in-Ok.opened.head.target.items)
    (passes_body t old mid now (called_if c.in-Ok.opened.call) c.in-Ok.opened.head c.in-Ok.ensures.ok begun.reader.state c.in-Ok.ensures.inside
    read.place read.inside read.fresh read.added body.content read.moves.gave read.moves.took by read.gained)
    (refused_large t old mid now (called_if c.in-Ok.opened.call) c.in-Ok.opened.head c.in-Ok.ensures.ok begun.reader.state c.in-Ok.ensures.inside
    read.place read.inside read.fresh read.added body.content read.moves.gave read.moves.took by read.gained
    (rw c.in-TooLarge.is at read.came))
    (c.refuse-in-TooLarge.ensures.said (body_too_large c.in-Ok.opened.head.target.items) (rw c.deref.ensures.value at c.body_too_large_reply-reply.ensures))

pub returns-in-ReadFault-clause-err : goal.returns-in-ReadFault-clause-err
returns-in-ReadFault-clause-err g c =
    let P = g.P.View in let S = g.S.Source in let K = g.K.Sink in
    let t = terms P.alone (g.C.Clock.second c.args.clock.now) c.args.admin.now in
    let conn = c.args.conn.now in
    let begun = c.read_head.new.conn in
    let old = moment P S K c.args.port.now conn.source conn.sink conn.answered conn.reader.held in
    let mid = moment P S K c.read_head.new.port begun.source begun.sink begun.answered begun.reader.held in
    let now = moment P S K c.read_head.new.port c.read_body-end.new.source begun.sink begun.answered c.read_body-end.new.reader.held in
    let body = c.read_body-end.ensures.read in
    let read = body.read in
    let by = beside P S K (g.C.Clock.second c.args.clock.now) c.args.admin.now begun.answered c.read_head.new.port begun.source c.read_body-end.new.source begun.sink
    begun.reader.held c.read_body-end.new.reader.held c.read_body-end.ensures.later in
    stops_read t old mid now (called_if c.in-Ok.opened.call) c.in-Ok.opened.head c.in-Ok.ensures.ok begun.reader.state c.in-Ok.ensures.inside
    read.place read.inside read.fresh read.added body.content read.moves.gave read.moves.took by read.gained
    (c.read_body-end.ensures.fault c.in-ReadFault.is)

pub unreachable-requires : goal.unreachable-requires
unreachable-requires g c = c.read_body-end.ensures.memory c.in-NoMemory.is

pub unreachable-requires-in-Unread : goal.unreachable-requires-in-Unread
unreachable-requires-in-Unread g c =
    let P = g.P.View in let S = g.S.Source in let K = g.K.Sink in
    let t = terms P.alone (g.C.Clock.second c.args.clock.now) c.args.admin.now in
    let conn = c.args.conn.now in
    let begun = c.read_head.new.conn in
    let old = moment P S K c.args.port.now conn.source conn.sink conn.answered conn.reader.held in
    let mid = moment P S K c.read_head.new.port begun.source begun.sink begun.answered begun.reader.held in
    let now = moment P S K c.read_head.new.port c.read_body-end.new.source begun.sink begun.answered c.read_body-end.new.reader.held in
    let body = c.read_body-end.ensures.read in
    let read = body.read in
    let by = beside P S K (g.C.Clock.second c.args.clock.now) c.args.admin.now begun.answered c.read_head.new.port begun.source c.read_body-end.new.source begun.sink
    begun.reader.held c.read_body-end.new.reader.held c.read_body-end.ensures.later in
    not_unread t old mid now (called_if c.in-Ok.opened.call) c.in-Ok.opened.head c.in-Ok.ensures.ok begun.reader.state c.in-Ok.ensures.inside
    read.place read.inside read.fresh read.added body.content read.moves.gave read.moves.took by read.gained
    c.read_body-end.new.reader.held (rw c.in-Unread.is at read.came) (body.many c.in-Unread.is)

pub returns-in-Done-clause-read_told : goal.returns-in-Done-clause-read_told
returns-in-Done-clause-read_told g c = c.read_body-end.ensures.told (λ e. let is = c.in-Done.is in cc) ∙ c.in-Ok.ensures.read_told

pub returns-in-Cut-clause-read_told : goal.returns-in-Cut-clause-read_told
returns-in-Cut-clause-read_told g c = λ _. c.read_body-end.ensures.told (λ e. let is = c.in-Cut.is in cc) ∙ c.in-Ok.ensures.read_told

pub returns-in-Bad-clause-read_told : goal.returns-in-Bad-clause-read_told
returns-in-Bad-clause-read_told g c = λ _. c.read_body-end.ensures.told (λ e. let is = c.in-Bad.is in cc) ∙ c.in-Ok.ensures.read_told

pub returns-in-TooLarge-clause-read_told : goal.returns-in-TooLarge-clause-read_told
returns-in-TooLarge-clause-read_told g c = λ _. c.read_body-end.ensures.told (λ e. let is = c.in-TooLarge.is in cc) ∙ c.in-Ok.ensures.read_told

pub returns-in-ReadFault-clause-read_told : goal.returns-in-ReadFault-clause-read_told
returns-in-ReadFault-clause-read_told g c = λ other. absurd (other refl)

pub returns-in-Bad-clause-write_told : goal.returns-in-Bad-clause-write_told
returns-in-Bad-clause-write_told g c = λ other. c.refuse.ensures.told other ∙ c.in-Ok.ensures.write_told

pub returns-in-TooLarge-clause-write_told : goal.returns-in-TooLarge-clause-write_told
returns-in-TooLarge-clause-write_told g c = λ other. c.refuse-in-TooLarge.ensures.told other ∙ c.in-Ok.ensures.write_told
