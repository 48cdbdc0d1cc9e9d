use Rattle.std.proofs.Common.{ℕ, List, [], not, refl, sym, ◌∙◌, ap, subst, arith}
use Rattle.session_http.specs.Talk.{moment, terms}
use Rattle.session_http.proofs.Serves.{SoFar, serve_full, serve_last, serve_spent, served_on, so_far_on, so_far_starts}
use Rattle.session_http.proofs.serving.serve_conn.Goals as goal

pub requests-init : goal.requests-init
requests-init g c =
    let P = g.P.View in let S = g.S.Source in let K = g.K.Sink in
    let t = terms P.alone (g.C.Clock.second c.args.clock.now) c.args.admin.now in
    let conn = c.args.conn.now in
    let before = moment P S K c.args.port.now conn.source conn.sink 0 [] in
    let Q : ℕ → Type 0 = λ n. SoFar t before (moment P S K c.args.port.now conn.source conn.sink n []) in
    let R : List ℕ → Type 0 = λ l. SoFar t before (moment P S K c.args.port.now conn.source conn.sink conn.answered l) in
    record {
      so_far = subst R (sym c.requires.unread.unread) (subst Q (sym c.requires.unread.none) (so_far_starts t before));
      between = c.requires.unread.between;
      few = omega (arith, c.requires.unread.none);
      port_faults = refl;
      went = g.met.P.View.nothing c.args.port.now;
      source_place = refl;
      sink_place = refl;
      source_faults = refl;
      sink_faults = refl;
      second = refl;
    }

pub requests-preserved : goal.requests-preserved
requests-preserved g c =
    let P = g.P.View in let S = g.S.Source in let K = g.K.Sink in
    let t = terms P.alone (g.C.Clock.second c.args.clock.now) c.args.admin.now in
    let conn = c.requests.conn in
    let before = moment P S K c.args.port.now c.args.conn.now.source c.args.conn.now.sink 0 [] in
    let mid = moment P S K c.requests.port conn.source conn.sink conn.answered conn.reader.held in
    let served = c.serve_one.new.conn in
    let now = moment P S K c.serve_one.new.port served.source served.sink served.answered served.reader.held in
    let so_far = c.requests.invariant in
    let told = c.in-Ok-true.ensures in
    let one = rw so_far.second at told.ok in
    record {
      so_far = so_far_on t before mid now so_far.so_far one.turn one.turned told.counted (one.asked ∙ ap not c.in-Ok-true.field-0-test);
      between = told.between;
      few = omega (arith, told.counted, c.requests-test.true);
      port_faults = told.disk_told ∙ so_far.port_faults;
      went = g.met.P.View.on c.args.port.now c.requests.port c.serve_one.new.port so_far.went told.went;
      source_place = told.source_place ∙ so_far.source_place;
      sink_place = told.sink_place ∙ so_far.sink_place;
      source_faults = told.read_told ∙ so_far.source_faults;
      sink_faults = told.write_told ∙ so_far.sink_faults;
      second = told.second ∙ so_far.second;
    }

pub returns-in-Ok-false-clause-served : goal.returns-in-Ok-false-clause-served
returns-in-Ok-false-clause-served g c =
    let P = g.P.View in let S = g.S.Source in let K = g.K.Sink in
    let t = terms P.alone (g.C.Clock.second c.args.clock.now) c.args.admin.now in
    let conn = c.requests.conn in
    let before = moment P S K c.args.port.now c.args.conn.now.source c.args.conn.now.sink 0 [] in
    let mid = moment P S K c.requests.port conn.source conn.sink conn.answered conn.reader.held in
    let served = c.serve_one.new.conn in
    let now = moment P S K c.serve_one.new.port served.source served.sink served.answered served.reader.held in
    let one = rw c.requests.invariant.second at c.in-Ok-false.ensures.ok in
    serve_last t before mid now c.requests.invariant.so_far one.turn one.turned c.in-Ok-false.ensures.counted
    (one.asked ∙ ap not c.in-Ok-false.field-0-test) c.if-conn-lt-REQUESTS_MAX.true

pub returns-in-Ok-false-2-clause-served : goal.returns-in-Ok-false-2-clause-served
returns-in-Ok-false-2-clause-served g c =
    let P = g.P.View in let S = g.S.Source in let K = g.K.Sink in
    let t = terms P.alone (g.C.Clock.second c.args.clock.now) c.args.admin.now in
    let conn = c.requests.conn in
    let before = moment P S K c.args.port.now c.args.conn.now.source c.args.conn.now.sink 0 [] in
    let mid = moment P S K c.requests.port conn.source conn.sink conn.answered conn.reader.held in
    let served = c.serve_one.new.conn in
    let now = moment P S K c.serve_one.new.port served.source served.sink served.answered served.reader.held in
    let one = rw c.requests.invariant.second at c.in-Ok-false.ensures.ok in
    serve_spent t before mid now c.requests.invariant.so_far one.turn one.turned c.in-Ok-false.ensures.counted
    (omega (arith, c.in-Ok-false.ensures.counted, c.requests-test.true, c.if-conn-lt-REQUESTS_MAX.false))

pub returns-in-Err-clause-served : goal.returns-in-Err-clause-served
returns-in-Err-clause-served g c =
    let P = g.P.View in let S = g.S.Source in let K = g.K.Sink in
    let t = terms P.alone (g.C.Clock.second c.args.clock.now) c.args.admin.now in
    let conn = c.requests.conn in
    let before = moment P S K c.args.port.now c.args.conn.now.source c.args.conn.now.sink 0 [] in
    let mid = moment P S K c.requests.port conn.source conn.sink conn.answered conn.reader.held in
    let served = c.serve_one.new.conn in
    let now = moment P S K c.serve_one.new.port served.source served.sink served.answered served.reader.held in
    served_on t before mid now c.requests.invariant.so_far c.in-Err.end (rw c.requests.invariant.second at c.in-Err.ensures.err)

pub returns-clause-served : goal.returns-clause-served
returns-clause-served g c =
    let P = g.P.View in let S = g.S.Source in let K = g.K.Sink in
    let t = terms P.alone (g.C.Clock.second c.args.clock.now) c.args.admin.now in
    let conn = c.requests.conn in
    let before = moment P S K c.args.port.now c.args.conn.now.source c.args.conn.now.sink 0 [] in
    let mid = moment P S K c.requests.port conn.source conn.sink conn.answered conn.reader.held in
    serve_full t before mid c.requests.invariant.so_far (omega (arith, c.requests.invariant.few, c.requests-test.false))

pub returns-in-Ok-false-clause-read_told : goal.returns-in-Ok-false-clause-read_told
returns-in-Ok-false-clause-read_told g c = λ _. c.in-Ok-false.ensures.read_told ∙ c.requests.invariant.source_faults

pub returns-in-Ok-false-2-clause-read_told : goal.returns-in-Ok-false-2-clause-read_told
returns-in-Ok-false-2-clause-read_told g c = λ _. c.in-Ok-false.ensures.read_told ∙ c.requests.invariant.source_faults

pub returns-in-Err-clause-read_told : goal.returns-in-Err-clause-read_told
returns-in-Err-clause-read_told g c = λ other. c.in-Err.ensures.read_told other ∙ c.requests.invariant.source_faults

pub returns-in-Ok-false-clause-write_told : goal.returns-in-Ok-false-clause-write_told
returns-in-Ok-false-clause-write_told g c = λ _. c.in-Ok-false.ensures.write_told ∙ c.requests.invariant.sink_faults

pub returns-in-Ok-false-2-clause-write_told : goal.returns-in-Ok-false-2-clause-write_told
returns-in-Ok-false-2-clause-write_told g c = λ _. c.in-Ok-false.ensures.write_told ∙ c.requests.invariant.sink_faults

pub returns-in-Err-clause-write_told : goal.returns-in-Err-clause-write_told
returns-in-Err-clause-write_told g c = λ other. c.in-Err.ensures.write_told other ∙ c.requests.invariant.sink_faults

pub returns-in-Ok-false-clause-disk_told : goal.returns-in-Ok-false-clause-disk_told
returns-in-Ok-false-clause-disk_told g c = λ _. c.in-Ok-false.ensures.disk_told ∙ c.requests.invariant.port_faults

pub returns-in-Ok-false-2-clause-disk_told : goal.returns-in-Ok-false-2-clause-disk_told
returns-in-Ok-false-2-clause-disk_told g c = λ _. c.in-Ok-false.ensures.disk_told ∙ c.requests.invariant.port_faults

pub returns-in-Err-clause-disk_told : goal.returns-in-Err-clause-disk_told
returns-in-Err-clause-disk_told g c = λ other. c.in-Err.ensures.disk_told other ∙ c.requests.invariant.port_faults
