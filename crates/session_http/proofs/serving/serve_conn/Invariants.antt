use Rattle.std.proofs.Common.{◌≡◌, ◌≤◌, ◌-◌, []}
use Rattle.http_in.specs.declared.place.State.TheVariants.{Between}
use Rattle.session_http.specs.Talk.{terms, moment}
use Rattle.session_http.proofs.Serves.{SoFar}
use Rattle.session_http.proofs.serving.serve_conn.Given as goal

abbrev pub invariant-requests : goal.invariant-requests
invariant-requests g l =
    let P = g.P.View in let S = g.S.Source in let K = g.K.Sink in
    record {
      so_far : SoFar (terms P.alone (g.C.Clock.second l.fn.clock) l.admin) (moment P S K l.fn.port l.fn.conn.source l.fn.conn.sink 0 [])
          (moment P S K l.port l.conn.source l.conn.sink l.conn.answered l.conn.reader.held);
      between : l.conn.reader.state ≡ Between;
      few : l.conn.answered ≤ 1000000;
      port_faults : P.faults l.port ≡ P.faults l.fn.port;
      went : P.went l.fn.port l.port;
      source_place : S.place l.conn.source ≡ S.place l.fn.conn.source;
      sink_place : K.place l.conn.sink ≡ K.place l.fn.conn.sink;
      source_faults : S.faults l.conn.source ≡ S.faults l.fn.conn.source;
      sink_faults : K.faults l.conn.sink ≡ K.faults l.fn.conn.sink;
      second : g.C.Clock.second l.clock ≡ g.C.Clock.second l.fn.clock;
    }

abbrev pub decreases-requests : goal.decreases-requests
decreases-requests g l = 1000000 - l.conn.answered
