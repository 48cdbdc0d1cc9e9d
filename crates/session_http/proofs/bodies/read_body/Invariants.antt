use Rattle.std.proofs.Common.{◌≡◌, ◌≤◌, length, vec_capacity}
use Rattle.fh_model.specs.declared.limits.TheConstants.{BLOCK_BYTES}
use Rattle.session_http.specs.Bodies.{BodySoFar}
use Rattle.session_http.proofs.bodies.read_body.Given as goal

abbrev pub invariant-portions : goal.invariant-portions
invariant-portions g l = record {
  so_far : BodySoFar g.S.Source.given g.S.Source.left l.initial.source l.source l.initial.reader.held l.reader.held
      l.initial.reader.state l.reader.state l.keeps (vec_capacity l.initial.buffer) l.body l.buffer.items l.counter;
  room : vec_capacity l.initial.buffer ≤ vec_capacity l.buffer;
  few : length l.buffer.items ≤ BLOCK_BYTES;
  place : g.S.Source.place l.source ≡ g.S.Source.place l.initial.source;
  faults_are : g.S.Source.faults l.source ≡ g.S.Source.faults l.initial.source;
}
