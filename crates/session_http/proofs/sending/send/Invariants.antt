use Rattle.std.proofs.Common.{◌≡◌, take}
use Rattle.fh_model.specs.declared.files.FileMeta.{FileMeta}
use Rattle.fh_model.specs.History.{state_of}
use Rattle.session_http.specs.Sending.{IsVersion, SendsOn}
use Rattle.session_http.proofs.sending.send.Given as goal

abbrev pub invariant-pieces : goal.invariant-pieces
invariant-pieces g l =
    let P = g.P.View in let K = g.K.Sink in
    record {
      sends : (meta : FileMeta) → IsVersion (state_of (P.seen l.fn.port)) meta l.rev l.count
          → SendsOn P.alone (P.seen l.fn.port) (P.seen l.port) (P.blocks l.fn.port) (P.blocks l.port) K.held l.fn.sink l.sink l.head (take l.block meta.pieces);
      waits : P.waits l.port ≡ P.waits l.fn.port;
      number : P.number l.port ≡ P.number l.fn.port;
      port_faults : P.faults l.port ≡ P.faults l.fn.port;
      went : P.went l.fn.port l.port;
      place : K.place l.sink ≡ K.place l.fn.sink;
      sink_faults : K.faults l.sink ≡ K.faults l.fn.sink;
    }
