use Rattle.std.proofs.Common.{refl, ◌∙◌}
use Rattle.session_http.proofs.Sends.{breaks_fetch, breaks_head, breaks_write, has_block, sends_head, sends_on}
use Rattle.session_http.proofs.sending.send.Goals as goal

pub returns-in-Err-clause-err : goal.returns-in-Err-clause-err
returns-in-Err-clause-err g c =
    let P = g.P.View in let K = g.K.Sink in
    let port = c.args.port.now in
    λ meta is. breaks_head K.held K.faults P.alone (P.seen port) (P.blocks port) c.args.sink.now c.write.new.sink c.args.head.now meta.pieces
    c.in-Err.end c.in-Err.ensures.end c.in-Err.ensures.err

pub pieces-init : goal.pieces-init
pieces-init g c =
    let P = g.P.View in let K = g.K.Sink in
    let port = c.args.port.now in
    record {
      sends = λ meta is. sends_head K.held P.alone (P.seen port) (P.blocks port) c.args.sink.now c.write.new.sink c.args.head.now meta.pieces c.in-Ok.ensures.ok;
      waits = refl;
      number = refl;
      port_faults = refl;
      went = g.met.P.View.nothing port;
      place = c.write.ensures.place;
      sink_faults = c.in-Ok.ensures.told;
    }

pub fetch-requires : goal.fetch-requires
fetch-requires g c =
    let P = g.P.View in
    let version = c.requires.version in
    let so = c.pieces.invariant.sends version.0 version.1 in
    has_block (P.seen c.args.port.now) (P.seen c.pieces.port) so.fetches.others version.0 c.args.rev c.args.count c.pieces.block so.fetches.grown version.1 c.pieces-test.true

pub returns-in-Err-fetch-clause-err : goal.returns-in-Err-fetch-clause-err
returns-in-Err-fetch-clause-err g c =
    let P = g.P.View in let K = g.K.Sink in
    let old = c.args.port.now in
    let mid = c.pieces.port in
    let new = c.fetch.new.port in
    λ meta is. breaks_fetch K.held P.alone (P.seen old) (P.seen mid) (P.seen new) (P.blocks old) (P.blocks mid) (P.blocks new) c.args.sink.now c.pieces.sink c.args.head.now
    meta c.args.rev c.args.count c.pieces.block is (c.pieces.invariant.sends meta is) c.fetch.ensures.point c.fetch.ensures.below
    c.in-Err-fetch.end c.pieces-test.true

pub returns-in-Err-write-clause-err : goal.returns-in-Err-write-clause-err
returns-in-Err-write-clause-err g c =
    let P = g.P.View in let K = g.K.Sink in
    let old = c.args.port.now in
    let mid = c.pieces.port in
    let new = c.fetch.new.port in
    let broken = rw c.deref.ensures.value at c.in-Err-write.ensures.err in
    λ meta is. breaks_write K.held P.alone (P.seen old) (P.seen mid) (P.seen new) (P.blocks old) (P.blocks mid) (P.blocks new) c.args.sink.now c.pieces.sink c.args.head.now
    meta c.args.rev c.args.count c.pieces.block is (c.pieces.invariant.sends meta is) c.fetch.ensures.point c.fetch.ensures.below
    c.write-in-pieces.new.sink c.in-Ok-fetch.bytes.items c.in-Ok-fetch.ensures.bytes K.faults c.in-Err-write.end c.in-Err-write.ensures.end broken

pub pieces-preserved : goal.pieces-preserved
pieces-preserved g c =
    let P = g.P.View in let K = g.K.Sink in
    let old = c.args.port.now in
    let mid = c.pieces.port in
    let new = c.fetch.new.port in
    let so = c.pieces.invariant in
    let wrote = rw c.deref.ensures.value at c.in-Ok-write.ensures.ok in
    rw c.give_back.ensures (record {
      sends = λ meta is. sends_on K.held P.alone (P.seen old) (P.seen mid) (P.seen new) (P.blocks old) (P.blocks mid) (P.blocks new) c.args.sink.now c.pieces.sink c.args.head.now
          meta c.args.rev c.args.count c.pieces.block is (so.sends meta is) c.fetch.ensures.point c.fetch.ensures.below
          c.write-in-pieces.new.sink c.in-Ok-fetch.bytes.items c.in-Ok-fetch.ensures.bytes wrote;
      waits = c.fetch.ensures.waits ∙ so.waits;
      number = c.fetch.ensures.number ∙ so.number;
      port_faults = c.in-Ok-fetch.ensures.told ∙ so.port_faults;
      went = g.met.P.View.on old mid new so.went c.fetch.ensures.went;
      place = c.write-in-pieces.ensures.place ∙ so.place;
      sink_faults = c.in-Ok-write.ensures.told ∙ so.sink_faults;
    })

pub returns-in-Err-fetch-clause-disk_told : goal.returns-in-Err-fetch-clause-disk_told
returns-in-Err-fetch-clause-disk_told g c = λ other. c.in-Err-fetch.ensures.told other ∙ c.pieces.invariant.port_faults

pub returns-in-Err-write-clause-disk_told : goal.returns-in-Err-write-clause-disk_told
returns-in-Err-write-clause-disk_told g c = λ _. c.in-Ok-fetch.ensures.told ∙ c.pieces.invariant.port_faults

pub returns-in-Err-write-clause-write_told : goal.returns-in-Err-write-clause-write_told
returns-in-Err-write-clause-write_told g c = λ other. c.in-Err-write.ensures.told other ∙ c.pieces.invariant.sink_faults
