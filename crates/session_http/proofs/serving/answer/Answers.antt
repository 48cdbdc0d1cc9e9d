use Rattle.std.proofs.Common.{refl, option_map, Some, None, Err, ◌+◌, ◌∙◌, inl, ap}
use Rattle.fh_model.specs.History.{state_of}
use Rattle.session_rules.specs.Replies.{out_of_memory, text_of}
use Rattle.session_http.specs.Points.{called_as}
use Rattle.session_http.specs.Sending.{IsVersion}
use Rattle.session_http.specs.Talk.{moment, terms}
use Rattle.session_http.proofs.Ones.{Stays, leaves_same}
use Rattle.session_http.proofs.Receives.{at_most_self}
use Rattle.session_http.proofs.Talks.{at_most}
use Rattle.session_http.proofs.Tells.{OfSink, closing, few_before, memory_is_no_disk, serve_stuck, serves_by, serves_content, whole_acts, whole_misses, whole_nothing}
use Rattle.session_http.proofs.serving.answer.Goals as goal

pub returns-in-Err-clause-served : goal.returns-in-Err-clause-served
returns-in-Err-clause-served g c second admin before timed hears =
    let P = g.P.View in let S = g.S.Source in let K = g.K.Sink in
    let t = terms P.alone second admin in
    let port = c.args.port.now in let conn = c.args.conn.now in let told = c.args.heard.now in
    let mid = moment P S K port conn.source conn.sink conn.answered conn.reader.held in
    let arg = option_map (λ bytes. bytes.items) told.arg in
    let kept = conn.buffer.items in
    let close = c.is_last-close.result in
    let now = moment P S K port conn.source c.write.new.sink (conn.answered + 1) conn.reader.held in
    let of : OfSink K.held K.faults conn.sink c.write.new.sink mid now = record { held_old = refl; held_new = refl; faults_old = refl; faults_new = refl } in
    let h = rw c.in-Err.is at hears in
    let stays : Stays mid now = record {
      given = refl;
      left = refl;
      read_faults = refl;
      unread = refl;
      number = refl;
      waits = inl refl;
      port_later = at_most_self (P.faults port);
      write_later = c.write.ensures.later;
    } in
    let closes = closing t before mid now None told.last arg told.body kept h close (conn.answered + 1) refl c.is_last-close.ensures in
    serves_by t before mid now None told.last arg told.body kept h K.held K.faults conn.sink c.write.new.sink of stays (text_of out_of_memory close)
    (whole_nothing t before mid now None told.last arg told.body kept h told.at timed refl refl close closes) c.requires.few c.write.result
    (rw c.out_of_memory.ensures at c.write.ensures.ok) (rw c.out_of_memory.ensures at c.write.ensures.err) c.write.ensures.end

pub returns-in-Ok-Text-clause-served : goal.returns-in-Ok-Text-clause-served
returns-in-Ok-Text-clause-served g c second admin before timed hears =
    let P = g.P.View in let S = g.S.Source in let K = g.K.Sink in
    let t = terms P.alone second admin in
    let port = c.args.port.now in let conn = c.args.conn.now in let told = c.args.heard.now in
    let mid = moment P S K port conn.source conn.sink conn.answered conn.reader.held in
    let arg = option_map (λ bytes. bytes.items) told.arg in
    let kept = conn.buffer.items in
    let close = c.is_last-close.result in
    let now = moment P S K c.respond.new.port conn.source c.write-in-Ok-Text.new.sink (conn.answered + 1) conn.reader.held in
    let of : OfSink K.held K.faults conn.sink c.write-in-Ok-Text.new.sink mid now = record { held_old = refl; held_new = refl; faults_old = refl; faults_new = refl } in
    let h = rw c.in-Ok.is at hears in
    let it = called_as c.in-Ok.call in
    let stays : Stays mid now = record {
      given = refl;
      left = refl;
      read_faults = refl;
      unread = refl;
      number = c.in-Ok-Text.ensures.number;
      waits = c.in-Ok-Text.ensures.waits (λ e. cc);
      port_later = c.in-Ok-Text.ensures.later;
      write_later = c.write-in-Ok-Text.ensures.later;
    } in
    let closes = closing t before mid now (Some it) told.last arg told.body kept h close (conn.answered + 1) refl c.is_last-close.ensures in
    let ok = rw c.as_deref-arg.ensures.value at (rw c.as_slice.ensures.value at c.in-Ok-Text.ensures.ok) in
    let acts = rw c.in-Ok-Text.field-0-is at ok h.asked.content h.holds in
    serves_by t before mid now (Some it) told.last arg told.body kept h K.held K.faults conn.sink c.write-in-Ok-Text.new.sink of stays c.in-Ok-Text.text.items
    (whole_acts t before mid now it told.last arg told.body kept h told.at timed close closes c.in-Ok-Text.text.items acts) c.requires.few c.write-in-Ok-Text.result
    (rw c.deref.ensures.value at c.write-in-Ok-Text.ensures.ok) (rw c.deref.ensures.value at c.write-in-Ok-Text.ensures.err) c.write-in-Ok-Text.ensures.end

pub returns-in-Ok-Content-clause-served : goal.returns-in-Ok-Content-clause-served
returns-in-Ok-Content-clause-served g c second admin before timed hears =
    let P = g.P.View in let S = g.S.Source in let K = g.K.Sink in
    let t = terms P.alone second admin in
    let port = c.args.port.now in let conn = c.args.conn.now in let told = c.args.heard.now in
    let mid = moment P S K port conn.source conn.sink conn.answered conn.reader.held in
    let arg = option_map (λ bytes. bytes.items) told.arg in
    let kept = conn.buffer.items in
    let close = c.is_last-close.result in
    let now = moment P S K c.send.new.port conn.source c.send.new.sink (conn.answered + 1) conn.reader.held in
    let of : OfSink K.held K.faults conn.sink c.send.new.sink mid now = record { held_old = refl; held_new = refl; faults_old = refl; faults_new = refl } in
    let h = rw c.in-Ok.is at hears in
    let it = called_as c.in-Ok.call in
    let seen = P.seen c.respond.new.port in
    let blocks = P.blocks c.respond.new.port in
    let stays : Stays mid now = record {
      given = refl;
      left = refl;
      read_faults = refl;
      unread = refl;
      number = c.send.ensures.number ∙ c.in-Ok-Content.ensures.number;
      waits = leaves_same (P.waits port) (P.waits c.respond.new.port) (P.waits c.send.new.port) (c.in-Ok-Content.ensures.waits (λ e. cc)) c.send.ensures.waits;
      port_later = at_most (P.faults port) (P.faults c.respond.new.port) (P.faults c.send.new.port) c.in-Ok-Content.ensures.later c.send.ensures.port_later;
      write_later = c.send.ensures.later;
    } in
    let closes = closing t before mid now (Some it) told.last arg told.body kept h close (conn.answered + 1) refl c.is_last-close.ensures in
    let ok = rw c.as_deref-arg.ensures.value at (rw c.as_slice.ensures.value at c.in-Ok-Content.ensures.ok) in
    let found = rw c.in-Ok-Content.field-0-is at ok h.asked.content h.holds in
    let meta = found.0.meta in
    let version : IsVersion (state_of seen) meta c.in-Ok-Content.rev c.in-Ok-Content.count =
    record { kept = found.0.kept; rev_is = found.0.rev_is; count_is = found.0.count_is } in
    serves_content t before mid now it told.last arg told.body kept h K.held K.faults conn.sink c.send.new.sink of
    told.at close c.in-Ok-Content.head.items c.in-Ok-Content.rev c.in-Ok-Content.count seen blocks
    (P.faults c.respond.new.port) found.0 found.1 c.in-Ok-Content.ensures.later stays timed closes c.requires.few c.send.result
    (rw c.deref-in-Ok-Content.ensures.value at c.send.ensures.ok meta version) (rw c.deref-in-Ok-Content.ensures.value at c.send.ensures.err meta version)
    c.send.ensures.end

pub returns-in-Err-NoMemory-clause-served : goal.returns-in-Err-NoMemory-clause-served
returns-in-Err-NoMemory-clause-served g c second admin before timed hears =
    let P = g.P.View in let S = g.S.Source in let K = g.K.Sink in
    let t = terms P.alone second admin in
    let port = c.args.port.now in let conn = c.args.conn.now in let told = c.args.heard.now in
    let mid = moment P S K port conn.source conn.sink conn.answered conn.reader.held in
    let arg = option_map (λ bytes. bytes.items) told.arg in
    let kept = conn.buffer.items in
    let close = c.is_last-close.result in
    let now = moment P S K c.respond.new.port conn.source c.write-in-Err-NoMemory.new.sink (conn.answered + 1) conn.reader.held in
    let of : OfSink K.held K.faults conn.sink c.write-in-Err-NoMemory.new.sink mid now = record { held_old = refl; held_new = refl; faults_old = refl; faults_new = refl } in
    let h = rw c.in-Ok.is at hears in
    let it = called_as c.in-Ok.call in
    let stays : Stays mid now = record {
      given = refl;
      left = refl;
      read_faults = refl;
      unread = refl;
      number = c.in-Err-NoMemory.ensures.number;
      waits = c.in-Err-NoMemory.ensures.waits (memory_is_no_disk c.in-Err-NoMemory.field-0 c.in-Err-NoMemory.field-0-is);
      port_later = c.in-Err-NoMemory.ensures.later;
      write_later = c.write-in-Err-NoMemory.ensures.later;
    } in
    let closes = closing t before mid now (Some it) told.last arg told.body kept h close (conn.answered + 1) refl c.is_last-close.ensures in
    let memory = rw c.as_deref-arg.ensures.value at (rw c.as_slice.ensures.value at c.in-Err-NoMemory.ensures.memory) in
    serves_by t before mid now (Some it) told.last arg told.body kept h K.held K.faults conn.sink c.write-in-Err-NoMemory.new.sink of stays (text_of out_of_memory close)
    (whole_misses t before mid now it told.last arg told.body kept h told.at timed close closes
    (memory h.asked.content h.holds (ap Err c.in-Err-NoMemory.field-0-is))) c.requires.few c.write-in-Err-NoMemory.result
    (rw c.out_of_memory-in-Err-NoMemory.ensures at c.write-in-Err-NoMemory.ensures.ok)
    (rw c.out_of_memory-in-Err-NoMemory.ensures at c.write-in-Err-NoMemory.ensures.err) c.write-in-Err-NoMemory.ensures.end

pub returns-in-Err-Disk-clause-served : goal.returns-in-Err-Disk-clause-served
returns-in-Err-Disk-clause-served g c second admin before timed hears =
    let P = g.P.View in let S = g.S.Source in let K = g.K.Sink in
    let t = terms P.alone second admin in
    let port = c.args.port.now in let conn = c.args.conn.now in let told = c.args.heard.now in
    let mid = moment P S K port conn.source conn.sink conn.answered conn.reader.held in
    let arg = option_map (λ bytes. bytes.items) told.arg in
    let kept = conn.buffer.items in
    let now = moment P S K c.respond.new.port conn.source conn.sink (conn.answered + 1) conn.reader.held in
    let h = rw c.in-Ok.is at hears in
    let it = called_as c.in-Ok.call in
    let disk = rw c.as_deref-arg.ensures.value at (rw c.as_slice.ensures.value at c.in-Err-Disk.ensures.disk) in
    let failed = disk h.asked.content h.holds (ap Err c.in-Err-Disk.field-0-is) in
    serve_stuck t before mid now it told.last arg told.body kept h told.at timed failed.0 refl refl refl c.in-Err-Disk.ensures.number
    failed.1 (few_before t before mid now (Some it) told.last arg told.body kept h c.requires.few)

pub send-requires : goal.send-requires
send-requires g c =
    let held = c.requires.held in
    let ok = rw c.as_deref-arg.ensures.value at (rw c.as_slice.ensures.value at c.in-Ok-Content.ensures.ok) in
    let found = rw c.in-Ok-Content.field-0-is at ok held.0 held.1 in
    record { version = (found.0.meta, record { kept = found.0.kept; rev_is = found.0.rev_is; count_is = found.0.count_is }) }
