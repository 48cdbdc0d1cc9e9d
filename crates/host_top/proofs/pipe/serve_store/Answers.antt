use Rattle.std.proofs.Common.{refl, ap}
use Rattle.host_seat.specs.RunLaws.{ran_nothing}
use Rattle.host_top.specs.Status.{status_of}
use Rattle.host_top.proofs.Ends.{nothing_served}
use Rattle.host_top.proofs.pipe.serve_store.Goals as goal

pub returns-in-Err-clause-served : goal.returns-in-Err-clause-served
returns-in-Err-clause-served g c =
    rw (c.into_store.ensures, c.new-port.ensures, c.in-Err.ensures.err.0, c.in-Err.ensures.err.1)
    (nothing_served g.D.Disk g.S.Source g.K.Sink (g.C.Clock.second c.args.clock.now) c.args.admin.now c.args.store c.args.input c.args.output
    (ran_nothing g.D.Disk g.met.D.Disk.only_now c.args.store))

pub returns-clause-served : goal.returns-clause-served
returns-clause-served g c =
    let connection = c.serve_conn-end.ensures in
    rw (c.into_store-2.ensures, c.into_ends-input.ensures.source, c.into_ends-input.ensures.sink, c.status_of.ensures)
    (record {
      count = c.serve_conn-end.new.conn.answered;
      unread = c.serve_conn-end.new.conn.reader.held;
      end = c.serve_conn-end.result;
      is = refl;
      served = rw (c.new-port.ensures, c.in-Ok.ensures.ends.0, c.in-Ok.ensures.ends.1) at connection.served;
      ran = rw c.new-port.ensures at connection.went;
    })

pub returns-clause-read_told : goal.returns-clause-read_told
returns-clause-read_told g c =
    let told = c.serve_conn-end.ensures.read_told in
    rw (c.into_ends-input.ensures.source, c.status_of.ensures) (λ other. rw c.in-Ok.ensures.ends.0 at told (λ e. other (ap status_of e)))

pub returns-clause-write_told : goal.returns-clause-write_told
returns-clause-write_told g c =
    let told = c.serve_conn-end.ensures.write_told in
    rw (c.into_ends-input.ensures.sink, c.status_of.ensures) (λ other. rw c.in-Ok.ensures.ends.1 at told (λ e. other (ap status_of e)))

pub returns-clause-disk_told : goal.returns-clause-disk_told
returns-clause-disk_told g c =
    let told = c.serve_conn-end.ensures.disk_told in
    rw (c.into_store-2.ensures, c.status_of.ensures) (λ other. rw c.new-port.ensures at told (λ e. other (ap status_of e)))
