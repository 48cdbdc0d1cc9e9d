use Rattle.fh_world.proofs.Runs.{no_run, written_run}
use Rattle.fh_world.proofs.ahead.extend_ahead.Goals as goal
use Rattle.fh_world.specs.declared.ahead.TheConstants.{ROOM_BYTES}

pub returns-then-not-reaches_room-clause-any_moment : goal.returns-then-not-reaches_room-clause-any_moment
returns-then-not-reaches_room-clause-any_moment g c told =
    let d = g.D.Disk in
    no_run d.moment d.left_since d.may_leave g.met.D.Disk.only_now c.args.disk.now c.args.file c.args.end ROOM_BYTES

pub returns-clause-any_moment : goal.returns-clause-any_moment
returns-clause-any_moment g c told =
    let d = g.D.Disk in
    written_run d.moment d.left_since d.may_leave d.seen g.met.D.Disk.only_now c.args.disk.now c.write_at.new.self c.args.file c.args.end ROOM_BYTES c.write_at.ensures.time (c.write_at.ensures.writes told)
