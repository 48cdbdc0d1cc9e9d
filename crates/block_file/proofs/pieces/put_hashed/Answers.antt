use Rattle.std.proofs.Common.{length, max, refl, arith}
use Rattle.fh_world.proofs.Runs.{run_joined, run_wider, writes_joined, writes_wider}
use Rattle.block_file.proofs.StoredLemmas.{stored_now, stored_stays}
use Rattle.block_file.proofs.pieces.put_hashed.Goals as goal
use Rattle.fh_world.specs.declared.ahead.TheConstants.{ROOM_BYTES}
use Rattle.fh_world.specs.declared.FileNo.TheVariants.{Blocks}

pub returns-in_err-make_room-clause-below : goal.returns-in_err-make_room-clause-below
returns-in_err-make_room-clause-below g c told piece bytes below stored =
    stored_stays c.args.end _ _ _ _ _ piece bytes (c.make_room.ensures.writes told) below stored

pub returns-in_err-make_room-clause-writes : goal.returns-in_err-make_room-clause-writes
returns-in_err-make_room-clause-writes g c told =
    writes_wider Blocks c.args.end ROOM_BYTES _ _ _ _ _ (omega arith) (c.make_room.ensures.writes told)

pub returns-in_err-make_room-clause-any_moment : goal.returns-in_err-make_room-clause-any_moment
returns-in_err-make_room-clause-any_moment g c told =
    let d = g.D.Disk in
    run_wider d.moment d.left_since d.may_leave _ _ Blocks c.args.end ROOM_BYTES _ (omega arith) (c.make_room.ensures.any_moment told)

pub returns-in_err-write_through-clause-below : goal.returns-in_err-write_through-clause-below
returns-in_err-write_through-clause-below g c told piece bytes below stored =
    stored_stays c.args.end _ _ _ _ _ piece bytes (c.write_through.ensures.writes told) below
    (stored_stays c.args.end _ _ _ _ _ piece bytes (c.make_room.ensures.writes told) below stored)

pub returns-in_err-write_through-clause-writes : goal.returns-in_err-write_through-clause-writes
returns-in_err-write_through-clause-writes g c told =
    let end = c.args.end in
    writes_joined Blocks end _ _ _ _ _ _ _ (writes_wider Blocks end ROOM_BYTES _ _ _ _ _ (omega arith) (c.make_room.ensures.writes told)) (writes_wider Blocks end _ _ _ _ _ _ (omega arith) (c.write_through.ensures.writes told))

pub returns-in_err-write_through-clause-any_moment : goal.returns-in_err-write_through-clause-any_moment
returns-in_err-write_through-clause-any_moment g c told =
    let d = g.D.Disk in
    let end = c.args.end in
    let reach = max (length c.args.bytes.now) ROOM_BYTES in
    run_joined d.moment d.left_since d.may_leave _ c.make_room.new.disk _ Blocks end reach _ _ (writes_wider Blocks end ROOM_BYTES reach _ _ _ _ (omega arith) (c.make_room.ensures.writes told))
    (run_wider d.moment d.left_since d.may_leave _ _ Blocks end ROOM_BYTES reach (omega arith) (c.make_room.ensures.any_moment told))
    (run_wider d.moment d.left_since d.may_leave _ _ Blocks end _ reach (omega arith) (c.write_through.ensures.any_moment told))

pub returns-clause-stored : goal.returns-clause-stored
returns-clause-stored g c told =
    let seen = g.D.Disk.seen in
    let room = c.make_room.ensures.writes told in
    stored_now c.args.end (seen c.make_room.new.disk) (seen c.write_through.new.disk) _ _ c.args.bytes.now refl refl (omega (arith, c.requires.within told, room.seen.no_shorter))
    (c.in_ok-write_through.ensures.written told) c.in_ok-write_through.ensures.durable

pub returns-clause-below : goal.returns-clause-below
returns-clause-below g c told piece bytes below stored =
    stored_stays c.args.end _ _ _ _ _ piece bytes (c.write_through.ensures.writes told) below
    (stored_stays c.args.end _ _ _ _ _ piece bytes (c.make_room.ensures.writes told) below stored)

pub returns-clause-writes : goal.returns-clause-writes
returns-clause-writes g c told =
    let end = c.args.end in
    writes_joined Blocks end _ _ _ _ _ _ _ (writes_wider Blocks end ROOM_BYTES _ _ _ _ _ (omega arith) (c.make_room.ensures.writes told)) (writes_wider Blocks end _ _ _ _ _ _ (omega arith) (c.write_through.ensures.writes told))

pub returns-clause-any_moment : goal.returns-clause-any_moment
returns-clause-any_moment g c told =
    let d = g.D.Disk in
    let end = c.args.end in
    let reach = max (length c.args.bytes.now) ROOM_BYTES in
    run_joined d.moment d.left_since d.may_leave _ c.make_room.new.disk _ Blocks end reach _ _ (writes_wider Blocks end ROOM_BYTES reach _ _ _ _ (omega arith) (c.make_room.ensures.writes told))
    (run_wider d.moment d.left_since d.may_leave _ _ Blocks end ROOM_BYTES reach (omega arith) (c.make_room.ensures.any_moment told))
    (run_wider d.moment d.left_since d.may_leave _ _ Blocks end _ reach (omega arith) (c.write_through.ensures.any_moment told))
