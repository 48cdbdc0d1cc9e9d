use Rattle.fh_world.proofs.Runs.{no_run}
use Rattle.block_file.proofs.pieces.make_room.Goals as goal
use Rattle.fh_world.specs.declared.ahead.TheConstants.{ROOM_BYTES}
use Rattle.fh_world.specs.declared.FileNo.TheVariants.{Blocks}

pub returns-then-count-gt-SMALL_PIECE_BYTES-clause-any_moment : goal.returns-then-count-gt-SMALL_PIECE_BYTES-clause-any_moment
returns-then-count-gt-SMALL_PIECE_BYTES-clause-any_moment g c told =
    let d = g.D.Disk in
    no_run d.moment d.left_since d.may_leave g.met.D.Disk.only_now c.args.disk.now Blocks c.args.end ROOM_BYTES
