use Rattle.fh_world.proofs.Runs.{no_run}
use Rattle.fh_world.specs.declared.FileNo.TheVariants.{Blocks}
use Rattle.store_core.proofs.PutLemmas.{put_bytes}
use Rattle.store_core.proofs.putting.put.Goals as goal

pub returns-in_default-clause-any_moment : goal.returns-in_default-clause-any_moment
returns-in_default-clause-any_moment g c = λ told.
    let d = g.D.Disk in
    no_run d.moment d.left_since d.may_leave g.met.D.Disk.only_now c.args.disk.now Blocks c.args.end _

pub returns-in-Ok-clause-bytes : goal.returns-in-Ok-clause-bytes
returns-in-Ok-clause-bytes g c = λ told.
    put_bytes g.D.Disk c.args.disk.now c.put_hashed.new.disk c.args.end c.args.content.now _ c.in-Ok.ensures.piece (c.in-Ok.ensures.stored told) (c.put_hashed.ensures.writes told)
