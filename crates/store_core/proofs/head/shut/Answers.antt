use Rattle.fh_world.specs.declared.FileNo.TheVariants as file
use Rattle.store_core.proofs.HeadRuns.{looked_run, shut_run, shut_seen, told_open}
use Rattle.store_core.proofs.head.shut.Goals as goal

pub returns-in_err-is_shut-clause-any_moment : goal.returns-in_err-is_shut-clause-any_moment
returns-in_err-is_shut-clause-any_moment g c = λ told.
    looked_run g.D.Disk c.args.disk.now c.is_shut.new.disk (c.requires.unmade told) (c.requires.durable told) c.is_shut.ensures.rests c.is_shut.ensures.any_moment

pub returns-then-branch-clause-any_moment : goal.returns-then-branch-clause-any_moment
returns-then-branch-clause-any_moment g c = λ told.
    looked_run g.D.Disk c.args.disk.now c.is_shut.new.disk (c.requires.unmade told) (c.requires.durable told) c.is_shut.ensures.rests c.is_shut.ensures.any_moment

pub returns-in_err-write_through-clause-seen : goal.returns-in_err-write_through-clause-seen
returns-in_err-write_through-clause-seen g c = λ told.
    let opened = told_open (g.D.Disk.seen c.args.disk.now file.Head) c.in_ok-is_shut.field-0 (c.in_ok-is_shut.ensures.shut told) c.if-branch.false in
    shut_seen g.D.Disk c.args.disk.now c.is_shut.new.disk (c.requires.unmade told) (c.requires.durable told) c.is_shut.ensures.rests c.write_through.new.disk opened (c.write_through.ensures.writes told).seen

pub returns-in_err-write_through-clause-any_moment : goal.returns-in_err-write_through-clause-any_moment
returns-in_err-write_through-clause-any_moment g c = λ told.
    let opened = told_open (g.D.Disk.seen c.args.disk.now file.Head) c.in_ok-is_shut.field-0 (c.in_ok-is_shut.ensures.shut told) c.if-branch.false in
    shut_run g.D.Disk c.args.disk.now c.is_shut.new.disk (c.requires.unmade told) (c.requires.durable told) c.is_shut.ensures.rests c.write_through.new.disk opened c.is_shut.ensures.any_moment (c.write_through.ensures.any_moment told)

pub returns-clause-any_moment : goal.returns-clause-any_moment
returns-clause-any_moment g c = λ told.
    let opened = told_open (g.D.Disk.seen c.args.disk.now file.Head) c.in_ok-is_shut.field-0 (c.in_ok-is_shut.ensures.shut told) c.if-branch.false in
    shut_run g.D.Disk c.args.disk.now c.is_shut.new.disk (c.requires.unmade told) (c.requires.durable told) c.is_shut.ensures.rests c.write_through.new.disk opened c.is_shut.ensures.any_moment (c.write_through.ensures.any_moment told)
