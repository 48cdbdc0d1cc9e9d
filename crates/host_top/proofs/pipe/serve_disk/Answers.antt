use Rattle.host_top.proofs.Ends.{pipe_read, pipe_write, pipe_disk}
use Rattle.host_top.proofs.pipe.serve_disk.Goals as goal

pub returns-clause-read : goal.returns-clause-read
returns-clause-read g c = pipe_read g.D.Disk g.S.Source g.K.Sink _ c.args.admin.now _ _ _ _ _ _ _ c.open_and_serve.ensures.ran

pub returns-clause-write : goal.returns-clause-write
returns-clause-write g c = pipe_write g.D.Disk g.S.Source g.K.Sink _ c.args.admin.now _ _ _ _ _ _ _ c.open_and_serve.ensures.ran

pub returns-clause-disk : goal.returns-clause-disk
returns-clause-disk g c = pipe_disk g.D.Disk g.S.Source g.K.Sink _ c.args.admin.now _ _ _ _ _ _ _ c.open_and_serve.ensures.ran
