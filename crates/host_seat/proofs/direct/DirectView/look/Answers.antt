use Rattle.host_seat.specs.RunLaws.{ran_nothing}
use Rattle.host_seat.proofs.direct.DirectView.look.Goals as goal

pub returns-in_err-image-clause-went : goal.returns-in_err-image-clause-went
returns-in_err-image-clause-went g c = ran_nothing g.D.Disk g.met.D.Disk.only_now c.args.self.now.store

pub returns-clause-went : goal.returns-clause-went
returns-clause-went g c = ran_nothing g.D.Disk g.met.D.Disk.only_now c.args.self.now.store
