use Rattle.fh_model.specs.History.{state_of}
use Rattle.fh_model.specs.Pieces.{SamePieces, end_in}
use Rattle.fh_world.specs.declared.FileNo.TheVariants as file
use Rattle.std.proofs.Common.{ap, take}
use Rattle.host_seat.specs.RunLaws.{ran_reads}
use Rattle.host_seat.proofs.Commits.{of_both}
use Rattle.host_seat.proofs.direct.DirectPort.fetch.Goals as goal

pub returns-in-Ok-clause-below : goal.returns-in-Ok-clause-below
returns-in-Ok-clause-below g c = λ alone. of_both g.D.Disk.tells _ _ (λ before after. SamePieces (state_of c.args.self.now.store.image) after before)
    (λ told. ap (take (end_in (state_of c.args.self.now.store.image))) (c.fetch.ensures.rests.seen file.Blocks))

pub returns-in-Ok-clause-went : goal.returns-in-Ok-clause-went
returns-in-Ok-clause-went g c =
    ran_reads g.D.Disk c.args.self.now.store c.fetch.new.self c.fetch.ensures.place c.fetch.ensures.later c.fetch.ensures.kept c.fetch.ensures.image (c.fetch.ensures.rests.seen file.Blocks) c.fetch.ensures.any_moment

pub returns-in-Err-NoRev-clause-below : goal.returns-in-Err-NoRev-clause-below
returns-in-Err-NoRev-clause-below g c = λ alone. of_both g.D.Disk.tells _ _ (λ before after. SamePieces (state_of c.args.self.now.store.image) after before)
    (λ told. ap (take (end_in (state_of c.args.self.now.store.image))) (c.fetch.ensures.rests.seen file.Blocks))

pub returns-in-Err-NoRev-clause-went : goal.returns-in-Err-NoRev-clause-went
returns-in-Err-NoRev-clause-went g c =
    ran_reads g.D.Disk c.args.self.now.store c.fetch.new.self c.fetch.ensures.place c.fetch.ensures.later c.fetch.ensures.kept c.fetch.ensures.image (c.fetch.ensures.rests.seen file.Blocks) c.fetch.ensures.any_moment

pub returns-in-Err-NoBlock-clause-below : goal.returns-in-Err-NoBlock-clause-below
returns-in-Err-NoBlock-clause-below g c = λ alone. of_both g.D.Disk.tells _ _ (λ before after. SamePieces (state_of c.args.self.now.store.image) after before)
    (λ told. ap (take (end_in (state_of c.args.self.now.store.image))) (c.fetch.ensures.rests.seen file.Blocks))

pub returns-in-Err-NoBlock-clause-went : goal.returns-in-Err-NoBlock-clause-went
returns-in-Err-NoBlock-clause-went g c =
    ran_reads g.D.Disk c.args.self.now.store c.fetch.new.self c.fetch.ensures.place c.fetch.ensures.later c.fetch.ensures.kept c.fetch.ensures.image (c.fetch.ensures.rests.seen file.Blocks) c.fetch.ensures.any_moment

pub returns-in-Err-Disk-clause-below : goal.returns-in-Err-Disk-clause-below
returns-in-Err-Disk-clause-below g c = λ alone. of_both g.D.Disk.tells _ _ (λ before after. SamePieces (state_of c.args.self.now.store.image) after before)
    (λ told. ap (take (end_in (state_of c.args.self.now.store.image))) (c.fetch.ensures.rests.seen file.Blocks))

pub returns-in-Err-Disk-clause-went : goal.returns-in-Err-Disk-clause-went
returns-in-Err-Disk-clause-went g c =
    ran_reads g.D.Disk c.args.self.now.store c.fetch.new.self c.fetch.ensures.place c.fetch.ensures.later c.fetch.ensures.kept c.fetch.ensures.image (c.fetch.ensures.rests.seen file.Blocks) c.fetch.ensures.any_moment

pub returns-in-Err-NoMemory-clause-below : goal.returns-in-Err-NoMemory-clause-below
returns-in-Err-NoMemory-clause-below g c = λ alone. of_both g.D.Disk.tells _ _ (λ before after. SamePieces (state_of c.args.self.now.store.image) after before)
    (λ told. ap (take (end_in (state_of c.args.self.now.store.image))) (c.fetch.ensures.rests.seen file.Blocks))

pub returns-in-Err-NoMemory-clause-went : goal.returns-in-Err-NoMemory-clause-went
returns-in-Err-NoMemory-clause-went g c =
    ran_reads g.D.Disk c.args.self.now.store c.fetch.new.self c.fetch.ensures.place c.fetch.ensures.later c.fetch.ensures.kept c.fetch.ensures.image (c.fetch.ensures.rests.seen file.Blocks) c.fetch.ensures.any_moment
