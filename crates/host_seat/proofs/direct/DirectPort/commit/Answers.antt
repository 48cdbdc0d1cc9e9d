use Rattle.std.proofs.Common.{rules, ◌≡◌, ◌∙◌, true, Option, None, refl, ap}
use Rattle.fh_model.specs.declared.commands.Cmd.{Cmd}
use Rattle.fh_model.specs.History.{state_of}
use Rattle.fh_model.specs.Pieces.{SamePieces, blocks_with, data_of, placed}
use Rattle.fh_model.specs.Step.{step}
use Rattle.fh_model.specs.State.{State}
use Rattle.store_core.specs.Commit.{BeginsWith}
use Rattle.store_core.specs.Store.{finished, with_waiting}
use Rattle.host_seat.specs.RunLaws.{ran_nothing, ran_commits, ran_fails}
use Rattle.host_seat.proofs.Commits.{commits_alone, of_both}
use Rattle.host_seat.proofs.direct.DirectPort.commit.Goals as goal

pub returns-then-waits-clause-below : goal.returns-then-waits-clause-below
returns-then-waits-clause-below g c = λ alone. of_both g.D.Disk.tells _ _ (λ before after. SamePieces (state_of c.args.self.now.store.image) after before) (λ told. refl)

pub returns-then-waits-clause-went : goal.returns-then-waits-clause-went
returns-then-waits-clause-went g c = ran_nothing g.D.Disk g.met.D.Disk.only_now c.args.self.now.store

pub returns-in-Ok-clause-point : goal.returns-in-Ok-clause-point
returns-in-Ok-clause-point g c =
    let idle : c.args.self.now.store.waiting ≡ None = search rules in
    commits_alone c.args.self.now.store.image c.commit.new.self.image c.args.self.now.store.waiting _ c.args.bytes.now c.in-Ok.reply idle c.in-Ok.ensures.reply c.in-Ok.ensures.image.0

pub returns-in-Ok-clause-stored : goal.returns-in-Ok-clause-stored
returns-in-Ok-clause-stored g c = λ alone.
    let s = state_of c.args.self.now.store.image in
    let idle : c.args.self.now.store.waiting ≡ None = search rules in
    let all : state_of (finished c.args.self.now.store) ≡ s = ap (λ (w : Option Cmd). state_of (with_waiting c.args.self.now.store.image w)) idle in
    let cmd : Cmd = record { seat = 1; at = c.args.at; act = c.args.act } in
    of_both g.D.Disk.tells _ _ (λ before after. (step s (placed s c.args.bytes.now cmd)).enters ≡ true → BeginsWith (blocks_with s (data_of cmd.act c.args.bytes.now) before) after)
    (λ told enters. c.in-Ok.ensures.stored (ap (λ (z : State). (step s (placed z c.args.bytes.now cmd)).enters) all ∙ enters) told)

pub returns-in-Ok-clause-below : goal.returns-in-Ok-clause-below
returns-in-Ok-clause-below g c = λ alone. of_both g.D.Disk.tells _ _ (λ before after. SamePieces (state_of c.args.self.now.store.image) after before) c.commit.ensures.below

pub returns-in-Err-Disk-clause-below : goal.returns-in-Err-Disk-clause-below
returns-in-Err-Disk-clause-below g c = λ alone. of_both g.D.Disk.tells _ _ (λ before after. SamePieces (state_of c.args.self.now.store.image) after before) c.commit.ensures.below

pub returns-in-Err-NoMemory-clause-below : goal.returns-in-Err-NoMemory-clause-below
returns-in-Err-NoMemory-clause-below g c = λ alone. of_both g.D.Disk.tells _ _ (λ before after. SamePieces (state_of c.args.self.now.store.image) after before) c.commit.ensures.below

pub returns-in-Ok-clause-went : goal.returns-in-Ok-clause-went
returns-in-Ok-clause-went g c =
    let idle : c.args.self.now.store.waiting ≡ None = search rules in
    ran_commits g.D.Disk c.args.self.now.store c.commit.new.self c.commit.ensures.place c.commit.ensures.later c.commit.ensures.kept _ idle c.commit.ensures.below c.commit.ensures.any_moment c.in-Ok.ensures.image

pub returns-in-Err-Disk-clause-went : goal.returns-in-Err-Disk-clause-went
returns-in-Err-Disk-clause-went g c =
    let idle : c.args.self.now.store.waiting ≡ None = search rules in
    ran_fails g.D.Disk c.args.self.now.store c.commit.new.self c.commit.ensures.place c.commit.ensures.later c.commit.ensures.kept _ idle c.commit.ensures.below c.commit.ensures.any_moment
    c.in-Err-Disk.ensures.unwritten c.in-Err-Disk.ensures.fault

pub returns-in-Err-NoMemory-clause-went : goal.returns-in-Err-NoMemory-clause-went
returns-in-Err-NoMemory-clause-went g c =
    let idle : c.args.self.now.store.waiting ≡ None = search rules in
    ran_fails g.D.Disk c.args.self.now.store c.commit.new.self c.commit.ensures.place c.commit.ensures.later c.commit.ensures.kept _ idle c.commit.ensures.below c.commit.ensures.any_moment
    c.in-Err-NoMemory.ensures.unwritten c.in-Err-NoMemory.ensures.fault
