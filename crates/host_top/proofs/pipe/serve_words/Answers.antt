use Rattle.std.proofs.Common.{refl, inr}
use Rattle.host_top.proofs.Ends.{nothing_opened}
use Rattle.host_top.proofs.Five.{no_plan}
use Rattle.host_top.proofs.pipe.serve_words.Goals as goal

pub returns-in-Err-Usage-clause-usage : goal.returns-in-Err-Usage-clause-usage
returns-in-Err-Usage-clause-usage g c =
    let failed = rw c.in-Err-Usage.field-0-is at c.in-Err-Usage.ensures in
    λ _ store admin is. failed.usage refl store admin is

pub returns-in-Err-Usage-clause-ran : goal.returns-in-Err-Usage-clause-ran
returns-in-Err-Usage-clause-ran g c =
    let failed = rw c.in-Err-Usage.field-0-is at c.in-Err-Usage.ensures in
    λ store admin is. absurd (failed.usage refl store admin is)

pub returns-in-Err-NoMemory-clause-form : goal.returns-in-Err-NoMemory-clause-form
returns-in-Err-NoMemory-clause-form g c =
    let failed = rw c.in-Err-NoMemory.field-0-is at c.in-Err-NoMemory.ensures in
    let words = failed.memory refl in
    λ none. absurd (none words.0 words.1 words.2)

pub returns-in-Err-NoMemory-clause-ran : goal.returns-in-Err-NoMemory-clause-ran
returns-in-Err-NoMemory-clause-ran g c store admin is =
    inr (nothing_opened g.D.Disk g.S.Source g.K.Sink g.met.D.Disk.only_now c.args.disk.now c.args.input.now c.args.output.now)

pub returns-clause-form : goal.returns-clause-form
returns-clause-form g c none = absurd (no_plan _ c.in-Ok.plan c.in-Ok.ensures.plan none)
