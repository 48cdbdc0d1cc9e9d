use Rattle.std.proofs.Common.{◌≡◌, ◌∙◌, inl, sym, ap, length, IsTrue}
use Rattle.fh_world.specs.declared.FileNo.{FileNo}
use Rattle.fh_world.specs.declared.FileNo.TheVariants as file
use Rattle.store_core.specs.declared.head.HeadRead.TheVariants as head
use Rattle.gate_journal.specs.Journal.{slot_of}
use Rattle.store_core.specs.Files.{New, contents, by_head, StandsOrNew}
use Rattle.store_core.specs.Head.{head_in}
use Rattle.store_core.specs.Open.{ReadsSlot}
use Rattle.store_core.specs.Store.{IsSettledStore}
use Rattle.store_core.proofs.OpenLemmas.{if_ok, made_end, keeps_same, new_means, outside_said, looked, looked_on, made_on, read_settled, read_stands}
use Rattle.store_core.proofs.opening.open_on.Goals as goal

pub returns-in_err-sync_all-clause-meaning : goal.returns-in_err-sync_all-clause-meaning
returns-in_err-sync_all-clause-meaning g c = λ told. keeps_same _ _ c.sync_all.ensures.rests.seen

pub returns-in_err-read-clause-meaning : goal.returns-in_err-read-clause-meaning
returns-in_err-read-clause-meaning g c = λ told. keeps_same _ _ (λ x. c.read.ensures.rests.seen x ∙ c.sync_all.ensures.rests.seen x)

pub returns-in-New-clause-refused : goal.returns-in-New-clause-refused
returns-in-New-clause-refused g c = outside_said _ _ c.make.result c.make.ensures.outside

pub returns-in-New-clause-any_moment : goal.returns-in-New-clause-any_moment
returns-in-New-clause-any_moment g c = λ told.
    let d = g.D.Disk in
    let unmade : head_in (d.seen c.args.disk.now file.Head) ≡ head.New = ap head_in (sym (c.sync_all.ensures.rests.seen file.Head)) ∙ sym (c.in_ok-read.ensures.read told) ∙ c.in-New.is in
    let none : contents (d.seen c.args.disk.now) ≡ New = ap (λ h. by_head h (d.seen c.args.disk.now)) unmade in
    let first = looked d c.args.disk.now c.sync_all.new.disk c.sync_all.ensures.any_moment in
    let second = looked_on d c.args.disk.now c.sync_all.new.disk c.read.new.disk c.sync_all.ensures.rests.crash first c.read.ensures.any_moment in
    made_on d c.args.disk.now c.read.new.disk c.make.new.disk none second (c.make.ensures.any_moment told)

pub returns-in-NotAStore-clause-any_moment : goal.returns-in-NotAStore-clause-any_moment
returns-in-NotAStore-clause-any_moment g c = λ told.
    let d = g.D.Disk in
    let first = looked d c.args.disk.now c.sync_all.new.disk c.sync_all.ensures.any_moment in
    looked_on d c.args.disk.now c.sync_all.new.disk c.read.new.disk c.sync_all.ensures.rests.crash first c.read.ensures.any_moment

pub returns-in-Names-clause-any_moment : goal.returns-in-Names-clause-any_moment
returns-in-Names-clause-any_moment g c = λ told.
    let d = g.D.Disk in
    let first = looked d c.args.disk.now c.sync_all.new.disk c.sync_all.ensures.any_moment in
    let second = looked_on d c.args.disk.now c.sync_all.new.disk c.read.new.disk c.sync_all.ensures.rests.crash first c.read.ensures.any_moment in
    looked_on d c.args.disk.now c.read.new.disk c.read-in-Names.new.disk (λ x l may. c.sync_all.ensures.rests.crash x l (c.read.ensures.rests.crash x l may)) second c.read-in-Names.ensures.any_moment

pub returns-in-Names-clause-settled : goal.returns-in-Names-clause-settled
returns-in-Names-clause-settled g c =
    let d = g.D.Disk in let old = c.args.disk.now in let mid = c.read.new.disk in let new = c.read-in-Names.new.disk in
    let slot = c.in-Names.slot in
    if_ok c.read-in-Names.result (λ opened. slot_of opened.0 ≡ slot) (λ opened. IsTrue d.tells → ReadsSlot d mid new slot opened.0 (length (d.seen mid file.Blocks)) opened.1.start) (λ opened. IsTrue d.tells → IsSettledStore d new opened.0 opened.1.start)
    (λ opened at reads told.
    let named : head_in (d.seen old file.Head) ≡ head.Names slot = ap head_in (sym (c.sync_all.ensures.rests.seen file.Head)) ∙ sym (c.in_ok-read.ensures.read told) ∙ c.in-Names.is in
    let same : (x : FileNo) → d.seen mid x ≡ d.seen old x = λ x. c.read.ensures.rests.seen x ∙ c.sync_all.ensures.rests.seen x in
    read_settled d old mid new slot opened.0 opened.1.start at named same
    (λ x l may. c.in_ok-sync_all.ensures.durable x l (c.read.ensures.rests.crash x l may) ∙ sym (same x)) c.read-in-Names.ensures.rests (reads told))
    c.read-in-Names.ensures.slot c.read-in-Names.ensures.reads

pub returns-in-Names-clause-found : goal.returns-in-Names-clause-found
returns-in-Names-clause-found g c =
    let d = g.D.Disk in let old = c.args.disk.now in let mid = c.read.new.disk in let new = c.read-in-Names.new.disk in
    let slot = c.in-Names.slot in
    if_ok c.read-in-Names.result (λ opened. slot_of opened.0 ≡ slot) (λ opened. IsTrue d.tells → ReadsSlot d mid new slot opened.0 (length (d.seen mid file.Blocks)) opened.1.start) (λ opened. IsTrue d.tells → StandsOrNew (d.seen old) opened.1.start)
    (λ opened at reads told.
    let named : head_in (d.seen old file.Head) ≡ head.Names slot = ap head_in (sym (c.sync_all.ensures.rests.seen file.Head)) ∙ sym (c.in_ok-read.ensures.read told) ∙ c.in-Names.is in
    inl (read_stands d old mid new slot opened.0 opened.1.start named (λ x. c.read.ensures.rests.seen x ∙ c.sync_all.ensures.rests.seen x) (reads told)))
    c.read-in-Names.ensures.slot c.read-in-Names.ensures.reads

pub returns-in-New-clause-end : goal.returns-in-New-clause-end
returns-in-New-clause-end g c = made_end c.make.result c.make.ensures.image

pub returns-in-New-clause-meaning : goal.returns-in-New-clause-meaning
returns-in-New-clause-meaning g c = λ told.
    let d = g.D.Disk in
    let unmade : head_in (d.seen c.args.disk.now file.Head) ≡ head.New = ap head_in (sym (c.sync_all.ensures.rests.seen file.Head)) ∙ sym (c.in_ok-read.ensures.read told) ∙ c.in-New.is in
    let none : contents (d.seen c.args.disk.now) ≡ New = ap (λ h. by_head h (d.seen c.args.disk.now)) unmade in
    new_means (d.seen c.args.disk.now) (d.seen c.make.new.disk) none (c.make.ensures.seen told)

pub returns-in-NotAStore-clause-meaning : goal.returns-in-NotAStore-clause-meaning
returns-in-NotAStore-clause-meaning g c = λ told. keeps_same _ _ (λ x. c.read.ensures.rests.seen x ∙ c.sync_all.ensures.rests.seen x)

pub returns-in-Names-clause-meaning : goal.returns-in-Names-clause-meaning
returns-in-Names-clause-meaning g c = λ told. keeps_same _ _ (λ x. c.read-in-Names.ensures.rests.seen x ∙ c.read.ensures.rests.seen x ∙ c.sync_all.ensures.rests.seen x)
