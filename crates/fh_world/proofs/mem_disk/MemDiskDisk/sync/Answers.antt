use Rattle.std.proofs.Common.{◌≡◌, ◌∷◌, reverse, refl, rules}
use Rattle.fh_world.specs.declared.contents.Step.TheVariants.{Synced}
use Rattle.fh_world.proofs.MemoryLemmas.{elapses_step, synced_step}
use Rattle.fh_world.proofs.mem_disk.MemDiskDisk.sync.Goals as goal

pub returns-clause-time : goal.returns-clause-time
returns-clause-time c =
    let is : reverse c.note.new.steps.items ≡ Synced c.args.file ∷ reverse c.args.self.now.steps.items = search rules in
    elapses_step _ (reverse c.args.self.now.steps.items) (reverse c.note.new.steps.items) is

pub returns-clause-rests : goal.returns-clause-rests
returns-clause-rests c =
    let is : reverse c.note.new.steps.items ≡ Synced c.args.file ∷ reverse c.args.self.now.steps.items = search rules in
    record { seen = λ g. refl; crash = synced_step _ _ c.args.file is }
