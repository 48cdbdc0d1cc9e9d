use Rattle.std.proofs.Common.{◌≡◌, ◌∷◌, reverse, rules}
use Rattle.fh_world.specs.Disk.{Overwritten}
use Rattle.fh_world.specs.Replay.{content}
use Rattle.fh_world.specs.declared.contents.Step.TheVariants.{Written}
use Rattle.fh_world.proofs.MemoryLemmas.{elapses_step, written_step}
use Rattle.fh_world.proofs.mem_disk.MemDiskDisk.write_at.Goals as goal

pub returns-clause-time : goal.returns-clause-time
returns-clause-time c =
    let is : reverse c.note.new.steps.items ≡ Written c.args.file c.args.at c.in_ok-copy.copy ∷ reverse c.args.self.now.steps.items = search rules in
    elapses_step _ (reverse c.args.self.now.steps.items) (reverse c.note.new.steps.items) is

pub returns-clause-writes : goal.returns-clause-writes
returns-clause-writes c told =
    let is : reverse c.note.new.steps.items ≡ Written c.args.file c.args.at c.in_ok-copy.copy ∷ reverse c.args.self.now.steps.items = search rules in
    let same : c.in_ok-copy.copy.items ≡ c.args.bytes.now = search rules in
    let holds : Overwritten c.args.at c.args.bytes.now (content c.args.self.now.files c.args.file) (content c.replace.new.self c.args.file) = search rules in
    written_step (content c.args.self.now.files) (content c.replace.new.self) _ _ c.args.file c.args.at c.args.bytes.now c.in_ok-copy.copy is same (c.requires told) holds c.replace.ensures.others
