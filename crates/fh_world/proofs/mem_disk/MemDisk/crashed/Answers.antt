use Rattle.std.proofs.Common.{◌≡◌, List, reverse, subst, sym}
use Rattle.std.proofs.lemmas.Result.{IfOk-weaker}
use Rattle.fh_world.specs.declared.contents.Step.{Step}
use Rattle.fh_world.specs.declared.disk.FileNo.{FileNo}
use Rattle.fh_world.specs.declared.mem_disk.MemDisk.{MemDisk}
use Rattle.fh_world.specs.Memory.{memory_seen, memory_may_leave}
use Rattle.fh_world.specs.Replay.{content, MayLeave}
use Rattle.fh_world.proofs.mem_disk.MemDisk.crashed.Goals as goal

pub returns-clause-left : goal.returns-clause-left
returns-clause-left c =
    let image = content c.in_ok-image.image in
    let may = memory_may_leave c.args.self.now in
    let left : (g : FileNo) → may g (image g) = λ g. subst (λ (l : List Step). MayLeave (reverse l) g (image g)) c.deref.ensures.value (c.in_ok-image.ensures g) in
    IfOk-weaker c.durable.result (λ (disk : MemDisk). (g : FileNo) → memory_seen disk g ≡ image g) (λ (disk : MemDisk). (g : FileNo) → may g (memory_seen disk g))
    (λ disk same g. subst (may g) (sym (same g)) (left g)) c.durable.ensures.seen
