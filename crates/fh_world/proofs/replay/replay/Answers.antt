use Rattle.std.proofs.Common.{◌≤◌, ◌∷◌, length, sym, ap, subst, arith}
use Rattle.fh_world.specs.declared.disk.FileNo.{FileNo}
use Rattle.fh_world.specs.declared.contents.Step.{Step}
use Rattle.fh_world.specs.Replay.{content, MayLeave}
use Rattle.fh_world.proofs.ReplayLemmas.{left_written}
use Rattle.fh_world.proofs.replay.replay.Goals as goal

pub returns-in_ok-overwrite-in-Written-2-clause-left : goal.returns-in_ok-overwrite-in-Written-2-clause-left
returns-in_ok-overwrite-in-Written-2-clause-left c earlier seen left =
    let w = c.in-Written in
    let less : length c.kept.result.now ≤ length w.bytes.items = omega (arith, c.kept.ensures, ap length c.deref-in-Written.ensures.value) in
    subst (λ (s : Step). (g : FileNo) → MayLeave (s ∷ earlier) g (content c.overwrite-in-Written.new.files g)) (sym w.is)
    (left_written (content c.args.image.now) (content c.overwrite-in-Written.new.files) earlier w.file w.at w.bytes c.overwrite-in-Written.ensures.others c.kept.result.now less left c.in_ok-overwrite-in-Written-2.ensures.own)
