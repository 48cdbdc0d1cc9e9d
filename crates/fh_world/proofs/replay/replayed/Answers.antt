use Rattle.std.proofs.Common.{◌≡◌, ◌∷◌, ◌+◌, List, take, reverse, sym, ◌∙◌, ap, subst}
use Rattle.std.proofs.lemmas.List.{take_all}
use Rattle.fh_world.specs.declared.disk.FileNo.{FileNo}
use Rattle.fh_world.specs.declared.contents.Step.{Step}
use Rattle.fh_world.specs.Replay.{content, seen_after, MayLeave}
use Rattle.fh_world.proofs.ReplayLemmas.{reverse_more}
use Rattle.fh_world.proofs.replay.replayed.Goals as goal

pub loop-step-init : goal.loop-step-init
loop-step-init c = record { seen = c.empty-seen.ensures; left = c.empty-image.ensures }

pub loop-step-preserved : goal.loop-step-preserved
loop-step-preserved c =
    let steps = c.args.steps.now in
    let i = c.loop-step.step-index in
    let before = c.loop-step.invariant in
    let more : reverse (take (i + 1) steps) ≡ c.step-item.result ∷ reverse (take i steps) = reverse_more steps i c.step-item.result c.loop-step-test.true ∙ ap (λ (s : Step). s ∷ reverse (take i steps)) (sym c.step-item.is) in
    record {
      seen = subst (λ (l : List Step). (g : FileNo) → content c.replay.new.seen g ≡ seen_after l g) (sym more) (c.in_ok-replay.ensures.seen (reverse (take i steps)) before.seen);
      left = subst (λ (l : List Step). (g : FileNo) → MayLeave l g (content c.replay.new.image g)) (sym more) (c.in_ok-replay.ensures.left (reverse (take i steps)) before.seen before.left);
    }

pub returns : goal.returns
returns c = subst (λ (l : List Step). (g : FileNo) → MayLeave (reverse l) g (content c.loop-step.image g)) (take_all c.loop-step.step-index c.args.steps.now c.loop-step-test.false) c.loop-step.invariant.left
