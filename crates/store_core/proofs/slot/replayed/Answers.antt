use Rattle.std.proofs.Common.{rules, ◌≡◌, ◌∙◌, sym, ap, List, [], ◌∷◌, ◌++◌, take, get_or}
use Rattle.std.proofs.lemmas.List.{take_more}
use Rattle.fh_model.specs.declared.commands.Cmd.{Cmd}
use Rattle.fh_model.specs.History.{state_of, state_after, next_of}
use Rattle.fh_model.specs.State.{State}
use Rattle.fh_model.specs.Step.{step}
use Rattle.fh_model.proofs.Runs.{state_after_more}
use Rattle.store_core.proofs.StepLemmas.{state_next}
use Rattle.store_core.proofs.slot.replayed.Goals as goal

pub loop-cmd-preserved : goal.loop-cmd-preserved
loop-cmd-preserved c =
    let cmd = c.cmd-item.result in
    let i = c.loop-cmd.cmd-index in
    let cmds = c.args.commands.now in
    let next : c.in_ok-next.next ≡ next_of c.loop-cmd.image cmd = search rules in
    let item : cmd ≡ get_or cmds i cmd = search rules in
    ap state_of next ∙ state_next c.loop-cmd.image cmd
    ∙ ap (λ (s : State). (step s cmd).state) c.loop-cmd.invariant
    ∙ sym (state_after_more (state_of c.args.image) (take i cmds) cmd)
    ∙ ap (λ (l : List Cmd). state_after (state_of c.args.image) l) (sym (take_more cmds i cmd c.loop-cmd-test.true ∙ ap (λ (x : Cmd). take i cmds ++ x ∷ []) (sym item)))
