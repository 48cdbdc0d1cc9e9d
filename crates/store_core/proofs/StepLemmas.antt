-- A command that doesn't enter changes nothing.
use Rattle.std.proofs.Common.{◌≡◌, inl, inr, sym, ◌∙◌, ap}
use Rattle.std.proofs.lemmas.Bool.{cases_Bool}
use Rattle.fh_model.proofs.StepLaws.{step_stays}
use Rattle.fh_model.specs.declared.commands.Cmd.{Cmd}
use Rattle.fh_model.specs.History.{Kept, state_of, next_of}
use Rattle.fh_model.specs.Step.{step}
use Rattle.store_core.proofs.StateLemmas.{state_of_next, next_stays}

-- the state after a command is the step's, whether it enters or not
pub state_next : (image : Kept) (cmd : Cmd) → state_of (next_of image cmd) ≡ (step (state_of image) cmd).state
state_next image cmd = elim (cases_Bool (step (state_of image) cmd).enters) [
  | inl enters ↦ state_of_next image cmd enters
  | inr stays ↦ ap state_of (next_stays image cmd stays) ∙ sym (step_stays (state_of image) cmd stays)
]
