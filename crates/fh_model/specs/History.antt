-- Histories: the commands that entered, in order, and what the machine is after them.
use Rattle.std.specs.Prelude.{◌≡◌, if◌then◌else◌, List, [], ◌∷◌, ◌++◌}
use Rattle.fh_model.specs.declared.commands.Cmd.{Cmd}
use Rattle.fh_model.specs.declared.replies.Reply.{Reply}
use Rattle.fh_model.specs.State.{State}
use Rattle.fh_model.specs.Step.{step}

-- the machine after commands
abbrev pub state_after : State → List Cmd → State
state_after s [] = s
state_after s (cmd ∷ history) = state_after (step s cmd).state history

-- what a command adds to the history
abbrev pub entered : State → Cmd → List Cmd
entered s cmd = if (step s cmd).enters then cmd ∷ [] else []

-- the state that was opened, and the commands that entered since; the state now is the fold of these
pub record Kept : Type 0 where
  pub start : State
  pub history : List Cmd

abbrev pub state_of : Kept → State
state_of kept = state_after kept.start kept.history

-- what is kept after more commands
abbrev pub with_more : Kept → List Cmd → Kept
with_more kept more = record { start = kept.start; history = kept.history ++ more }

abbrev pub next_of : Kept → Cmd → Kept
next_of kept cmd = with_more kept (entered (state_of kept) cmd)

abbrev pub reply_of : Kept → Cmd → Reply
reply_of kept cmd = (step (state_of kept) cmd).reply

-- nothing that stood in the history before is lost
abbrev pub Follows : Kept → Kept → Type 0
Follows later kept = (more : List Cmd) × (later ≡ with_more kept more)
