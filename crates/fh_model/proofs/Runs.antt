-- Runs that go on by one command or one request.
use Rattle.std.proofs.Common.{◌≡◌, List, [], ◌∷◌, ◌++◌, refl, ◌∙◌, sym, ap, append-nil, append_assoc}
use Rattle.fh_model.specs.declared.commands.Cmd.{Cmd}
use Rattle.fh_model.specs.History.{Kept, state_of, state_after, with_more, next_of, reply_of, entered}
use Rattle.fh_model.specs.State.{State}
use Rattle.fh_model.specs.Step.{step}

pub state_after-append : (s : State) (g h : List Cmd) → state_after s (g ++ h) ≡ state_after (state_after s g) h
state_after-append s [] h = refl
state_after-append s (cmd ∷ g) h = state_after-append (step s cmd).state g h

pub state_after_more : (s : State) (h : List Cmd) (cmd : Cmd) → state_after s (h ++ cmd ∷ []) ≡ (step (state_after s h) cmd).state
state_after_more s h cmd = state_after-append s h (cmd ∷ [])

-- a history with nothing more
pub with_nothing : (kept : Kept) → kept ≡ with_more kept []
with_nothing kept = ap (λ (h : List Cmd). record { start = kept.start; history = h }) (sym (append-nil kept.history))

-- the machine after more commands
pub state_more : (kept : Kept) (more : List Cmd) → state_of (with_more kept more) ≡ state_after (state_of kept) more
state_more kept more = state_after-append kept.start kept.history more

pub with_more_more : (kept : Kept) (g h : List Cmd) → with_more (with_more kept g) h ≡ with_more kept (g ++ h)
with_more_more kept g h = ap (λ (l : List Cmd). record { start = kept.start; history = l }) (append_assoc kept.history g h)

-- a command that comes behind others
pub next_more : (kept : Kept) (others : List Cmd) (cmd : Cmd) → next_of (with_more kept others) cmd ≡ with_more kept (others ++ entered (state_after (state_of kept) others) cmd)
next_more kept others cmd =
    ap (λ s. with_more (with_more kept others) (entered s cmd)) (state_more kept others) ∙ with_more_more kept others (entered (state_after (state_of kept) others) cmd)

pub reply_more : (kept : Kept) (others : List Cmd) (cmd : Cmd) → reply_of (with_more kept others) cmd ≡ (step (state_after (state_of kept) others) cmd).reply
reply_more kept others cmd = ap (λ s. (step s cmd).reply) (state_more kept others)
