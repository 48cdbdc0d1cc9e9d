-- What a step of the machine gives, and its refusals.
use Rattle.std.specs.Prelude.{ℕ, codes, Bool, false, List, [], ◌∷◌, None}
use Rattle.fh_model.specs.declared.replies.Reply.{Reply}
use Rattle.fh_model.specs.declared.replies.Reply.TheVariants as reply
use Rattle.fh_model.specs.State.{State}

pub record Stepped : Type 0 where
  pub state : State
  pub reply : Reply
  -- whether the command enters the history
  pub enters : Bool

abbrev pub refusal_of : List (List ℕ) → Reply
refusal_of tags = reply.Refused (record { tags = tags; session = None; offset = None })

-- a refused command changes nothing
abbrev pub refused : State → List (List ℕ) → Stepped
refused s tags = record { state = s; reply = refusal_of tags; enters = false }

abbrev pub conflict : State → List ℕ → Stepped
conflict s tag = refused s (codes "path" ∷ codes "conflict" ∷ tag ∷ [])
