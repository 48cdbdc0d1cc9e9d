-- What a step that was done means, and what each machine keeps.
use Rattle.std.specs.Prelude.{◌≡◌, ℕ, ◌^◌, ◌-◌, min, nat_lt, Bool, true, false, List, ◌++◌, flat_map, Option, None, Some, MatchOption}
use Rattle.std.specs.List.{list_all}
use Rattle.fh_model.specs.declared.files.Revision.{Revision}
use Rattle.fh_model.specs.declared.paths.Found.{Found}
use Rattle.fh_model.specs.declared.replies.Reply.{Reply}
use Rattle.fh_model.specs.declared.sessions.Session.{Session}
use Rattle.fh_model.specs.declared.state.Namespace.{Namespace}
use Rattle.fh_model.specs.Pieces.{last_end, session_pieces}
use Rattle.fh_model.specs.Resolve.{Look, not_found, found}
use Rattle.fh_model.specs.State.{State, length_of}
use Rattle.fh_model.specs.Stepped.{Stepped}

-- the reply is the step's, and there is a next state exactly where the command enters: the step's
pub record Does (stepped : Stepped) (before : State) (next : Option State) (reply : Reply) : Type 0 where
  pub replied : reply ≡ stepped.reply
  pub left : MatchOption next ((stepped.enters ≡ false) × (stepped.state ≡ before)) (λ after. (stepped.enters ≡ true) × (stepped.state ≡ after))

-- what stands there, or nothing
abbrev pub look_of : Option Found → Look
look_of None = not_found
look_of (Some there) = found there

-- a namespace's length can be written into a row
abbrev pub length_fits : Namespace → Bool
length_fits space = nat_lt (length_of space) (2 ^ 64)

-- What each machine keeps: each length can be written into a row, and the end is the greatest of a piece, or the
-- greatest number where that is less.
pub record IsMachine (namespaces : List Namespace) (revisions : List Revision) (sessions : List Session) (end : ℕ) : Type 0 where
  pub lengths : list_all length_fits namespaces ≡ true
  pub ends : end ≡ min (last_end (flat_map (λ kept. kept.file.pieces) revisions ++ flat_map session_pieces sessions)) (2 ^ 64 - 1)
