-- How an upload becomes a file. The data of one that is refused is kept in a session, which the refusal names.
use Rattle.std.specs.Prelude.{ℕ, ◌+◌, ◌==◌, ◌&&◌, codes, Bool, true, false, not, if◌then◌else◌, List, [], ◌∷◌, ◌++◌, Option, None, Some}
use Rattle.std.specs.Option.{option_to_list}
use Rattle.fh_model.specs.declared.commands.Commit.{Commit}
use Rattle.fh_model.specs.declared.pieces.Piece.{Piece}
use Rattle.fh_model.specs.declared.replies.Reply.TheVariants as reply
use Rattle.fh_model.specs.declared.sessions.Session.{Session}
use Rattle.fh_model.specs.declared.state.User.{User}
use Rattle.fh_model.specs.Commits.{Committed, turned_down, written, commit_for}
use Rattle.fh_model.specs.Content.{are_blocks, size_of}
use Rattle.fh_model.specs.Pieces.{numbered}
use Rattle.fh_model.specs.State.{State}
use Rattle.fh_model.specs.Stepped.{Stepped, refused}

-- The data is no file's: a piece is drafted that the seat's draft has not, or the pieces are no blocks. No seat has a
-- draft yet.
abbrev pub has_gap : ℕ → List Piece → Bool
has_gap drafted pieces = not ((drafted == 0) && are_blocks pieces)

-- a closed session that holds all the data
abbrev pub session_of : ℕ → ℕ → ℕ → List Piece → Session
session_of number user moment pieces = record {
  number = number;
  user = user;
  concurrent = false;
  closed = true;
  start = moment;
  size = size_of pieces;
  pieces = numbered 0 pieces;
}

abbrev pub with_session : State → ℕ → ℕ → List Piece → List (List ℕ) → Stepped
with_session s moment user pieces tags = record {
  state = record s {
    sessions = s.sessions ++ session_of s.next.session user moment pieces ∷ [];
    next = record s.next { session = s.next.session + 1 };
    moment = moment;
  };
  reply = reply.Refused (record { tags = tags; session = Some s.next.session; offset = None });
  enters = true;
}

abbrev pub uploaded : State → ℕ → ℕ → List Piece → Committed → Stepped
uploaded s moment user pieces (turned_down tags) = with_session s moment user pieces tags
uploaded s moment user pieces (written after entry) = record { state = after; reply = reply.Entry entry; enters = true }

abbrev pub upload_pieces : State → ℕ → User → Commit → ℕ → List Piece → Stepped
upload_pieces s moment user commit drafted pieces =
    if has_gap drafted pieces then refused s (codes "draft_gap" ∷ [])
    else uploaded s moment user.number pieces (commit_for s moment user.home commit pieces)

abbrev pub upload : State → ℕ → Option User → Commit → ℕ → Option Piece → Stepped
upload s moment None commit drafted last = refused s (codes "user" ∷ codes "not_found" ∷ [])
upload s moment (Some user) commit drafted last = upload_pieces s moment user commit drafted (option_to_list last)
