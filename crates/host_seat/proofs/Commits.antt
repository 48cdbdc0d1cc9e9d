-- A commit where nobody else commits and nothing waited.
use Rattle.std.proofs.Common.{◌≡◌, ℕ, refl, ◌∙◌, ap, List, [], Bool, true, false, Option, None, IsTrue}
use Rattle.fh_model.specs.declared.commands.Cmd.{Cmd}
use Rattle.fh_model.specs.declared.pieces.Piece.{Piece}
use Rattle.fh_model.specs.declared.replies.Reply.{Reply}
use Rattle.fh_model.specs.History.{Kept, with_more, next_of, reply_of}
use Rattle.fh_model.proofs.Runs.{with_nothing}
use Rattle.store_core.specs.Commit.{IsFetched}
use Rattle.store_core.specs.Store.{with_waiting}
use Rattle.host_seat.specs.Direct.{told_by}
use Rattle.host_seat.specs.Port.{Commits, Looks, OthersEnter, OfBoth, IsBlock, placed_at}

pub commits_alone : (old new : Kept) (waiting : Option Cmd) (cmd : Cmd) (bytes : List ℕ) (reply : Reply) → waiting ≡ None
    → reply ≡ reply_of (with_waiting old waiting) (placed_at (with_waiting old waiting) bytes cmd) → new ≡ next_of (with_waiting old waiting) (placed_at (with_waiting old waiting) bytes cmd)
    → Commits true old new cmd bytes reply
commits_alone old new waiting cmd bytes reply idle told grown =
    let same : with_waiting old waiting ≡ with_more old [] = ap (with_waiting old) idle ∙ with_nothing old in
    record {
      others = [];
      told = told ∙ ap (λ (k : Kept). reply_of k (placed_at k bytes cmd)) same;
      grown = grown ∙ ap (λ (k : Kept). next_of k (placed_at k bytes cmd)) same;
      mine = λ _. refl;
    }

-- a look where nobody else commits
pub looks_alone : (kept image : Kept) → image ≡ kept → Looks true kept kept image
looks_alone kept image shown = record { others = []; shown = shown; grown = with_nothing kept; mine = λ _. refl }

pub stays_alone : (kept : Kept) → OthersEnter true kept kept
stays_alone kept = record { others = []; grown = with_nothing kept; mine = λ _. refl }

-- ---- the block file, where the disk tells it

pub of_both : (tells : Bool) (old new : List ℕ) (P : List ℕ → List ℕ → Type 0) → (IsTrue tells → P old new) → OfBoth P (told_by tells old) (told_by tells new)
of_both true old new P is = is refl
of_both false old new P is = tt

-- a block that the store gave
pub is_block : (tells : Bool) (found : Option (Option Piece)) (blocks bytes : List ℕ) → IsFetched tells found blocks bytes → IsBlock found (told_by tells blocks) bytes
is_block true found blocks bytes is = record { piece = is.piece; there = is.there; len = is.len; slice = is.slice refl }
is_block false found blocks bytes is = record { piece = is.piece; there = is.there; len = is.len; slice = tt }
