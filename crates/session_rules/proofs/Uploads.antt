-- What an upload comes to by its content.
use Rattle.std.proofs.Common.{◌≡◌, ℕ, ◌<◌, ◌≤◌, true, false, List, length, Option, nat_lt, ◌∙◌, lt-ltb, le-ltb}
use Rattle.fh_model.specs.declared.commands.Commit.{Commit}
use Rattle.fh_model.specs.declared.pieces.Bytes32.{Bytes32}
use Rattle.session_rules.specs.Decisions.{says, enters, is_announced, upload_act, uploads}
use Rattle.session_rules.specs.Replies.{answered, mismatch_answer, too_large_answer}
use Rattle.session_rules.proofs.Choices.{chosen, passed}

pub uploads_large : (user : ℕ) (commit : Commit) (hash : Option Bytes32) (content : List ℕ) → 4194304 < length content
    → uploads user commit hash content ≡ says (answered too_large_answer)
uploads_large user commit hash content large = chosen (nat_lt 4194304 (length content)) _ _ (lt-ltb _ _ large)

pub uploads_another : (user : ℕ) (commit : Commit) (hash : Option Bytes32) (content : List ℕ) → length content ≤ 4194304
    → is_announced hash content ≡ false → uploads user commit hash content ≡ says (answered mismatch_answer)
uploads_another user commit hash content short other =
    passed (nat_lt 4194304 (length content)) _ _ (le-ltb _ _ short) ∙ passed (is_announced hash content) _ _ other

pub uploads_announced : (user : ℕ) (commit : Commit) (hash : Option Bytes32) (content : List ℕ) → length content ≤ 4194304
    → is_announced hash content ≡ true → uploads user commit hash content ≡ enters (upload_act user commit) content
uploads_announced user commit hash content short same =
    passed (nat_lt 4194304 (length content)) _ _ (le-ltb _ _ short) ∙ chosen (is_announced hash content) _ _ same
