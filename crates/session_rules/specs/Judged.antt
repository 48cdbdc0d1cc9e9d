-- What the calls of this crate answer, by the definitions.
use Rattle.std.specs.Prelude.{◌≡◌, ◌<◌, ℕ, List, length, Option, None, Some}
use Rattle.fh_model.specs.declared.limits.TheConstants.{BLOCK_BYTES}
use Rattle.fh_model.specs.Content.{IsDigestOf}
use Rattle.fh_model.specs.Pieces.{data_of}
use Rattle.fh_model.specs.State.{State, token_user}
use Rattle.session_rules.specs.declared.asking.Asked.{Asked}
use Rattle.session_rules.specs.declared.asking.Asked.TheVariants as asked
use Rattle.session_rules.specs.declared.deciding.Caller.{Caller}
use Rattle.session_rules.specs.declared.deciding.Caller.TheVariants as caller
use Rattle.session_rules.specs.declared.deciding.HeadFault.{HeadFault}
use Rattle.session_rules.specs.declared.deciding.HeadFault.TheVariants.{UnknownRoute, NotPost, NoToken}
use Rattle.session_rules.specs.declared.wishing.Wish.{Wish}
use Rattle.session_rules.specs.declared.wishing.Wish.TheVariants as wish
use Rattle.session_rules.specs.Decisions.{Called, refused, calls, called_by, Decision, says, enters, looks, loads, asked_for}
use Rattle.session_rules.specs.Replies.{Said, answered, unknown_route, method_not_allowed, invalid_token, plain}

abbrev pub fault_said : HeadFault → Said
fault_said UnknownRoute = unknown_route
fault_said NotPost = method_not_allowed
fault_said NoToken = invalid_token

-- what the head comes to, in any state, by what was found without one
abbrev pub IsCalled : Caller → State → Option (List ℕ) → Called → Type 0
IsCalled (caller.Refused fault) s token it = it ≡ refused (fault_said fault)
IsCalled (caller.User route user) s token it = it ≡ calls route user
IsCalled (caller.Bearer route) s token it = (word : List ℕ) × (token ≡ Some word) × (it ≡ called_by route (token_user s word))

-- what is at hand of a body is its content, or the content has more than one block and is gone
abbrev pub IsBody : Option (List ℕ) → List ℕ → Type 0
IsBody (Some bytes) content = content ≡ bytes
IsBody None content = BLOCK_BYTES < length content

-- what an argument asks for, where it asks for something, or else the refusal
abbrev pub asked_as : Asked → ℕ → List ℕ → Decision
asked_as (asked.Request request) user content = asked_for user content request
asked_as (asked.Refused complaint) user content = says (plain 400 complaint.items)

-- what a request with this content comes to
abbrev pub decision_of : Wish → List ℕ → Decision
decision_of (wish.Refused complaint) content = says (plain 400 complaint.items)
decision_of (wish.Answered answer) content = says (answered answer)
decision_of (wish.Enter act digest) content = enters act (data_of act content)
decision_of (wish.Look user path) content = looks user path
decision_of (wish.Load user path) content = loads user path

abbrev pub IsDecision : Wish → List ℕ → Decision → Type 0
IsDecision wish content it = it ≡ decision_of wish content

-- a digest that was taken is that of the act's data, which come from these bytes
abbrev pub IsDigested : Wish → List ℕ → Type 0
IsDigested (wish.Enter act digest) bytes = IsDigestOf (data_of act bytes) digest
IsDigested (wish.Refused complaint) bytes = Unit {0}
IsDigested (wish.Answered answer) bytes = Unit {0}
IsDigested (wish.Look user path) bytes = Unit {0}
IsDigested (wish.Load user path) bytes = Unit {0}
