-- What a request comes to, in the order of refusals: a target that is no route, a method other than POST, a token that
-- is missing or nobody's, an argument that isn't read, and of an upload a content of more than one block, or one that
-- isn't the content that its argument names. Else it comes to an act with its data or to a look.
use Rattle.std.specs.Prelude.{ℕ, nat_lt, codes, Bool, true, if◌then◌else◌, List, [], length, Option, None, Some, Result, Ok, Err}
use Rattle.std.specs.Str.{bytes_eq}
use Rattle.fh_model.specs.declared.commands.Act.{Act}
use Rattle.fh_model.specs.declared.commands.Act.TheVariants as act
use Rattle.fh_model.specs.declared.commands.Commit.{Commit}
use Rattle.fh_model.specs.declared.limits.TheConstants.{BLOCK_BYTES}
use Rattle.fh_model.specs.declared.pieces.Bytes32.{Bytes32}
use Rattle.fh_model.specs.Content.{content_hash}
use Rattle.fh_model.specs.State.{State, token_user}
use Rattle.api_types.specs.declared.request.Request.{Request}
use Rattle.api_types.specs.declared.request.Request.TheVariants.{CreateFolder, GetMetadata, Upload, Download}
use Rattle.api_types.specs.declared.route.Route.{Route}
use Rattle.api_types.specs.Routes.{has_content, route_of}
use Rattle.api_json.specs.Arguments.{read_of}
use Rattle.api_json.specs.declared.complaints.ArgumentFault.{ArgumentFault}
use Rattle.api_json.specs.declared.complaints.ArgumentFault.TheVariants as complaint
use Rattle.api_json.specs.declared.reading.ReadFault.{ReadFault}
use Rattle.api_json.specs.declared.reading.ReadFault.TheVariants.{BadJson, BadField, NoMemory}
use Rattle.session_rules.specs.Replies.{Said, answered, unknown_route, method_not_allowed, invalid_token, bad_argument, mismatch_answer, too_large_answer}

-- ---- by the head

-- a refusal, or a user who calls a route
pub data Called : Type 0 where
  refused : Said → Called
  calls : Route → ℕ → Called

-- the user of a token; the admin word is user 1's, whatever tokens there are
abbrev pub user_by : List ℕ → State → Option (List ℕ) → Option ℕ
user_by admin s None = None
user_by admin s (Some token) = if bytes_eq admin token then Some 1 else token_user s token

abbrev pub called_by : Route → Option ℕ → Called
called_by route None = refused invalid_token
called_by route (Some user) = calls route user

abbrev pub called_on : List ℕ → State → List ℕ → Option (List ℕ) → Option Route → Called
called_on admin s method token None = refused unknown_route
called_on admin s method token (Some route) =
    if bytes_eq method (codes "POST") then called_by route (user_by admin s token) else refused method_not_allowed

-- by the admin word, a state that has the tokens, and the head's method, target and token
abbrev pub called : List ℕ → State → List ℕ → List ℕ → Option (List ℕ) → Called
called admin s method target token = called_on admin s method token (route_of target)

-- ---- by the body

pub data Decision : Type 0 where
  -- a reply that the machine has no part in
  says : Said → Decision
  -- an act that is to enter, with its data
  enters : Act → List ℕ → Decision
  -- a path that is to be looked up for a user
  looks : ℕ → List ℕ → Decision
  -- and one whose content is to be sent
  loads : ℕ → List ℕ → Decision

-- the content is the one that was announced, if one was
abbrev pub is_announced : Option Bytes32 → List ℕ → Bool
is_announced None content = true
is_announced (Some hash) content = bytes_eq hash.bytes (content_hash content)

abbrev pub upload_act : ℕ → Commit → Act
upload_act user commit = act.Upload user commit 0 None

abbrev pub uploads : ℕ → Commit → Option Bytes32 → List ℕ → Decision
uploads user commit hash content =
    if nat_lt BLOCK_BYTES (length content) then says (answered too_large_answer)
    else if is_announced hash content then enters (upload_act user commit) content
    else says (answered mismatch_answer)

abbrev pub asked_for : ℕ → List ℕ → Request → Decision
asked_for user content (CreateFolder path autorename) = enters (act.MakeFolder user path autorename) []
asked_for user content (GetMetadata path) = looks user path
asked_for user content (Upload commit hash) = uploads user commit hash content
asked_for user content (Download path) = loads user path

-- reading an argument needs memory, but what an argument says does not
abbrev pub complaint_of : ReadFault → ArgumentFault
complaint_of BadJson = complaint.BadJson
complaint_of (BadField name) = complaint.BadField name
complaint_of NoMemory = complaint.BadJson

abbrev pub read_as : Route → ℕ → List ℕ → Result Request ReadFault → Decision
read_as route user content (Ok request) = asked_for user content request
read_as route user content (Err fault) = says (bad_argument route (complaint_of fault))

-- where the argument stands: in its header, if the body is a content, or else in the body
abbrev pub argument_in : Route → Option (List ℕ) → List ℕ → Option (List ℕ)
argument_in route arg content = if has_content route then arg else Some content

abbrev pub argued_by : Route → ℕ → List ℕ → Option (List ℕ) → Decision
argued_by route user content None = says (bad_argument route complaint.MissingHeader)
argued_by route user content (Some argument) = read_as route user content (read_of route argument)

-- by the header of arguments, if it is there, and the content of the body
abbrev pub argued : Route → ℕ → Option (List ℕ) → List ℕ → Decision
argued route user arg content = argued_by route user content (argument_in route arg content)

-- ---- the whole

abbrev pub decided : Option (List ℕ) → List ℕ → Called → Decision
decided arg content (refused it) = says it
decided arg content (calls route user) = argued route user arg content

abbrev pub decide : List ℕ → State → List ℕ → List ℕ → Option (List ℕ) → Option (List ℕ) → List ℕ → Decision
decide admin s method target token arg content = decided arg content (called admin s method target token)
