-- What replies say: a status and a body, or the content of a file, and the text that these make.
use Rattle.std.specs.Prelude.{ℕ, codes, Bool, false, if◌then◌else◌, List, [], ◌∷◌, ◌++◌, Option, None, Some}
use Rattle.fh_model.specs.declared.changes.Node.{Node}
use Rattle.fh_model.specs.declared.commands.Act.{Act}
use Rattle.fh_model.specs.declared.changes.Node.TheVariants as node
use Rattle.fh_model.specs.declared.commands.Act.TheVariants.{MakeFolder, Upload}
use Rattle.fh_model.specs.declared.names.Name.{Name}
use Rattle.fh_model.specs.declared.pieces.Piece.{Piece}
use Rattle.fh_model.specs.declared.replies.Entry as entries
use Rattle.fh_model.specs.declared.replies.Entry.TheVariants as entry
use Rattle.fh_model.specs.declared.replies.Reply.{Reply}
use Rattle.fh_model.specs.declared.replies.Reply.TheVariants.{Entry, Refused}
use Rattle.fh_model.specs.Resolve.{Look, malformed, not_found, found}
use Rattle.session_rules.specs.declared.loading.Load.{Load}
use Rattle.session_rules.specs.declared.loading.Load.TheVariants as load
use Rattle.session_rules.specs.declared.looking.Form.{Form}
use Rattle.session_rules.specs.declared.looking.Form.TheVariants as form
use Rattle.http_in.specs.Parts.{is_content_target}
use Rattle.http_out.specs.HeaderSafe.{header_safe_text}
use Rattle.http_out.specs.Reply.{download_head_text, reply_text}
use Rattle.http_out.specs.declared.replying.BodyKind.{BodyKind}
use Rattle.http_out.specs.declared.replying.BodyKind.TheVariants as body
use Rattle.api_types.specs.declared.answer.Answer.{Answer}
use Rattle.api_types.specs.declared.answer.Answer.TheVariants.{Tagged, Plain, Wrapped, Error}
use Rattle.api_types.specs.declared.route.Route.{Route}
use Rattle.api_json.specs.Answers.{answer_text}
use Rattle.api_json.specs.Complaints.{complaint_text}
use Rattle.api_json.specs.declared.complaints.ArgumentFault.{ArgumentFault}

pub data Said : Type 0 where
  -- a status, and a body that is at hand whole
  whole : ℕ → BodyKind → List ℕ → Said
  -- the content of a file: the answer that tells of the file, its size, and the bytes that were sent of it
  sends : Answer → ℕ → List ℕ → Said

abbrev pub plain : ℕ → List ℕ → Said
plain status text = whole status body.Plain text

abbrev pub json : ℕ → List ℕ → Said
json status text = whole status body.Json text

-- what a download's head tells of the file
unfoldable pub metadata_of : Answer → List ℕ
metadata_of answer = header_safe_text (answer_text answer)

-- the text of a download's reply up to the content
abbrev pub head_of : Answer → ℕ → Bool → List ℕ
head_of answer size close = download_head_text (metadata_of answer) size close

-- the whole text of a reply, which may say that the connection ends
abbrev pub text_of : Said → Bool → List ℕ
text_of (whole status kind text) close = reply_text status kind text close
text_of (sends answer size bytes) close = head_of answer size close ++ bytes

-- ---- answers

abbrev pub status_of : Answer → ℕ
status_of (Tagged entry) = 200
status_of (Plain entry) = 200
status_of (Wrapped entry tagged) = 200
status_of (Error refusal) = 409

abbrev pub answered : Answer → Said
answered answer = json (status_of answer) (answer_text answer)

abbrev pub error_of : List (List ℕ) → Answer
error_of tags = Error (record { tags = tags; session = None; offset = None })

-- the form in which an act's entry is told
abbrev pub form_of : Act → Form
form_of (MakeFolder user path rename) = form.Wrapped
form_of (Upload user commit drafted last) = form.Plain

abbrev pub answer_in : Reply → Form → Answer
answer_in (Entry it) form.Wrapped = Wrapped it false
answer_in (Entry it) form.Plain = Plain it
answer_in (Refused refusal) told = Error refusal

-- what is told of the machine's reply to an act
abbrev pub answer_to : Act → Reply → Answer
answer_to act reply = answer_in reply (form_of act)

abbrev pub path_error : List ℕ → Answer
path_error tag = error_of (codes "path" ∷ tag ∷ [])

-- a mount point is shown as a folder
abbrev pub entry_at : List Name → Node → entries.Entry
entry_at names (node.File meta) = entry.File names meta
entry_at names (node.Folder id) = entry.Folder names id
entry_at names (node.Mount id ns) = entry.Folder names id

-- The root of a namespace has no metadata, and no request that asks for it comes so far.
abbrev pub answer_at : List Name → Option Node → Answer
answer_at names None = path_error (codes "not_found")
answer_at names (Some it) = Tagged (entry_at names it)

-- what is told of a path that was looked up
abbrev pub answer_to_look : Look → Answer
answer_to_look malformed = path_error (codes "malformed_path")
answer_to_look not_found = path_error (codes "not_found")
answer_to_look (found there) = answer_at there.names there.node

-- ---- downloads

abbrev pub no_load : List ℕ → Load
no_load tag = load.Answered (path_error tag)

-- the file that stands there, if one does
abbrev pub load_at : List Name → Option Node → Load
load_at names (Some (node.File meta)) = load.File names meta
load_at names (Some (node.Folder id)) = no_load (codes "not_file")
load_at names (Some (node.Mount id ns)) = no_load (codes "not_file")
load_at names None = no_load (codes "not_file")

-- what a path comes to whose content is asked for
abbrev pub load_of : Look → Load
load_of malformed = no_load (codes "malformed_path")
load_of not_found = no_load (codes "not_found")
load_of (found there) = load_at there.names there.node

abbrev pub said_by : List ℕ → Load → Said
said_by bytes (load.Answered answer) = answered answer
said_by bytes (load.File names meta) = sends (Plain (entry.File names meta)) meta.size bytes

-- what is told of it, where these bytes were sent of the content
abbrev pub sent_of : List ℕ → Look → Said
sent_of bytes look = said_by bytes (load_of look)

abbrev pub pieces_in : Load → List Piece
pieces_in (load.Answered answer) = []
pieces_in (load.File names meta) = meta.pieces

abbrev pub size_in : Load → ℕ
size_in (load.Answered answer) = 0
size_in (load.File names meta) = meta.size

-- the size that the head tells
abbrev pub size_in_look : Look → ℕ
size_in_look look = size_in (load_of look)

-- the pieces of which the bytes are
abbrev pub pieces_of : Look → List Piece
pieces_of look = pieces_in (load_of look)

-- ---- refusals that the machine has no part in

abbrev pub unknown_route : Said
unknown_route = plain 404 (codes "unknown route")

abbrev pub method_not_allowed : Said
method_not_allowed = plain 405 (codes "method not allowed")

abbrev pub invalid_token : Said
invalid_token = json 401 (codes "{\"error\":{\".tag\":\"invalid_access_token\"},\"error_summary\":\"invalid_access_token/...\"}")

abbrev pub bad_argument : Route → ArgumentFault → Said
bad_argument route fault = plain 400 (complaint_text route fault)

abbrev pub bad_request : Said
bad_request = plain 400 (codes "bad request")

abbrev pub head_too_large : Said
head_too_large = plain 431 (codes "head too large")

-- what is told of a content past the limit
unfoldable pub too_large_answer : Answer
too_large_answer = error_of (codes "payload_too_large" ∷ [])

-- what is told where the content isn't the one that was announced
unfoldable pub mismatch_answer : Answer
mismatch_answer = error_of (codes "content_hash_mismatch" ∷ [])

-- a body past the limit of its target
abbrev pub body_too_large : List ℕ → Said
body_too_large target = if is_content_target target then answered too_large_answer else plain 413 (codes "body too large")

abbrev pub out_of_memory : Said
out_of_memory = plain 503 (codes "out of memory")

-- ---- what comes before a reply

-- it tells a sender who waits to send the body
abbrev pub interim_text : List ℕ
interim_text = codes "HTTP/1.1 100 Continue\r\n\r\n"
