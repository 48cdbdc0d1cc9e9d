-- The JSON of answers. Fields stand in the byte order of their keys, and a text is compact, as `serde_json` writes it.
use Rattle.std.specs.Prelude.{ℕ, ◌-◌, codes, Bool, true, false, if◌then◌else◌, List, [], ◌∷◌, ◌++◌, flat_map, length, replicate, Option, None, Some}
use Rattle.std.specs.Fmt.{digits}
use Rattle.hex.specs.Hex.{encode_lower}
use Rattle.serde_json.specs.Data.{Data, Members, boolean, member, no_members, number, object, string, unsigned}
use Rattle.serde_json.specs.Written.{compact_text}
use Rattle.fh_model.specs.declared.files.FileMeta.{FileMeta}
use Rattle.fh_model.specs.declared.names.Name.{Name}
use Rattle.fh_model.specs.declared.replies.Entry.{Entry}
use Rattle.fh_model.specs.declared.replies.Entry.TheVariants.{File, Folder}
use Rattle.fh_model.specs.declared.replies.Refusal.{Refusal}
use Rattle.fh_model.specs.Paths.{display_of, last_shown, lower_of}
use Rattle.fh_model.specs.Stamps.{stamp_text}
use Rattle.api_types.specs.declared.answer.Answer.{Answer}
use Rattle.api_types.specs.declared.answer.Answer.TheVariants.{Tagged, Plain, Wrapped, Error}

-- a key and its value
abbrev pub Field : Type 0
Field = List ℕ × Data

abbrev pub members_of : List Field → Members
members_of [] = no_members
members_of (field ∷ fields) = member field.0 field.1 (members_of fields)

abbrev pub object_of : List Field → Data
object_of fields = object (members_of fields)

-- ---- numbers

-- 16 lower-case hex digits
abbrev pub hex16 : ℕ → List ℕ
hex16 n = let shown = digits 16 false n in replicate (16 - length shown) 48 ++ shown

abbrev pub id_text : ℕ → List ℕ
id_text id = codes "id:" ++ hex16 id

abbrev pub session_text : ℕ → List ℕ
session_text session = codes "us:" ++ hex16 session

-- ---- entries

abbrev pub tag_of : Entry → List ℕ
tag_of (File names meta) = codes "file"
tag_of (Folder names id) = codes "folder"

abbrev pub version_fields : FileMeta → List Field
version_fields meta =
    (codes "rev", string (hex16 meta.rev)) ∷
    (codes "server_modified", string (stamp_text meta.server)) ∷
    (codes "size", number (unsigned meta.size)) ∷ []

abbrev pub named_fields : List Name → FileMeta → List Field
named_fields names meta =
    (codes "name", string (last_shown names)) ∷
    (codes "path_display", string (display_of names)) ∷
    (codes "path_lower", string (lower_of names)) ∷ version_fields meta

abbrev pub file_fields : List Name → FileMeta → List Field
file_fields names meta =
    (codes "client_modified", string (stamp_text meta.client)) ∷
    (codes "content_hash", string (encode_lower meta.hash.bytes)) ∷
    (codes "id", string (id_text meta.id)) ∷
    (codes "is_downloadable", boolean true) ∷ named_fields names meta

abbrev pub entry_fields : Entry → List Field
entry_fields (File names meta) = file_fields names meta
entry_fields (Folder names id) =
    (codes "id", string (id_text id)) ∷
    (codes "name", string (last_shown names)) ∷
    (codes "path_display", string (display_of names)) ∷
    (codes "path_lower", string (lower_of names)) ∷ []

-- with its tag or without
abbrev pub entry_data : Bool → Entry → Data
entry_data tagged entry =
    object_of (if tagged then (codes ".tag", string (tag_of entry)) ∷ entry_fields entry else entry_fields entry)

-- ---- refusals

abbrev pub offset_fields : Option ℕ → List Field
offset_fields None = []
offset_fields (Some offset) = (codes "correct_offset", number (unsigned offset)) ∷ []

-- the tags, each within the one before, and within the last the offset that would have been right, where it is told
abbrev pub nested : Option ℕ → List (List ℕ) → Data
nested offset [] = object_of (offset_fields offset)
nested offset (tag ∷ []) = object_of ((codes ".tag", string tag) ∷ offset_fields offset)
nested offset (tag ∷ inner ∷ tags) = object_of ((codes ".tag", string tag) ∷ (tag, nested offset (inner ∷ tags)) ∷ [])

abbrev pub session_fields : ℕ → List Field
session_fields session = (codes "upload_session_id", string (session_text session)) ∷ []

abbrev pub with_reason : ℕ → Option ℕ → List ℕ → List (List ℕ) → Data
with_reason session offset tag reason =
    object_of ((codes ".tag", string tag) ∷ (codes "reason", nested offset reason) ∷ session_fields session)

-- a refused upload names the session that holds its data, and the tags behind the first are its reason
abbrev pub with_session : ℕ → Option ℕ → List (List ℕ) → Data
with_session session offset [] = object_of (session_fields session)
with_session session offset (tag ∷ tags) = with_reason session offset tag tags

abbrev pub error_in : Option ℕ → Option ℕ → List (List ℕ) → Data
error_in None offset tags = nested offset tags
error_in (Some session) offset tags = with_session session offset tags

abbrev pub error_data : Refusal → Data
error_data refusal = error_in refusal.session refusal.offset refusal.tags

-- the tags, each before a slash, and three dots
abbrev pub summary : List (List ℕ) → List ℕ
summary tags = flat_map (λ tag. tag ++ codes "/") tags ++ codes "..."

abbrev pub refusal_fields : Refusal → List Field
refusal_fields refusal =
    (codes "error", error_data refusal) ∷
    (codes "error_summary", string (summary refusal.tags)) ∷ []

-- ---- answers

abbrev pub answer_data : Answer → Data
answer_data (Tagged entry) = entry_data true entry
answer_data (Plain entry) = entry_data false entry
answer_data (Wrapped entry tagged) = object_of ((codes "metadata", entry_data tagged entry) ∷ [])
answer_data (Error refusal) = object_of (refusal_fields refusal)

abbrev pub answer_text : Answer → List ℕ
answer_text answer = compact_text (answer_data answer)
