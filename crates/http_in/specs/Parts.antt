-- What the fields of a head say beside the framing.
use Rattle.std.specs.Prelude.{◌≡◌, ℕ, List, map, take, drop, Bool, true, false, ◌&&◌, ◌||◌, ◌==◌, nat_lt, nat_le, if◌then◌else◌, Option, Some, None, option_map, option_and_then, codes}
use Rattle.std.specs.Str.{bytes_eq}
use Rattle.httparse.specs.Grammar.{RequestHead}
use Rattle.httparse.specs.Spans.{name_and_value}
use Rattle.http_in.specs.declared.head.Length.{Length}
use Rattle.http_in.specs.declared.head.Length.TheVariants.{Absent, Known, Chunked}
use Rattle.http_in.specs.declared.head.Head.{Head}
use Rattle.http_in.specs.declared.limits.TheConstants.{BODY_MAX_BYTES, CONTENT_MAX_BYTES}
use Rattle.http_in.specs.Fields.{is_same_name, find_field}
use Rattle.http_in.specs.Framing.{framing_in}

-- the routes whose bodies are the content of a file
abbrev pub is_content_target : List ℕ → Bool
is_content_target target =
    bytes_eq target (codes "/2/files/upload") || bytes_eq target (codes "/2/files/upload_session/start")
    || bytes_eq target (codes "/2/files/upload_session/append_v2") || bytes_eq target (codes "/2/files/upload_session/finish")

-- how many bytes the body of a request may have, by its target
abbrev pub limit_of : List ℕ → ℕ
limit_of target = if is_content_target target then CONTENT_MAX_BYTES else BODY_MAX_BYTES

-- the token behind the word `Bearer`, in any case, and one space
abbrev pub token_of : List ℕ → Option (List ℕ)
token_of v = if is_same_name (take 7 v) (codes "bearer ") then Some (drop 7 v) else None

-- the value is that word
abbrev pub says : List ℕ → Option (List ℕ) → Bool
says word None = false
says word (Some v) = is_same_name v word

-- a body comes, and it states neither no bytes nor more than it may have
abbrev pub awaits : ℕ → Length → Bool
awaits limit Absent = false
awaits limit (Known n) = nat_lt 0 n && nat_le n limit
awaits limit Chunked = true

-- the parts of a head with this request line and these fields
pub record IsPartsOf (method target : List ℕ) (minor : ℕ) (fields : List (List ℕ × List ℕ)) (head : Head) : Type 0 where
  pub method_is : head.method.items ≡ method
  pub target_is : head.target.items ≡ target
  pub token_is : option_map (λ v. v.items) head.token ≡ option_and_then token_of (find_field (codes "authorization") fields)
  pub arg_is : option_map (λ v. v.items) head.arg ≡ find_field (codes "dropbox-api-arg") fields
  pub length_is : framing_in fields ≡ Some head.length
  pub interim_is : head.interim ≡ ((minor == 1) && says (codes "100-continue") (find_field (codes "expect") fields) && awaits (limit_of target) head.length)
  pub last_is : head.last ≡ ((minor == 0) || says (codes "close") (find_field (codes "connection") fields))

-- the same of a head as the grammar has it
abbrev pub IsHeadOf : RequestHead → Head → Type 0
IsHeadOf h head = IsPartsOf h.method h.target h.minor (map name_and_value h.fields) head
