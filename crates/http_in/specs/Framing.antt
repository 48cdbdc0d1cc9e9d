-- How the fields of a head frame its body.
use Rattle.std.specs.Prelude.{◌≡◌, ℕ, ◌+◌, ◌-◌, ◌*◌, List, [], ◌∷◌, length, map, Bool, true, false, ◌&&◌, nat_lt, nat_le, if◌then◌else◌, Option, Some, None, option_map, codes}
use Rattle.std.specs.Char.{is_ascii_digit}
use Rattle.httparse.specs.Grammar.{RequestHead}
use Rattle.httparse.specs.Spans.{name_and_value}
use Rattle.http_in.specs.declared.head.Length.{Length}
use Rattle.http_in.specs.declared.head.Length.TheVariants.{Absent, Known, Chunked}
use Rattle.http_in.specs.declared.limits.TheConstants.{LENGTH_MAX_DIGITS}
use Rattle.http_in.specs.Fields.{is_same_name, find_field}
use Rattle.http_in.specs.Heads.{BeginsWithHead}

-- the number that the digits write behind those of n
abbrev pub number_after : ℕ → List ℕ → Option ℕ
number_after n [] = Some n
number_after n (d ∷ ds) = if is_ascii_digit d then number_after (n * 10 + (d - 48)) ds else None

-- the number of 1 to 18 digits
abbrev pub stated_length : List ℕ → Option ℕ
stated_length v = if nat_lt 0 (length v) && nat_le (length v) LENGTH_MAX_DIGITS then number_after 0 v else None

-- how often a field of that name stands
abbrev pub count_named : List ℕ → List (List ℕ × List ℕ) → ℕ
count_named name [] = 0
count_named name (f ∷ fs) = (if is_same_name f.0 name then 1 else 0) + count_named name fs

-- the framing by the first `Content-Length`, whether it stands once, and the first `Transfer-Encoding`
abbrev pub framing_by : Option (List ℕ) → Bool → Option (List ℕ) → Option Length
framing_by None once None = Some Absent
framing_by (Some v) true None = option_map Known (stated_length v)
framing_by (Some v) false None = None
framing_by None once (Some w) = if is_same_name w (codes "chunked") then Some Chunked else None
framing_by (Some v) once (Some w) = None

-- the framing that these fields state, if they state one
abbrev pub framing_in : List (List ℕ × List ℕ) → Option Length
framing_in fields =
    framing_by (find_field (codes "content-length") fields) (nat_lt (count_named (codes "content-length") fields) 2)
    (find_field (codes "transfer-encoding") fields)

-- they state one
abbrev pub StatesFraming : List (List ℕ × List ℕ) → Type 0
StatesFraming fields = (framing : Length) × (framing_in fields ≡ Some framing)

-- and of a head
abbrev pub framing_of : RequestHead → Option Length
framing_of h = framing_in (map name_and_value h.fields)

-- a head begins the bytes, and frames no body
pub record IsMisframed (bytes : List ℕ) : Type 0 where
  pub head : RequestHead
  pub rest : List ℕ
  pub begins : BeginsWithHead bytes head rest
  pub unframed : framing_of head ≡ None

-- a head begins the bytes, and frames its body
pub record IsFramed (bytes : List ℕ) : Type 0 where
  pub head : RequestHead
  pub rest : List ℕ
  pub begins : BeginsWithHead bytes head rest
  pub framed : StatesFraming (map name_and_value head.fields)
