-- What the bytes left on a connection are, as far as the head of a request goes. Its grammar is httparse's.
use Rattle.std.specs.Prelude.{ℕ, ◌<◌, ◌≤◌, ◌⊎◌, List, length, take}
use Rattle.http_in.specs.declared.limits.TheConstants.{HEAD_MAX_BYTES, HEAD_MAX_LINES}
use Rattle.httparse.specs.Grammar.{RequestHead, print_request, ReadsRequest, HasNoRequest, NeverHasRequest, MayBecomeRequest, EndsInTarget}

-- the bytes by which a head is judged: at most as many as a head may have
abbrev pub judged : List ℕ → List ℕ
judged bytes = take HEAD_MAX_BYTES bytes

-- the bytes are a head within the limits, and then rest
pub record BeginsWithHead (bytes : List ℕ) (h : RequestHead) (rest : List ℕ) : Type 0 where
  pub reads : ReadsRequest bytes h rest
  pub short : length (print_request h) ≤ HEAD_MAX_BYTES
  pub few : length h.fields ≤ HEAD_MAX_LINES

-- no head is whole in the bytes
abbrev pub HasNoHead : List ℕ → Type 0
HasNoHead bytes = HasNoRequest bytes

-- the judged bytes hold a head of more than 64 field lines
abbrev pub HasManyFields : List ℕ → Type 0
HasManyFields bytes =
    (h : RequestHead) × (rest : List ℕ) × ReadsRequest (judged bytes) h rest × (HEAD_MAX_LINES < length h.fields)

-- there are as many bytes as a head may have, and no whole head among them, and more bytes can make one
pub record IsOverlong (bytes : List ℕ) : Type 0 where
  pub long : HEAD_MAX_BYTES ≤ length bytes
  pub unfinished : HasNoRequest (judged bytes)
  pub hopeful : MayBecomeRequest (judged bytes)

-- a limit of a head is passed
abbrev pub IsOver : List ℕ → Type 0
IsOver bytes = HasManyFields bytes ⊎ IsOverlong bytes

-- whatever follows, no head begins the bytes
abbrev pub IsBad : List ℕ → Type 0
IsBad bytes = NeverHasRequest (judged bytes)

-- the bytes end inside a head
pub record IsCut (bytes : List ℕ) : Type 0 where
  pub some : 0 < length bytes
  pub short : length bytes < HEAD_MAX_BYTES
  pub unfinished : HasNoRequest bytes
  pub hopeful : MayBecomeRequest bytes

-- the bytes end in a request target that no continuation makes one of a head, so that httparse may still wait
abbrev pub IsOpenTarget : List ℕ → Type 0
IsOpenTarget bytes = EndsInTarget (judged bytes) × IsBad bytes
