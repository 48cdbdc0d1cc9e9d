-- The trailers of a chunked body, under the limits of a head. Their grammar is httparse's.
use Rattle.std.specs.Prelude.{ℕ, ◌<◌, ◌≤◌, ◌⊎◌, List, length, take}
use Rattle.http_in.specs.declared.limits.TheConstants.{HEAD_MAX_BYTES, HEAD_MAX_LINES}
use Rattle.httparse.specs.Grammar.{Field, LineEnd, print_section, ReadsSection, HasNoSection, NeverHasSection, MayBecomeSection}

-- the bytes by which trailers are judged: at most as many as a head may have
abbrev pub trailer_bytes : List ℕ → List ℕ
trailer_bytes bytes = take HEAD_MAX_BYTES bytes

-- the bytes are trailers within the limits, and then rest
pub record BeginsWithTrailers (bytes : List ℕ) (fields : List Field) (last : LineEnd) (rest : List ℕ) : Type 0 where
  pub reads : ReadsSection bytes fields last rest
  pub short : length (print_section fields last) ≤ HEAD_MAX_BYTES
  pub few : length fields ≤ HEAD_MAX_LINES

-- whatever follows, no trailers begin the bytes
abbrev pub IsBadTrailers : List ℕ → Type 0
IsBadTrailers bytes = NeverHasSection (trailer_bytes bytes)

-- the bytes end inside trailers
pub record IsCutTrailers (bytes : List ℕ) : Type 0 where
  pub short : length bytes < HEAD_MAX_BYTES
  pub none : HasNoSection bytes
  pub hopeful : MayBecomeSection bytes

-- the judged bytes hold trailers of too many lines
abbrev pub HasManyTrailers : List ℕ → Type 0
HasManyTrailers bytes = (fields : List Field) × (last : LineEnd) × (rest : List ℕ)
    × ReadsSection (trailer_bytes bytes) fields last rest × (HEAD_MAX_LINES < length fields)

-- there are as many bytes as trailers may have, no whole trailers among them, and more bytes can make them
pub record IsOverlongTrailers (bytes : List ℕ) : Type 0 where
  pub long : HEAD_MAX_BYTES ≤ length bytes
  pub none : HasNoSection (trailer_bytes bytes)
  pub hopeful : MayBecomeSection (trailer_bytes bytes)

-- a limit of trailers is passed
abbrev pub IsLargeTrailers : List ℕ → Type 0
IsLargeTrailers bytes = HasManyTrailers bytes ⊎ IsOverlongTrailers bytes
