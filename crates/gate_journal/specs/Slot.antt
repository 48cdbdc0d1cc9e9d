-- What the bytes of a slot stand for.
use Rattle.std.specs.Prelude.{◌≡◌, ◌≢◌, ◌⊎◌, ℕ, ◌+◌, ◌<◌, ◌^◌, zero, suc, List, [], ◌∷◌, ◌++◌, length, take, drop, get_or, if◌then◌else◌, ◌==◌, nat_lt}
use Rattle.std.specs.Int.{w64, to_be_bytes, from_be_bytes}

-- what stands behind a record's gate: the length in eight bytes, and the body
unfoldable pub behind_gate : List ℕ → List ℕ
behind_gate body = to_be_bytes w64 (length body) ++ body

-- the records of these bodies, each with an open gate
abbrev pub records : List (List ℕ) → List ℕ
records [] = []
records (body ∷ bodies) = 165 ∷ (behind_gate body ++ records bodies)

-- what is written behind a closed gate that, once open, adds these records: they, but for that gate, and a closed one
abbrev pub staged : List (List ℕ) → List ℕ
staged news = drop 1 (records news) ++ 0 ∷ []

-- each is short enough for its length field
abbrev pub AllShort : List (List ℕ) → Type 0
AllShort [] = Unit {0}
AllShort (body ∷ bodies) = (length body < 2 ^ 64) × AllShort bodies

-- the length field that these bytes begin with
unfoldable pub length_field : List ℕ → ℕ
length_field bytes = from_be_bytes w64 (take 8 bytes)

-- what a slot stands for: bodies, or nothing, for the place of a record that is damaged
pub data Found : Type 0 where
  Held : List (List ℕ) → Found
  Broken : ℕ → Found

-- one body more in front
abbrev pub prepend : List ℕ → Found → Found
prepend body (Held bodies) = Held (body ∷ bodies)
prepend body (Broken place) = Broken place

-- The records from a place on, up to the first gate that isn't open. A record behind which the file has no further
-- byte is broken, and so is a file that ends where its first gate is looked for. The first argument bounds how many
-- records are read.
abbrev pub read_from : ℕ → ℕ → List ℕ → Found
read_from zero place bytes = Broken place
read_from (suc bound) place [] = Broken place
read_from (suc bound) place (gate ∷ bytes) =
    if gate == 165
    then (if nat_lt (8 + length_field bytes) (length bytes)
    then prepend (take (length_field bytes) (drop 8 bytes))
    (read_from bound (place + 9 + length_field bytes) (drop (8 + length_field bytes) bytes))
    else Broken place)
    else Held []

-- what a slot's bytes stand for, which have more bytes than records
abbrev pub found : List ℕ → Found
found bytes = read_from (suc (length bytes)) 0 bytes

-- The slot begins with these records, and behind them stands a gate that isn't open.
pub record IsAtRest (bodies : List (List ℕ)) (bytes : List ℕ) : Type 0 where
  pub front : take (length (records bodies)) bytes ≡ records bodies
  pub closed : get_or bytes (length (records bodies)) 165 ≢ 165

-- The slot begins with these records, and behind a gate, whatever it is, stands what adds the new ones.
pub record IsStaged (bodies news : List (List ℕ)) (bytes : List ℕ) : Type 0 where
  pub front : take (length (records bodies)) bytes ≡ records bodies
  pub behind : take (length (staged news)) (drop (length (records bodies) + 1) bytes) ≡ staged news

-- the slot stands for these records
abbrev pub IsBefore : List (List ℕ) → List ℕ → Type 0
IsBefore bodies bytes = found bytes ≡ Held bodies

-- the slot stands for these records, with all of the new ones or with none
abbrev pub IsBeforeOrAfter : List (List ℕ) → List (List ℕ) → List ℕ → Type 0
IsBeforeOrAfter bodies news bytes = (found bytes ≡ Held bodies) ⊎ (found bytes ≡ Held (bodies ++ news))

-- these bytes are the rest of a record that has this body, and what follows it, which is a byte at least
pub record IsWhole (body rest bytes : List ℕ) : Type 0 where
  pub split : bytes ≡ behind_gate body ++ rest
  pub more : 0 < length rest
  pub short : length body < 2 ^ 64

-- the bytes begin with these records, which end at a place, and then come to the rest
pub record Begins (bodies : List (List ℕ)) (place : ℕ) (bytes rest : List ℕ) : Type 0 where
  pub split : bytes ≡ records bodies ++ rest
  pub at : place ≡ length (records bodies)
  pub short : AllShort bodies
  pub more : 0 < length bodies → 0 < length rest

-- nothing is said
abbrev pub IsAny : List ℕ → Type 0
IsAny bytes = Unit {0}
