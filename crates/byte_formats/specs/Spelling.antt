-- When bytes are the spelling of a value, and which of them is the first bad one where they are none.
use Rattle.std.specs.Prelude.{◌≡◌, ℕ, ◌<◌, ◌≤◌, ◌+◌, List, ◌++◌, length, take, Result, Ok, Err, ◌==◌, if◌then◌else◌}
use Rattle.byte_formats.specs.Formats.{◌>>=◌, Reading, Format}

-- All of the bytes are the spelling of the value.
pub record Spells {A : Type 0} (f : Format A) (bytes : List ℕ) (a : A) : Type 0 where
  pub fits : f.fits a
  pub parts : bytes ≡ f.spell a

-- The bytes spell nothing, and this is the first place such that no spelling begins with the bytes up to and with it,
-- or their length where each byte could still belong to a spelling.
pub record IsFirstBad {A : Type 0} (f : Format A) (bytes : List ℕ) (place : ℕ) : Type 0 where
  pub within : place ≤ length bytes
  pub no_spelling : (a : A) → Spells f bytes a → ⊥
  pub before : (a : A) × (more : List ℕ) × Spells f (take place bytes ++ more) a
  pub here : place < length bytes → (a : A) (more : List ℕ) → Spells f (take (place + 1) bytes ++ more) a → ⊥

-- what is read from the front of bytes, where no byte is left after it
abbrev pub whole_at : {A : Type 0} → (List ℕ → Reading A) → List ℕ → Result A ℕ
whole_at read bytes = read bytes >>= λ x. if length x.1 == 0 then Ok x.0 else Err (length x.1)
