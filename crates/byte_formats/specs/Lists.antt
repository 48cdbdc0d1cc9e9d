-- Lists and texts behind their length of four bytes.
use Rattle.std.specs.Prelude.{ℕ, List, length}
use Rattle.byte_formats.specs.Formats.{◌>>=◌, Reading, Format, follows, made, times, times_at}
use Rattle.byte_formats.specs.Fields.{n32}
use Rattle.byte_formats.specs.Texts.{characters}

abbrev pub with_length : {A : Type 0} → (ℕ → Format (List A)) → Format (List A)
with_length f = made (λ x. x.1) (λ xs. (length xs, xs)) (follows n32 f)

-- the bytes of a text, which are UTF-8, behind how many they are
abbrev pub text : Format (List ℕ)
text = with_length characters

-- the items of a list behind how many they are
abbrev pub many : {A : Type 0} → Format A → Format (List A)
many f = with_length (times f)

abbrev pub many_at : {A : Type 0} → (List ℕ → Reading A) → List ℕ → Reading (List A)
many_at read bytes = n32.read bytes >>= λ n. times_at read n.0 n.1
