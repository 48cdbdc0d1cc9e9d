-- UTF-8 of a known length, by the table of well-formed byte sequences of the Unicode Standard.
use Rattle.std.specs.Prelude.{◌≡◌, ℕ, zero, suc, ◌-◌, Bool, ◌&&◌, ◌||◌, List, [], ◌∷◌, length, Option, Some, None, Ok, Err, nat_lt, nat_le, ◌==◌, if◌then◌else◌, IsUtf8}
use Rattle.byte_formats.specs.Formats.{◌>>=◌, Reading, Format, copies}
use Rattle.byte_formats.specs.declared.text.Awaited.{Awaited}
use Rattle.byte_formats.specs.declared.text.Awaited.TheVariants.{Lead, Within}

abbrev pub between : ℕ → ℕ → ℕ → Bool
between least most byte = nat_le least byte && nat_le byte most

-- how many bytes a character has after its first
abbrev pub bytes_after : ℕ → ℕ
bytes_after lead = if nat_lt lead 0x80 then 0 else if nat_lt lead 0xE0 then 1 else if nat_lt lead 0xF0 then 2 else 3

-- the least and the greatest second byte of a character
abbrev pub least_after : ℕ → ℕ
least_after lead = if lead == 0xE0 then 0xA0 else if lead == 0xF0 then 0x90 else 0x80

abbrev pub most_after : ℕ → ℕ
most_after lead = if lead == 0xED then 0x9F else if lead == 0xF4 then 0x8F else 0xBF

-- The byte may begin a character where so many bytes are left with it.
abbrev pub is_lead : ℕ → ℕ → Bool
is_lead left byte = (nat_lt byte 0x80 || between 0xC2 0xF4 byte) && nat_lt (bytes_after byte) left

abbrev pub allows : Awaited → ℕ → ℕ → Bool
allows Lead left byte = is_lead left byte
allows (Within least most more) left byte = between least most byte

-- what is awaited after a byte
abbrev pub after : Awaited → ℕ → Awaited
after Lead byte = if nat_lt byte 0x80 then Lead else Within (least_after byte) (most_after byte) (bytes_after byte - 1)
after (Within least most zero) byte = Lead
after (Within least most (suc more)) byte = Within 0x80 0xBF more

-- so many bytes of a text, byte by byte
unfoldable pub characters_at : Awaited → ℕ → List ℕ → Reading (List ℕ)
characters_at awaited zero bytes = Ok ([], bytes)
characters_at awaited (suc left) [] = Err 0
characters_at awaited (suc left) (byte ∷ rest) =
    if allows awaited (suc left) byte then (characters_at (after awaited byte) left rest >>= λ x. Ok (byte ∷ x.0, x.1)) else Err (length (byte ∷ rest))

abbrev pub characters : ℕ → Format (List ℕ)
characters n = record { spell = λ bytes. bytes; fits = λ bytes. (length bytes ≡ n) × IsUtf8 bytes; read = characters_at Lead n; some = copies n 0 }

-- how many bytes are left from the first bad one on
abbrev pub fault_of : {A : Type 0} → Reading A → Option ℕ
fault_of (Ok x) = None
fault_of (Err left) = Some left
