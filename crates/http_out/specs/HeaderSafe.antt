-- JSON that may stand in a header: each character from 0x7F on is written as `\u` and hex digits.
use Rattle.std.specs.Prelude.{ℕ, ◌+◌, ◌-◌, ◌/◌, ◌%◌, nat_lt, chars, if◌then◌else◌, List, [], ◌∷◌, ◌++◌, flat_map}
use Rattle.std.specs.Char.{digit_char}

-- a UTF-16 unit, with four lower-case digits
unfoldable pub unit_text : ℕ → List ℕ
unit_text unit = 92 ∷ 117 ∷ digit_char (unit / 4096) ∷ digit_char (unit / 256 % 16) ∷ digit_char (unit / 16 % 16) ∷ digit_char (unit % 16) ∷ []

-- a character of two units
abbrev pub pair_text : ℕ → List ℕ
pair_text above = unit_text (55296 + above / 1024) ++ unit_text (56320 + above % 1024)

unfoldable pub safe_char : ℕ → List ℕ
safe_char c = if nat_lt c 127 then c ∷ [] else (if nat_lt c 65536 then unit_text c else pair_text (c - 65536))

abbrev pub header_safe_text : List ℕ → List ℕ
header_safe_text json = flat_map safe_char (chars json)
