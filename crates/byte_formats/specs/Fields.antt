-- The plain fields: bytes, numbers, moments, truth values, and a field that may be absent.
use Rattle.std.specs.Prelude.{◌≡◌, ℕ, zero, suc, ◌<◌, ◌≤◌, ◌^◌, Bool, true, false, List, [], ◌∷◌, length, take, drop, get_or, Option, Some, None, IfSome, Ok, Err, nat_lt, ◌==◌, if◌then◌else◌}
use Rattle.std.specs.Int.{Width, w32, w64, byte_len, from_be_bytes, to_be_bytes}
use Rattle.byte_formats.specs.Formats.{◌>>=◌, Reading, Format, copies}

-- ---- so many bytes as they stand

abbrev pub IsBytes : List ℕ → Type 0
IsBytes bytes = (i : ℕ) → get_or bytes i 0 < 256

abbrev pub octets_at : ℕ → List ℕ → Reading (List ℕ)
octets_at n bytes = if nat_lt (length bytes) n then Err 0 else Ok (take n bytes, drop n bytes)

abbrev pub octets : ℕ → Format (List ℕ)
octets n = record { spell = λ bytes. bytes; fits = λ bytes. (length bytes ≡ n) × IsBytes bytes; read = octets_at n; some = copies n 0 }

-- ---- a number of so many bytes, the highest first

abbrev pub number_at : Width → List ℕ → Reading ℕ
number_at w bytes = if nat_lt (length bytes) (byte_len w) then Err 0 else Ok (from_be_bytes w (take (byte_len w) bytes), drop (byte_len w) bytes)

abbrev pub number : Width → ℕ → Format ℕ
number w limit = record { spell = to_be_bytes w; fits = λ n. n < limit; read = number_at w; some = 0 }

abbrev pub n32 : Format ℕ
n32 = number w32 (2 ^ 32)

abbrev pub n64 : Format ℕ
n64 = number w64 (2 ^ 64)

-- ---- a moment in seconds, of eight bytes

-- 9999-12-31T23:59:59Z, and its bytes
abbrev pub last_second : ℕ
last_second = 253402300799

abbrev pub last_second_bytes : List ℕ
last_second_bytes = 0 ∷ 0 ∷ 0 ∷ 58 ∷ 255 ∷ 244 ∷ 65 ∷ 127 ∷ []

-- how many bytes are left from the first one on that takes the number over the limit
abbrev pub over_at : List ℕ → List ℕ → Option ℕ
over_at [] bytes = None
over_at (l ∷ ls) [] = None
over_at (l ∷ ls) (b ∷ rest) = if nat_lt b l then None else if b == l then over_at ls rest else Some (length (b ∷ rest))

abbrev pub unless_over : {A : Type 0} → Option ℕ → Reading A → Reading A
unless_over None read = read
unless_over (Some left) read = Err left

unfoldable pub moment_at : List ℕ → Reading ℕ
moment_at bytes = unless_over (over_at last_second_bytes bytes) (number_at w64 bytes)

abbrev pub moment : Format ℕ
moment = record { spell = to_be_bytes w64; fits = λ n. n ≤ last_second; read = moment_at; some = 0 }

-- ---- a truth value: 0 or 1

unfoldable pub flag_at : List ℕ → Reading Bool
flag_at [] = Err 0
flag_at (zero ∷ rest) = Ok (false, rest)
flag_at (suc zero ∷ rest) = Ok (true, rest)
flag_at (suc (suc b) ∷ rest) = Err (length (suc (suc b) ∷ rest))

abbrev pub flag : Format Bool
flag = record { spell = λ b. (if b then 1 else 0) ∷ []; fits = λ _. Unit {0}; read = flag_at; some = false }

-- ---- a field that may be absent: 0, or 1 and the field

abbrev pub optional_at : {A : Type 0} → (List ℕ → Reading A) → List ℕ → Reading (Option A)
optional_at read [] = Err 0
optional_at read (zero ∷ rest) = Ok (None, rest)
optional_at read (suc zero ∷ rest) = read rest >>= λ x. Ok (Some x.0, x.1)
optional_at read (suc (suc b) ∷ rest) = Err (length (suc (suc b) ∷ rest))

abbrev pub optional_spell : {A : Type 0} → (A → List ℕ) → Option A → List ℕ
optional_spell spell None = 0 ∷ []
optional_spell spell (Some a) = 1 ∷ spell a

abbrev pub optional : {A : Type 0} → Format A → Format (Option A)
optional f = record { spell = optional_spell f.spell; fits = λ o. IfSome o f.fits; read = optional_at f.read; some = None }

-- ---- nothing at all, which stands for one value

abbrev pub alone : {A : Type 0} → A → Format A
alone a = record { spell = λ _. []; fits = λ b. b ≡ a; read = λ bytes. Ok (a, bytes); some = a }
