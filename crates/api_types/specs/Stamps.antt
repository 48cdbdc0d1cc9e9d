-- The texts of moments, which are read in the years from 1970 to 9999.
use Rattle.std.specs.Prelude.{◌≡◌, ℕ, zero, suc, ◌+◌, ◌≤◌, Bool, if◌then◌else◌, List, Option, None, Some}
use Rattle.std.specs.Str.{bytes_eq}
use Rattle.fh_model.specs.declared.limits.TheConstants.{LAST_SECOND}
use Rattle.fh_model.specs.Stamps.{stamp_text}

-- the text is that of this moment
abbrev pub IsStamp : List ℕ → ℕ → Type 0
IsStamp text seconds = (seconds ≤ LAST_SECOND) × (text ≡ stamp_text seconds)

-- the last of the numbers below this one that pass the test
unfoldable pub last_below : (ℕ → Bool) → ℕ → Option ℕ
last_below test zero = None
last_below test (suc n) = if test n then Some n else last_below test n

-- the moment that has this text, if there is one
unfoldable pub moment_of : List ℕ → Option ℕ
moment_of text = last_below (λ seconds. bytes_eq (stamp_text seconds) text) (LAST_SECOND + 1)
