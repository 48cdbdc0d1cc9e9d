-- The text of a moment: `2023-11-14T22:13:20Z`.
use Rattle.std.specs.Prelude.{ℕ, zero, suc, ◌+◌, ◌-◌, ◌/◌, ◌%◌, ◌==◌, ◌&&◌, ◌||◌, not, nat_lt, codes, Bool, if◌then◌else◌, List, [], ◌∷◌, ◌++◌}

-- two decimal digits, and four
abbrev pub two : ℕ → List ℕ
two n = (48 + n / 10) ∷ (48 + n % 10) ∷ []

abbrev pub four : ℕ → List ℕ
four n = two (n / 100) ++ two (n % 100)

abbrev pub is_leap : ℕ → Bool
is_leap year = (year % 4 == 0) && (not (year % 100 == 0) || (year % 400 == 0))

-- from January on
abbrev pub month_lengths : ℕ → List ℕ
month_lengths year = 31 ∷ (if is_leap year then 29 else 28) ∷ 31 ∷ 30 ∷ 31 ∷ 30 ∷ 31 ∷ 31 ∷ 30 ∷ 31 ∷ 30 ∷ 31 ∷ []

abbrev pub year_length : ℕ → ℕ
year_length year = if is_leap year then 366 else 365

-- the month with this number and its day, where so many days have passed since its first and these are the lengths of it
-- and the months behind it
abbrev pub month_text : ℕ → ℕ → List ℕ → List ℕ
month_text month days [] = []
month_text month days (len ∷ lens) =
    if nat_lt days len then two month ++ codes "-" ++ two (days + 1) else month_text (month + 1) (days - len) lens

-- the date, where so many days have passed since the first of this year, among so many years
abbrev pub date_text : ℕ → ℕ → ℕ → List ℕ
date_text zero year days = []
date_text (suc years) year days =
    if nat_lt days (year_length year) then four year ++ codes "-" ++ month_text 1 days (month_lengths year)
    else date_text years (year + 1) (days - year_length year)

abbrev pub time_text : ℕ → List ℕ
time_text seconds = two (seconds / 3600) ++ codes ":" ++ two (seconds / 60 % 60) ++ codes ":" ++ two (seconds % 60)

-- the text of a moment in seconds since 1970, in the years up to 9999
unfoldable pub stamp_text : ℕ → List ℕ
stamp_text moment = date_text 8030 1970 (moment / 86400) ++ codes "T" ++ time_text (moment % 86400) ++ codes "Z"
