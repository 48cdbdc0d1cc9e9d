-- Days counted by years and by months.
use Rattle.std.specs.Prelude.{◌≡◌, ℕ, ◌+◌, ◌-◌, ◌*◌, ◌/◌, ◌<◌, codes, IsAscii, List, [], ◌∷◌, ◌++◌, length}
use Rattle.fh_model.specs.Stamps.{date_text, four, month_lengths, month_text, two, year_length}

-- the days of the years from 1 to this one
unfoldable pub days_through : ℕ → ℕ
days_through year = 365 * year + year / 4 + year / 400 - year / 100

-- the days of months with these lengths
abbrev pub days_in : List ℕ → ℕ
days_in [] = 0
days_in (len ∷ lens) = len + days_in lens

-- the text of a date, so many days after 1970 began, in the years up to 9999
unfoldable pub date_of : ℕ → List ℕ
date_of days = date_text 8030 1970 days

-- the date lies in this year, behind so many of its days
pub record IsYear (days year left : ℕ) : Type 0 where
  pub year_short : year < 10000
  pub within : left < year_length year
  pub text : date_of days ≡ four year ++ codes "-" ++ month_text 1 left (month_lengths year)

-- the text is that of a month and of a day of it
pub record IsMonth (text : List ℕ) (month day : ℕ) : Type 0 where
  pub month_short : month < 100
  pub day_short : day < 100
  pub is : text ≡ two month ++ codes "-" ++ two day

-- the text is that of the date so many days after 1970 began
pub record IsDate (days : ℕ) (text : List ℕ) : Type 0 where
  pub is : date_of days ≡ text
  pub ascii : IsAscii text
  pub long : length text ≡ 10
