-- The days of years and months, and what the text of a date says of them.
use Rattle.std.proofs.Common.{◌≡◌, ℕ, zero, suc, ◌+◌, ◌-◌, ◌%◌, ◌<◌, ◌≤◌, ◌==◌, ◌&&◌, ◌||◌, not, nat_lt, nat_le, Bool, true, false, if◌then◌else◌, codes, List, [], ◌∷◌, ◌++◌, take, length, refl, ap, ◌∙◌, arith}
use Rattle.std.proofs.lemmas.Bool.{and_parts, eqb-true, eqb-false, ltb-true, ltb-false, leb-true, lt-ltb, le-ltb}
use Rattle.std.specs.List.{list_all}
use Rattle.fh_model.specs.Stamps.{date_text, four, is_leap, month_lengths, month_text, two, year_length}
use Rattle.api_types.specs.Calendar.{days_in, days_through}

-- ---- years

next_by : (p : ℕ) (a b c : Bool) → ((p + 1) % 4 == 0) ≡ a → ((p + 1) % 100 == 0) ≡ b → ((p + 1) % 400 == 0) ≡ c
    → days_through (p + 1) ≡ days_through p + (if a && (not b || c) then 366 else 365)
unfolding days_through
next_by p true true true a b c =
    let f : (p + 1) % 4 ≡ 0 = eqb-true _ _ a in let h : (p + 1) % 100 ≡ 0 = eqb-true _ _ b in let q : (p + 1) % 400 ≡ 0 = eqb-true _ _ c in omega arith
next_by p true true false a b c =
    let f : (p + 1) % 4 ≡ 0 = eqb-true _ _ a in let h : (p + 1) % 100 ≡ 0 = eqb-true _ _ b in let q = eqb-false _ _ c in omega arith
next_by p true false true a b c =
    let q : (p + 1) % 400 ≡ 0 = eqb-true _ _ c in let h = eqb-false _ _ b in absurd (h (omega arith))
next_by p true false false a b c =
    let f : (p + 1) % 4 ≡ 0 = eqb-true _ _ a in let h = eqb-false _ _ b in let q = eqb-false _ _ c in omega arith
next_by p false true test a b c =
    let h : (p + 1) % 100 ≡ 0 = eqb-true _ _ b in let f = eqb-false _ _ a in absurd (f (omega arith))
next_by p false false true a b c =
    let q : (p + 1) % 400 ≡ 0 = eqb-true _ _ c in let f = eqb-false _ _ a in absurd (f (omega arith))
next_by p false false false a b c =
    let f = eqb-false _ _ a in let h = eqb-false _ _ b in let q = eqb-false _ _ c in omega arith

pub days_through-next : (p : ℕ) → days_through (p + 1) ≡ days_through p + year_length (p + 1)
days_through-next p = next_by p _ _ _ refl refl refl

-- the years before 1970, and those up to 9999
pub days_before_1970 : days_through 1969 ≡ 719162
unfolding days_through
days_before_1970 = refl

pub days_through_9999 : days_through 9999 ≡ 3652059
unfolding days_through
days_through_9999 = refl

if_true : (test : Bool) (some other : List ℕ) → test ≡ true → (if test then some else other) ≡ some
if_true true some other is = refl
if_true false some other is = absurd (cc)

if_false : (test : Bool) (some other : List ℕ) → test ≡ false → (if test then some else other) ≡ other
if_false true some other is = absurd (cc)
if_false false some other is = refl

-- a year that has so many days, and one that has fewer
pub date_stops : (fuel year left : ℕ) → 0 < fuel → left < year_length year
    → date_text fuel year left ≡ four year ++ codes "-" ++ month_text 1 left (month_lengths year)
date_stops zero year left some within = absurd (omega arith)
date_stops (suc fuel) year left some within = if_true (nat_lt left (year_length year)) _ _ (lt-ltb _ _ within)

pub date_goes_on : (fuel next year left : ℕ) → fuel ≡ suc next → year_length year ≤ left
    → date_text fuel year left ≡ date_text next (year + 1) (left - year_length year)
date_goes_on fuel next year left is gone =
    ap (λ n. date_text n year left) is ∙ if_false (nat_lt left (year_length year)) _ _ (le-ltb _ _ gone)

-- the text is of the year behind `last`, behind `left` of its days
pub record Year (text : List ℕ) (past fuel days : ℕ) : Type 0 where
  pub last : ℕ
  pub left : ℕ
  pub least : past ≤ last
  pub most : last < past + fuel
  pub at : days + days_through past ≡ left + days_through last
  pub within : left < year_length (last + 1)
  pub is : text ≡ four (last + 1) ++ codes "-" ++ month_text 1 left (month_lengths (last + 1))

year_by : (fuel past days : ℕ) (test : Bool) → nat_lt days (year_length (past + 1)) ≡ test
    → (year_length (past + 1) ≤ days → Year (date_text fuel (past + 1 + 1) (days - year_length (past + 1))) (past + 1) fuel (days - year_length (past + 1)))
    → Year (if test then four (past + 1) ++ codes "-" ++ month_text 1 days (month_lengths (past + 1)) else date_text fuel (past + 1 + 1) (days - year_length (past + 1))) past (suc fuel) days
year_by fuel past days true is next = record {
  last = past;
  left = days;
  least = omega arith;
  most = omega arith;
  at = refl;
  within = ltb-true _ _ is;
  is = refl;
}
year_by fuel past days false is next =
    let gone : year_length (past + 1) ≤ days = ltb-false _ _ is in
    let later = next gone in
    let step = days_through-next past in
    record {
      last = later.last;
      left = later.left;
      least = omega (arith, later.least);
      most = omega (arith, later.most);
      at = omega (arith, later.at);
      within = later.within;
      is = later.is;
    }

pub year_found : (fuel past days : ℕ) → days + days_through past < days_through (past + fuel) → Year (date_text fuel (past + 1) days) past fuel days
year_found zero past days few = let same : days_through (past + 0) ≡ days_through past = ap days_through (omega arith) in absurd (omega (arith, few))
year_found (suc fuel) past days few =
    year_by fuel past days (nat_lt days (year_length (past + 1))) refl
    (λ gone.
    let step = days_through-next past in
    let same : days_through (past + suc fuel) ≡ days_through (past + 1 + fuel) = ap days_through (omega arith) in
    year_found fuel (past + 1) (days - year_length (past + 1)) (omega (arith, few)))

-- ---- months

-- the text is of the month behind `over` months, behind `day` of its days
pub record Month (text : List ℕ) (month days : ℕ) (lens : List ℕ) : Type 0 where
  pub over : ℕ
  pub day : ℕ
  pub over_less : over < length lens
  pub day_most : day ≤ 30
  pub at : days ≡ days_in (take over lens) + day
  pub is : text ≡ two (month + over) ++ codes "-" ++ two (day + 1)

month_by : (month days len : ℕ) (lens : List ℕ) (test : Bool) → nat_lt days len ≡ test → len ≤ 31
    → (len ≤ days → Month (month_text (month + 1) (days - len) lens) (month + 1) (days - len) lens)
    → Month (if test then two month ++ codes "-" ++ two (days + 1) else month_text (month + 1) (days - len) lens) month days (len ∷ lens)
month_by month days len lens true is small next =
    let few = ltb-true days len is in
    record {
      over = 0;
      day = days;
      over_less = omega arith;
      day_most = omega arith;
      at = omega arith;
      is = let same : month ≡ month + 0 = omega arith in ap (λ m. two m ++ codes "-" ++ two (days + 1)) same;
    }
month_by month days len lens false is small next =
    let gone : len ≤ days = ltb-false days len is in
    let later = next gone in
    record {
      over = suc later.over;
      day = later.day;
      over_less = omega (arith, later.over_less);
      day_most = later.day_most;
      at = omega (arith, later.at);
      is = let same : month + 1 + later.over ≡ month + suc later.over = omega arith in later.is ∙ ap (λ m. two m ++ codes "-" ++ two (later.day + 1)) same;
    }

pub month_found : (month days : ℕ) (lens : List ℕ) → days < days_in lens → list_all (λ len. nat_le len 31) lens ≡ true → Month (month_text month days lens) month days lens
month_found month days [] few small = absurd (omega (arith, few))
month_found month days (len ∷ lens) few small =
    let parts = and_parts _ _ small in
    month_by month days len lens (nat_lt days len) refl (leb-true len 31 parts.0)
    (λ gone. month_found (month + 1) (days - len) lens (omega (arith, few)) parts.1)

-- ---- a year's months

sum_by : (leap : Bool) → days_in (31 ∷ (if leap then 29 else 28) ∷ 31 ∷ 30 ∷ 31 ∷ 30 ∷ 31 ∷ 31 ∷ 30 ∷ 31 ∷ 30 ∷ 31 ∷ []) ≡ (if leap then 366 else 365)
sum_by true = refl
sum_by false = refl

pub days_in-months : (year : ℕ) → days_in (month_lengths year) ≡ year_length year
days_in-months year = sum_by (is_leap year)

short_by : (leap : Bool) → list_all (λ len. nat_le len 31) (31 ∷ (if leap then 29 else 28) ∷ 31 ∷ 30 ∷ 31 ∷ 30 ∷ 31 ∷ 31 ∷ 30 ∷ 31 ∷ 30 ∷ 31 ∷ []) ≡ true
short_by true = refl
short_by false = refl

pub months_short : (year : ℕ) → list_all (λ len. nat_le len 31) (month_lengths year) ≡ true
months_short year = short_by (is_leap year)
