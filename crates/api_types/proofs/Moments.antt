-- What the text of a moment shows.
use Rattle.std.proofs.Common.{◌≡◌, ℕ, ◌+◌, ◌-◌, ◌*◌, ◌/◌, ◌%◌, ◌<◌, ◌≤◌, codes, List, [], ◌∷◌, ◌++◌, take, drop, length, IsAscii, refl, sym, ap, ◌∙◌, append_assoc, arith}
use Rattle.std.proofs.Math.Seq.{take-append_seam}
use Rattle.std.proofs.lemmas.List.{take-append-drop}
use Rattle.std.proofs.lemmas.Str.Ascii.{IsAscii-cons, IsAscii-nil}
use Rattle.fh_model.specs.Stamps.{date_text, four, month_lengths, month_text, stamp_text, time_text, two}
use Rattle.api_types.specs.Calendar.{date_of, days_in, days_through}
use Rattle.api_types.specs.Stamps.{IsStamp}
use Rattle.api_types.proofs.Days.{Month, Year, days_before_1970, days_in-months, days_through_9999, month_found, months_short, year_found}

-- the text of a time of the day, between its letters
abbrev pub clock : ℕ → List ℕ
clock seconds = codes "T" ++ time_text seconds ++ codes "Z"

-- ---- ASCII

pub record Ascii (bytes : List ℕ) : Type 0 where
  pub is : IsAscii bytes

ascii_cons : (byte : ℕ) {bytes : List ℕ} → byte < 128 → Ascii bytes → Ascii (byte ∷ bytes)
ascii_cons byte {bytes} few rest = record { is = IsAscii-cons byte bytes few rest.is }

pub date_ascii : (a b c d e f g h : ℕ) → a < 58 → b < 58 → c < 58 → d < 58 → e < 58 → f < 58 → g < 58 → h < 58
    → Ascii (a ∷ b ∷ c ∷ d ∷ 45 ∷ e ∷ f ∷ 45 ∷ g ∷ h ∷ [])
date_ascii a b c d e f g h i j k l m n o p =
    let none : Ascii [] = record { is = IsAscii-nil } in
    ascii_cons a (omega arith) (ascii_cons b (omega arith) (ascii_cons c (omega arith) (ascii_cons d (omega arith) (ascii_cons 45 (omega arith)
    (ascii_cons e (omega arith) (ascii_cons f (omega arith) (ascii_cons 45 (omega arith) (ascii_cons g (omega arith) (ascii_cons h (omega arith) none)))))))))

pub clock_ascii : (a b c d e f : ℕ) → a < 58 → b < 58 → c < 58 → d < 58 → e < 58 → f < 58
    → Ascii (84 ∷ a ∷ b ∷ 58 ∷ c ∷ d ∷ 58 ∷ e ∷ f ∷ 90 ∷ [])
clock_ascii a b c d e f g h i j k l =
    let none : Ascii [] = record { is = IsAscii-nil } in
    ascii_cons 84 (omega arith) (ascii_cons a (omega arith) (ascii_cons b (omega arith) (ascii_cons 58 (omega arith) (ascii_cons c (omega arith)
    (ascii_cons d (omega arith) (ascii_cons 58 (omega arith) (ascii_cons e (omega arith) (ascii_cons f (omega arith) (ascii_cons 90 (omega arith) none)))))))))

-- ---- a date and a time

regroup : (date t time z : List ℕ) → date ++ t ++ time ++ z ≡ date ++ (t ++ time ++ z)
regroup date t time z =
    ap (λ front. front ++ z) (append_assoc date t time) ∙ append_assoc date (t ++ time) z

pub stamp_split : (s : ℕ) → stamp_text s ≡ date_of (s / 86400) ++ clock (s % 86400)
unfolding stamp_text date_of
stamp_split s = regroup (date_text 8030 1970 (s / 86400)) (codes "T") (time_text (s % 86400)) (codes "Z")

-- no text of 20 bytes tells a moment without a date
pub no_date_no_stamp : (bytes : List ℕ) (s : ℕ) → length bytes ≡ 20 → date_of (s / 86400) ≡ [] → IsStamp bytes s → ⊥
no_date_no_stamp bytes s long none stamp =
    let same : bytes ≡ clock (s % 86400) = stamp.1 ∙ stamp_split s ∙ ap (λ date. date ++ clock (s % 86400)) none in
    let short : length bytes ≡ 10 = ap length same in
    omega (arith, short, long)

pub is_stamp_by : (bytes date : List ℕ) (s : ℕ) → s ≤ 253402300799 → date_of (s / 86400) ≡ date → take 10 bytes ≡ date → drop 10 bytes ≡ clock (s % 86400)
    → IsStamp bytes s
is_stamp_by bytes date s most is first second =
    let joined : date ++ clock (s % 86400) ≡ bytes =
    ap (λ front. front ++ clock (s % 86400)) (sym first) ∙ ap (λ back. take 10 bytes ++ back) (sym second) ∙ take-append-drop 10 bytes in
    (most, sym (stamp_split s ∙ ap (λ front. front ++ clock (s % 86400)) is ∙ joined))

drop_seam : (front back : List ℕ) → drop (length front) (front ++ back) ≡ back
drop_seam [] back = refl
drop_seam (x ∷ front) back = drop_seam front back

pub halves : (bytes date : List ℕ) (s : ℕ) → length date ≡ 10 → date_of (s / 86400) ≡ date → IsStamp bytes s
    → (take 10 bytes ≡ date) × (drop 10 bytes ≡ clock (s % 86400))
halves bytes date s long is stamp =
    let same : bytes ≡ date ++ clock (s % 86400) = stamp.1 ∙ stamp_split s ∙ ap (λ front. front ++ clock (s % 86400)) is in (
      ap (take 10) same ∙ ap (λ n. take n (date ++ clock (s % 86400))) (sym long) ∙ take-append_seam date (clock (s % 86400)),
      ap (drop 10) same ∙ ap (λ n. drop n (date ++ clock (s % 86400))) (sym long) ∙ drop_seam date (clock (s % 86400)),
    )

-- ---- the parts of a moment

-- the year behind `past`, of which `over` months are over and `day` days of the next
pub record Parts (s : ℕ) : Type 0 where
  pub past : ℕ
  pub over : ℕ
  pub day : ℕ
  pub past_least : 1969 ≤ past
  pub past_most : past < 9999
  pub over_most : over < 12
  pub day_most : day ≤ 30
  pub at : s / 86400 + 719162 ≡ days_through past + days_in (take over (month_lengths (past + 1))) + day
  pub is : stamp_text s ≡ (four (past + 1) ++ codes "-" ++ two (over + 1) ++ codes "-" ++ two (day + 1)) ++ clock (s % 86400)

parts_in : (s : ℕ) (year : Year (date_of (s / 86400)) 1969 8030 (s / 86400)) → Month (month_text 1 year.left (month_lengths (year.last + 1))) 1 year.left (month_lengths (year.last + 1)) → Parts s
parts_in s year month =
    let order : 1 + month.over ≡ month.over + 1 = omega arith in
    let told = year.is ∙ ap (λ text. four (year.last + 1) ++ codes "-" ++ text) (month.is ∙ ap (λ n. two n ++ codes "-" ++ two (month.day + 1)) order) in
    let since = days_before_1970 in
    record {
      past = year.last;
      over = month.over;
      day = month.day;
      past_least = year.least;
      past_most = omega (arith, year.most);
      over_most = month.over_less;
      day_most = month.day_most;
      at = omega (arith, year.at, month.at);
      is = stamp_split s ∙ ap (λ date. date ++ clock (s % 86400)) told;
    }

pub parts_of : (s : ℕ) → s ≤ 253402300799 → Parts s
unfolding date_of
parts_of s most =
    let since = days_before_1970 in
    let until = days_through_9999 in
    let days : s / 86400 ≤ 2932896 = omega arith in
    let year = year_found 8030 1969 (s / 86400) (omega (arith, since, until)) in
    let within = days_in-months (year.last + 1) in
    parts_in s year (month_found 1 year.left (month_lengths (year.last + 1)) (omega (arith, within, year.within)) (months_short (year.last + 1)))

-- ---- and the moment of its parts

time_of : (s days : ℕ) → days ≡ s / 86400 → days * 86400 + s % 86400 / 3600 * 3600 + s % 86400 / 60 % 60 * 60 + s % 86400 % 60 ≡ s
time_of s days is = omega arith

pub moment_of : (s : ℕ) (parts : Parts s) (days : ℕ)
    → days ≡ days_through (parts.past + 1 - 1) + days_in (take (parts.over + 1 - 1) (month_lengths (parts.past + 1))) + (parts.day + 1 - 1) - 719162
    → days * 86400 + s % 86400 / 3600 * 3600 + s % 86400 / 60 % 60 * 60 + s % 86400 % 60 ≡ s
moment_of s parts days is =
    let years : days_through (parts.past + 1 - 1) ≡ days_through parts.past = ap days_through (omega arith) in
    let months : days_in (take (parts.over + 1 - 1) (month_lengths (parts.past + 1))) ≡ days_in (take parts.over (month_lengths (parts.past + 1)))
    = ap (λ n. days_in (take n (month_lengths (parts.past + 1)))) (omega arith) in
    time_of s days (omega (arith, is, parts.at))

pub stamp_long : (bytes : List ℕ) (s : ℕ) → IsStamp bytes s → length bytes ≡ 20
stamp_long bytes s stamp = let parts = parts_of s stamp.0 in ap length (stamp.1 ∙ parts.is)
