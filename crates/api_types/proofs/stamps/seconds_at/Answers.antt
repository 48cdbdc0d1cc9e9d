use Rattle.std.proofs.Common.{◌≡◌, ◌≤◌, ◌<◌, ℕ, ◌+◌, ◌-◌, ◌*◌, ◌/◌, ◌%◌, List, get_or, take, ap, ◌∙◌, arith}
use Rattle.fh_model.specs.Stamps.{month_lengths}
use Rattle.api_types.specs.Calendar.{days_in, days_through}
use Rattle.api_types.proofs.Moments.{moment_of, parts_of}
use Rattle.api_types.proofs.stamps.seconds_at.Goals as goal

days_told : (past over day year month date days : ℕ) → year ≡ past + 1 → month ≡ over + 1 → date ≡ day + 1
    → (1 ≤ year → 1 ≤ month → month ≤ 12 → 1 ≤ date → days ≡ days_through (year - 1) + days_in (take (month - 1) (month_lengths year)) + (date - 1) - 719162)
    → over < 12
    → days ≡ days_through (past + 1 - 1) + days_in (take (over + 1 - 1) (month_lengths (past + 1))) + (day + 1 - 1) - 719162
days_told past over day year month date days y m d told few =
    told (omega (arith, y)) (omega (arith, m)) (omega (arith, m, few)) (omega (arith, d))
    ∙ ap (λ n. days_through (n - 1) + days_in (take (month - 1) (month_lengths n)) + (date - 1) - 719162) y
    ∙ ap (λ n. days_through (past + 1 - 1) + days_in (take (n - 1) (month_lengths (past + 1))) + (date - 1) - 719162) m
    ∙ ap (λ n. days_through (past + 1 - 1) + days_in (take (over + 1 - 1) (month_lengths (past + 1))) + (n - 1) - 719162) d

pub returns : goal.returns
returns c = λ seconds stamp.
    let parts = parts_of seconds stamp.0 in
    let text = stamp.1 ∙ parts.is in
    let at = λ (i : ℕ). ap (λ (bytes : List ℕ). get_or bytes i 0) text in
    let century = c.number_at.ensures.value ((parts.past + 1) / 100) (omega (arith, parts.past_most)) (at 0) (at 1) in
    let years = c.number_at-2.ensures.value ((parts.past + 1) % 100) (omega arith) (at 2) (at 3) in
    let month = c.number_at-3.ensures.value (parts.over + 1) (omega (arith, parts.over_most)) (at 5) (at 6) in
    let day = c.number_at-4.ensures.value (parts.day + 1) (omega (arith, parts.day_most)) (at 8) (at 9) in
    let hours = c.number_at-hours.ensures.value (seconds % 86400 / 3600) (omega arith) (at 11) (at 12) in
    let minutes = c.number_at-minutes.ensures.value (seconds % 86400 / 60 % 60) (omega arith) (at 14) (at 15) in
    let rest = c.number_at-5.ensures.value (seconds % 86400 % 60) (omega arith) (at 17) (at 18) in
    let year : c.number_at.result * 100 + c.number_at-2.result ≡ parts.past + 1 = omega (arith, century, years) in
    let days = days_told parts.past parts.over parts.day (c.number_at.result * 100 + c.number_at-2.result) c.number_at-3.result c.number_at-4.result c.days_to-days.result
    year month day c.days_to-days.ensures.value parts.over_most in
    let told = moment_of seconds parts c.days_to-days.result days in
    omega (arith, told, hours, minutes, rest)
