-- Digits as `from_str_radix` and `parse` read them.
use Rattle.std.proofs.Common.{◌≡◌, ◌≢◌, ℕ, ◌<◌, ◌≤◌, ◌^◌, true, List, [], ◌∷◌, length, get_or, ap, subst, arith}
use Rattle.std.proofs.lemmas.Bool.{and_parts}
use Rattle.std.proofs.lemmas.Bool.Decides.{nat_tests}
use Rattle.std.proofs.lemmas.Int.Digits.{digits_value-lt}
use Rattle.std.proofs.lemmas.Str.Parse.{without_leading_plus_none, digits_value_short, numerals_by_value, tells_digits}
use Rattle.std.specs.Char.{digit_value, is_ascii_digit}
use Rattle.std.specs.List.{list_all}
use Rattle.std.specs.Result.{OkIff}
use Rattle.std.specs.Str.Parse.{AllDigits, IsNumeral, ParsesUnsigned, digits_value}
use Rattle.std.specs.declared.result.Result.{Result}
use Rattle.std.specs.declared.result.Result.TheVariants.{Ok, Err}
use Rattle.fh_model.specs.PathRule.{is_lower_hex}

lower_hex_digit : (c : ℕ) → is_lower_hex c ≡ true → digit_value c < 16
lower_hex_digit c h = grind (arith, nat_tests)

decimal_digit : (c : ℕ) → is_ascii_digit c ≡ true → digit_value c < 10
decimal_digit c h = grind (arith, nat_tests)

hex_digits : (text : List ℕ) → list_all is_lower_hex text ≡ true → AllDigits 16 text
hex_digits [] h = tt
hex_digits (c ∷ text) h = let both = and_parts _ _ h in (lower_hex_digit c both.0, hex_digits text both.1)

decimal_digits : (text : List ℕ) → list_all is_ascii_digit text ≡ true → AllDigits 10 text
decimal_digits [] h = tt
decimal_digits (c ∷ text) h = let both = and_parts _ _ h in (decimal_digit c both.0, decimal_digits text both.1)

no_plus : (radix : ℕ) (digits : List ℕ) → radix ≤ 36 → AllDigits radix digits → 0 < length digits → get_or digits 0 0 ≢ 43
no_plus radix [] small all some e = absurd (omega arith)
no_plus radix (c ∷ digits) small all some e = let plus : 36 < radix = subst (λ k. digit_value k < radix) e all.0 in absurd (omega arith)

ok_from : {E : Type 0} (r : Result ℕ E) (P : Type 0) (n : ℕ) → OkIff r P n → P → r ≡ Ok n
ok_from (Ok m) P n h p = ap Ok h.1
ok_from (Err e) P n h p = absurd (h p)

reads : {E : Type 0} (radix : ℕ) (digits : List ℕ) (r : Result ℕ E) → ParsesUnsigned 64 radix digits r
    → radix ≤ 36 → AllDigits radix digits → 0 < length digits → digits_value radix digits < 2 ^ 64 → r ≡ Ok (digits_value radix digits)
reads {E} radix digits r h small all some fits =
    let plain = without_leading_plus_none digits (no_plus radix digits small all some) in
    let read = subst (λ ds. OkIff r (IsNumeral radix ds × (digits_value radix ds < 2 ^ 64)) (digits_value radix ds)) plain h in
    ok_from r _ _ read ((some, all), fits)

-- 16 lower-case hex digits are read
pub reads_hex : {E : Type 0} (text : List ℕ) (r : Result ℕ E) → ParsesUnsigned 64 16 text r
    → length text ≡ 16 → list_all is_lower_hex text ≡ true → r ≡ Ok (digits_value 16 text)
reads_hex text r h long hex =
    let all = hex_digits text hex in
    reads 16 text r h (omega arith) all (omega arith) (subst (λ n. digits_value 16 text < 16 ^ n) long (digits_value-lt 16 text all))

-- and so are 1 to 18 decimal ones
pub reads_decimal : {E : Type 0} (text : List ℕ) (r : Result ℕ E) → ParsesUnsigned 64 10 text r
    → 0 < length text → length text ≤ 18 → list_all is_ascii_digit text ≡ true → r ≡ Ok (digits_value 10 text)
reads_decimal text r h some short decimal =
    let all = decimal_digits text decimal in
    let small : digits_value 10 text < 10 ^ 18 = digits_value_short (numerals_by_value _ tells_digits) text 18 all short in
    reads 10 text r h (omega arith) all some (omega (arith, small))
