use Rattle.std.proofs.Common.{◌≡◌, ℕ, ◌<◌, Bool, true, false, Option, None, Some, length, ap, ◌∙◌, arith}
use Rattle.std.proofs.lemmas.Bool.Decides.{nat_tests}
use Rattle.std.specs.Char.{is_ascii_digit}
use Rattle.std.specs.List.{list_all}
use Rattle.std.specs.Option.{MatchOption}
use Rattle.std.specs.Result.{result_ok}
use Rattle.std.specs.Str.Parse.{digits_value}
use Rattle.std.specs.declared.result.Result.TheVariants.{Ok}
use Rattle.fold_path.proofs.Numerals.{reads_decimal}
use Rattle.fh_model.specs.PathRule.{is_bad_space}
use Rattle.fold_path.proofs.numbers.space.Goals as goal

given : (bad : Bool) (r : Option ℕ) (n : ℕ) → bad ≡ false → r ≡ Some n → MatchOption r (bad ≡ true) (λ number. (bad ≡ false) × (number ≡ n))
given bad None n sound e = absurd (cc)
given bad (Some number) n sound e = (sound, cc)

pub returns : goal.returns
returns c =
    let digits = c.args.digits.now in
    let some : 0 < length digits = grind (arith, nat_tests) in
    let decimal : list_all is_ascii_digit digits ≡ true = cc in
    let read : c.parse.result ≡ Ok (digits_value 10 digits) = reads_decimal digits _ c.parse.ensures.value.0 some (omega arith) decimal in
    given (is_bad_space digits) _ _ (grind (arith, nat_tests)) (c.ok.ensures.value ∙ ap result_ok read)
