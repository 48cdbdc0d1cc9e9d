use Rattle.std.proofs.Common.{arith}
use Rattle.std.proofs.lemmas.Bool.Decides.{nat_tests}
use Rattle.fold_path.proofs.Numerals.{reads_hex}
use Rattle.fold_path.proofs.numbers.number_of.Goals as goal

pub returns : goal.returns
returns c =
    let text = c.args.text.now in
    let read = reads_hex text _ c.from_str_radix.ensures.value (cc) (cc) in
    grind (arith, nat_tests, read)
