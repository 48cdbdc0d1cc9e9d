use Rattle.std.proofs.Common.{◌<◌, length, arith, refl}
use Rattle.std.proofs.lemmas.Bool.Decides.{nat_tests}
use Rattle.api_json.proofs.Said.{argument_said, argument_unsaid}
use Rattle.api_json.proofs.reading.read_argument.Goals as goal

pub returns-in-Ok-clause-value : goal.returns-in-Ok-clause-value
returns-in-Ok-clause-value c =
    let some : 0 < length c.args.bytes.now = grind (arith, nat_tests) in
    argument_said _ _ some c.in-Ok.ensures.ok.0 c.in-Ok.ensures.ok.1

pub returns-in-Err-2-clause-bad : goal.returns-in-Err-2-clause-bad
returns-in-Err-2-clause-bad c =
    let some : 0 < length c.args.bytes.now = grind (arith, nat_tests) in
    λ known. (refl, argument_unsaid _ some (c.in-Err.ensures.err (λ memory. absurd (cc (c.is_memory.ensures.1 memory)))))
