use Rattle.std.proofs.Common.{◌≡◌, ℕ, ap, subst, inl, Ok, length, ◌-◌, arith}
use Rattle.byte_formats.specs.Spelling.{IsFirstBad}
use Rattle.byte_formats.proofs.Whole.{whole_takes, whole_stops, same_read, not_read, left_within}
use Rattle.cmd_codec.specs.Commands.{command}
use Rattle.cmd_codec.proofs.Lawful.{command_lawful}
use Rattle.cmd_codec.proofs.reading.decode.Goals as goal

pub returns-in-Ok-clause-found : goal.returns-in-Ok-clause-found
returns-in-Ok-clause-found c = whole_takes command command_lawful c.args.bytes.now c.in-Ok.cmd (λ i. omega (arith, c.type_inv.bytes i)) c.in-Ok.ensures

pub returns-in-Ok-clause-only : goal.returns-in-Ok-clause-only
returns-in-Ok-clause-only c = λ cmd s. inl (ap Ok (same_read command command_lawful c.args.bytes.now c.in-Ok.cmd cmd c.in-Ok.ensures s))

pub returns-in-Err-Bad-clause-only : goal.returns-in-Err-Bad-clause-only
returns-in-Err-Bad-clause-only c = λ cmd s. absurd (not_read command command_lawful c.args.bytes.now c.in-Err-Bad.left cmd (rw c.in-Err-Bad.field-0-is at c.in-Err-Bad.ensures) s)

pub returns-in-Err-Bad-clause-bad : goal.returns-in-Err-Bad-clause-bad
returns-in-Err-Bad-clause-bad c = λ place e.
    let at : length c.args.bytes.now - c.in-Err-Bad.left ≡ place = cc in
    subst (λ (p : ℕ). IsFirstBad command c.args.bytes.now p) at (whole_stops command command_lawful c.args.bytes.now c.in-Err-Bad.left (λ i. omega (arith, c.type_inv.bytes i)) (rw c.in-Err-Bad.field-0-is at c.in-Err-Bad.ensures))

pub overflow_sub-result : goal.overflow_sub-result
overflow_sub-result c = left_within command command_lawful c.args.bytes.now c.in-Err-Bad.left (λ i. omega (arith, c.type_inv.bytes i)) (rw c.in-Err-Bad.field-0-is at c.in-Err-Bad.ensures)
