use Rattle.std.proofs.Common.{◌≡◌, ℕ, ap, subst, inl, Ok, length, ◌-◌, arith}
use Rattle.byte_formats.specs.Spelling.{IsFirstBad}
use Rattle.byte_formats.proofs.Whole.{whole_takes, whole_stops, same_read, not_read, left_within}
use Rattle.state_rows.specs.Rows.{checkpoint_row}
use Rattle.state_rows.proofs.Lawful.{row_lawful}
use Rattle.state_rows.proofs.reading.decode_row.Goals as goal

pub returns-in-Ok-clause-found : goal.returns-in-Ok-clause-found
returns-in-Ok-clause-found c = whole_takes checkpoint_row row_lawful c.args.bytes.now c.in-Ok.row (λ i. omega (arith, c.type_inv.bytes i)) c.in-Ok.ensures

pub returns-in-Ok-clause-only : goal.returns-in-Ok-clause-only
returns-in-Ok-clause-only c = λ cmd s. inl (ap Ok (same_read checkpoint_row row_lawful c.args.bytes.now c.in-Ok.row cmd c.in-Ok.ensures s))

pub returns-in-Err-Bad-clause-only : goal.returns-in-Err-Bad-clause-only
returns-in-Err-Bad-clause-only c = λ cmd s. absurd (not_read checkpoint_row row_lawful c.args.bytes.now c.in-Err-Bad.left cmd (rw c.in-Err-Bad.field-0-is at c.in-Err-Bad.ensures) s)

pub returns-in-Err-Bad-clause-bad : goal.returns-in-Err-Bad-clause-bad
returns-in-Err-Bad-clause-bad c = λ place e.
    let at : length c.args.bytes.now - c.in-Err-Bad.left ≡ place = cc in
    subst (λ (p : ℕ). IsFirstBad checkpoint_row c.args.bytes.now p) at (whole_stops checkpoint_row row_lawful c.args.bytes.now c.in-Err-Bad.left (λ i. omega (arith, c.type_inv.bytes i)) (rw c.in-Err-Bad.field-0-is at c.in-Err-Bad.ensures))

pub overflow_sub-result : goal.overflow_sub-result
overflow_sub-result c = left_within checkpoint_row row_lawful c.args.bytes.now c.in-Err-Bad.left (λ i. omega (arith, c.type_inv.bytes i)) (rw c.in-Err-Bad.field-0-is at c.in-Err-Bad.ensures)
