use Rattle.std.proofs.Common.{◌≡◌, Err, sym, ◌∙◌, ap, arith}
use Rattle.byte_formats.specs.declared.fault.CodecFault.TheVariants.{Bad}
use Rattle.store_core.proofs.BodyLemmas.{body_command, body_row, body_none}
use Rattle.store_core.proofs.bodies.body_of.Goals as goal

pub returns-in-Ok : goal.returns-in-Ok
returns-in-Ok c = sym (body_command c.args.bytes.now c.in-Ok.cmd c.in-Ok.ensures.found)

pub returns-in-Ok-decode_row : goal.returns-in-Ok-decode_row
returns-in-Ok-decode_row c = sym (body_row c.args.bytes.now c.in-Ok-decode_row.row c.in-Ok-decode_row.ensures.found)

pub returns-in-Err-Bad-decode_row : goal.returns-in-Err-Bad-decode_row
returns-in-Err-Bad-decode_row c =
    let no_command : c.decode.result ≡ Err (Bad c.in-Err-Bad.field-0-0) = c.in-Err-Bad.is ∙ ap (λ f. Err f) c.in-Err-Bad.field-0-is in
    let no_row : c.decode_row.result ≡ Err (Bad c.in-Err-Bad-decode_row.field-0-0) = c.in-Err-Bad-decode_row.is ∙ ap (λ f. Err f) c.in-Err-Bad-decode_row.field-0-is in
    sym (body_none c.args.bytes.now (λ i. omega (arith, c.type_inv.bytes i)) (c.decode.ensures.bad c.in-Err-Bad.field-0-0 no_command).no_spelling (c.decode_row.ensures.bad c.in-Err-Bad-decode_row.field-0-0 no_row).no_spelling)
