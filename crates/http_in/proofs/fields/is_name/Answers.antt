use Rattle.std.proofs.Common.{◌∙◌, sym}
use Rattle.http_in.proofs.FieldSteps.{name_by_bytes}
use Rattle.http_in.proofs.fields.is_name.Goals as goal

pub returns-then-has_bytes : goal.returns-then-has_bytes
returns-then-has_bytes c =
    c.if-has_bytes.true
    ∙ sym (name_by_bytes c.args.name.now c.args.wanted.now c.if-name-wanted.false (c.has_bytes.ensures c.if-has_bytes.true))
