use Rattle.std.proofs.Common.{◌∙◌}
use Rattle.api_json.proofs.Joins.{text_then, told_as}
use Rattle.api_json.proofs.entries.put_named_fields.Goals as goal

pub returns-clause-tokens : goal.returns-clause-tokens
returns-clause-tokens c =
    let name = told_as _ _ _ _ _ c.in_ok-put_text.ensures.tokens c.name_text.ensures in
    let display = told_as _ _ _ _ _ c.in_ok-put_text-2.ensures.tokens (c.deref.ensures ∙ c.in_ok-display.ensures) in
    let lower = told_as _ _ _ _ _ c.in_ok-put_text-3.ensures.tokens (c.deref-2.ensures ∙ c.in_ok-lower.ensures) in
    text_then _ _ _ _ _ _ name (text_then _ _ _ _ _ _ display (text_then _ _ _ _ _ _ lower c.in_ok-put_version_fields.ensures.tokens))
