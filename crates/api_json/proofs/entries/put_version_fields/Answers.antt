use Rattle.std.proofs.Common.{◌∙◌}
use Rattle.api_json.proofs.Joins.{text_then, token_then, told_as}
use Rattle.api_json.proofs.entries.put_version_fields.Goals as goal

pub returns-clause-tokens : goal.returns-clause-tokens
returns-clause-tokens c =
    let rev = told_as _ _ _ _ _ c.in_ok-put_text.ensures.tokens (c.deref.ensures ∙ c.in_ok-rev.ensures) in
    let server = told_as _ _ _ _ _ c.in_ok-put_text-2.ensures.tokens (c.as_str.ensures ∙ c.in_ok-server.ensures) in
    let size = token_then _ _ _ _ _ c.in_ok-key.ensures.ok (token_then _ _ _ _ _ c.in_ok-u64.ensures.ok c.in_ok-end_object.ensures.ok) in
    text_then _ _ _ _ _ _ rev (text_then _ _ _ _ _ _ server size)
