use Rattle.std.proofs.Common.{◌∙◌}
use Rattle.api_json.proofs.Joins.{text_then, token_then, told_as}
use Rattle.api_json.proofs.entries.put_file_fields.Goals as goal

pub returns-clause-tokens : goal.returns-clause-tokens
returns-clause-tokens c =
    let client = told_as _ _ _ _ _ c.in_ok-put_text.ensures.tokens (c.as_str.ensures ∙ c.in_ok-client.ensures) in
    let hash = told_as _ _ _ _ _ c.in_ok-put_text-2.ensures.tokens (c.deref.ensures ∙ c.in_ok-hash.ensures) in
    let id = told_as _ _ _ _ _ c.in_ok-put_text-3.ensures.tokens (c.deref-2.ensures ∙ c.in_ok-id.ensures) in
    let rest = token_then _ _ _ _ _ c.in_ok-key.ensures.ok (token_then _ _ _ _ _ c.in_ok-boolean.ensures.ok c.in_ok-put_named_fields.ensures.tokens) in
    text_then _ _ _ _ _ _ client (text_then _ _ _ _ _ _ hash (text_then _ _ _ _ _ _ id rest))
