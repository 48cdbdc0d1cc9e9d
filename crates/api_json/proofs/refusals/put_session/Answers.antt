use Rattle.std.proofs.Common.{◌∙◌}
use Rattle.api_json.proofs.Joins.{text_then, told_as}
use Rattle.api_json.proofs.refusals.put_session.Goals as goal

pub returns-clause-tokens : goal.returns-clause-tokens
returns-clause-tokens c =
    let session = told_as _ _ _ _ _ c.in_ok-put_text.ensures.tokens (c.deref.ensures ∙ c.in_ok-session.ensures) in
    text_then _ _ _ _ _ _ session c.in_ok-end_object.ensures.ok
