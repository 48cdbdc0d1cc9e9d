use Rattle.api_json.specs.Answers.{nested}
use Rattle.api_json.proofs.Joins.{text_then, token_then, told_as, value_then}
use Rattle.api_json.proofs.refusals.put_with_reason.Goals as goal

pub returns-clause-tokens : goal.returns-clause-tokens
returns-clause-tokens c =
    let tag = told_as _ _ _ _ _ c.in_ok-put_text.ensures.tokens c.as_str.ensures in
    let rest = value_then _ _ _ (nested c.args.offset c.args.reason.now) _ c.in_ok-put_nested.ensures.tokens c.in_ok-put_session.ensures.tokens in
    token_then _ _ _ _ _ c.in_ok-begin_object.ensures.ok (text_then _ _ _ _ _ _ tag (token_then _ _ _ _ _ c.in_ok-key.ensures.ok rest))
