use Rattle.std.proofs.Common.{ap, ◌∙◌}
use Rattle.api_json.specs.Answers.{error_data, summary}
use Rattle.api_json.proofs.Joins.{text_then, token_then, told_as, value_then}
use Rattle.api_json.proofs.refusals.put_refusal.Goals as goal

pub returns-clause-tokens : goal.returns-clause-tokens
returns-clause-tokens c =
    let told = told_as _ _ _ _ _ c.in_ok-put_text.ensures.tokens (c.deref.ensures ∙ c.in_ok-summary.ensures ∙ ap summary c.as_slice.ensures) in
    let rest = text_then _ _ _ _ _ _ told c.in_ok-end_object.ensures.ok in
    token_then _ _ _ _ _ c.in_ok-key.ensures.ok (value_then _ _ _ (error_data c.args.refusal.now) _ c.in_ok-put_error.ensures.tokens rest)
