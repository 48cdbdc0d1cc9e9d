use Rattle.std.proofs.Common.{◌++◌, ap, ◌∙◌}
use Rattle.api_json.specs.Answers.{answer_data}
use Rattle.api_json.specs.Tokens.{tokens_of}
use Rattle.api_json.proofs.Joins.{printed}
use Rattle.api_json.proofs.writing.write.Goals as goal

pub returns-clause-text : goal.returns-clause-text
returns-clause-text c =
    let value = answer_data c.args.answer.now in
    let before = c.in_ok-put_answer.ensures.before ∙ c.new-out.ensures.before ∙ c.in_ok-with_capacity.ensures.items in
    let tokens = c.in_ok-put_answer.ensures.tokens ∙ ap (λ first. first ++ tokens_of value) c.new-out.ensures.tokens in
    c.into_inner.ensures.items ∙ printed _ _ value before tokens
