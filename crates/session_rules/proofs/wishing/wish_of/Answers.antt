use Rattle.std.proofs.Common.{◌≡◌, ◌∙◌, ℕ, List, IfOk, Option, option_map, sym, subst}
use Rattle.session_rules.specs.Decisions.{argued_by}
use Rattle.session_rules.specs.Judged.{decision_of}
use Rattle.session_rules.proofs.Arguments.{argued_in_body, argued_in_header, body_there}
use Rattle.session_rules.proofs.wishing.wish_of.Goals as goal

pub returns-then-has_content-clause-decision : goal.returns-then-has_content-clause-decision
returns-then-has_content-clause-decision c = λ content body.
    let is = argued_in_header c.args.route c.args.user (option_map (λ bytes. bytes.now) c.args.arg) content (sym c.has_content.ensures ∙ c.if-has_content.true) in
    subst (λ d. IfOk c.wish_by.result (λ wish. d ≡ decision_of wish content)) (sym is) (c.wish_by.ensures.decision content body)

pub returns-clause-decision : goal.returns-clause-decision
returns-clause-decision c = λ content body.
    let without = sym c.has_content.ensures ∙ c.if-has_content.false in
    let there = body_there (option_map (λ bytes. bytes.now) c.args.body) content _ body c.requires without in
    let is = argued_in_body c.args.route c.args.user (option_map (λ bytes. bytes.now) c.args.arg) content without in
    let known = subst (λ (argument : Option (List ℕ)). IfOk c.wish_by-2.result (λ wish. argued_by c.args.route c.args.user content argument ≡ decision_of wish content)) (sym there) (c.wish_by-2.ensures.decision content body) in
    subst (λ d. IfOk c.wish_by-2.result (λ wish. d ≡ decision_of wish content)) (sym is) known
