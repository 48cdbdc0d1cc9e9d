use Rattle.std.proofs.Common.{◌≡◌, ◌∷◌, [], ap, ◌∙◌, rules, ◌++◌}
use Rattle.std.proofs.lemmas.List.{nil_from_length}
use Rattle.gate_journal.specs.Slot.{Broken}
use Rattle.gate_journal.proofs.RestLemmas.{rest_begins, found-at_rest}
use Rattle.gate_journal.proofs.SlotLemmas.{begins_none, begins_rest, begins_more, found_broken, broken_empty, broken_record}
use Rattle.gate_journal.proofs.reading.parse.Goals as goal

pub loop-gate-init : goal.loop-gate-init
loop-gate-init c = begins_none _ c.args.bytes.now c.new-records.ensures.items

pub loop-gate-preserved : goal.loop-gate-preserved
loop-gate-preserved c =
    let opened : c.in-Some.gate.now ≡ 165 = c.if-gate.false in
    let here = begins_rest _ c.loop-gate.place c.args.bytes.now _ (165 ∷ c.in-Some.after.now) c.loop-gate.invariant (c.in-Some.ensures.cases.0 ∙ ap (λ g. g ∷ c.in-Some.after.now) opened) in
    let more = begins_more _ c.loop-gate.place c.args.bytes.now c.in-Some.after.now c.in-Some-whole_body.body.now c.in-Some-whole_body.next.now here c.in-Some-whole_body.ensures.whole in
    let items : c.push.new.self.items ≡ c.loop-gate.records.items ++ c.in-Some-whole_body.body.now ∷ [] = search rules in
    rw items more

pub returns-then-gate-clause-held : goal.returns-then-gate-clause-held
returns-then-gate-clause-held c =
    let here = begins_rest _ c.loop-gate.place c.args.bytes.now _ (c.in-Some.gate.now ∷ c.in-Some.after.now) c.loop-gate.invariant c.in-Some.ensures.cases.0 in
    found-at_rest _ _ c.loop-gate.invariant.short (rest_begins _ _ _ _ _ here c.if-gate.true)

pub returns-then-gate-clause-rest : goal.returns-then-gate-clause-rest
returns-then-gate-clause-rest c =
    let here = begins_rest _ c.loop-gate.place c.args.bytes.now _ (c.in-Some.gate.now ∷ c.in-Some.after.now) c.loop-gate.invariant c.in-Some.ensures.cases.0 in
    rest_begins _ _ _ _ _ here c.if-gate.true

pub returns-in_default-whole_body-clause-damaged : goal.returns-in_default-whole_body-clause-damaged
returns-in_default-whole_body-clause-damaged c place is =
    let same : c.loop-gate.place ≡ place = cc in
    let here = begins_rest _ c.loop-gate.place c.args.bytes.now _ (165 ∷ c.in-Some.after.now) c.loop-gate.invariant (c.in-Some.ensures.cases.0 ∙ ap (λ g. g ∷ c.in-Some.after.now) c.if-gate.false) in
    found_broken _ _ _ _ here (broken_record c.in-Some.after.now c.in_default-whole_body.ensures.broken) ∙ ap (λ p. Broken p) same

pub returns-clause-damaged : goal.returns-clause-damaged
returns-clause-damaged c place is =
    let same : c.loop-gate.place ≡ place = cc in
    let here = begins_rest _ c.loop-gate.place c.args.bytes.now _ [] c.loop-gate.invariant (nil_from_length _ c.in_default.ensures.cases) in
    found_broken _ _ _ _ here broken_empty ∙ ap (λ p. Broken p) same
