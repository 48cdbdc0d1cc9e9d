use Rattle.std.proofs.Common.{◌∙◌, sym}
use Rattle.std.proofs.lemmas.List.{nil_from_length}
use Rattle.byte_formats.specs.Texts.{characters_at, fault_of}
use Rattle.byte_formats.specs.declared.text.Awaited.TheVariants.{Lead}
use Rattle.byte_formats.proofs.TextLoop.{goes_on, refuses, ends_early, is_whole}
use Rattle.byte_formats.proofs.text.fault_at.Goals as goal

pub returns-in_default : goal.returns-in_default
returns-in_default c =
    ends_early c.loop-done.awaited c.args.len c.loop-done.done c.loop-done.rest.now (fault_of (characters_at Lead c.args.len c.args.bytes.now)) c.loop-done-test.true
    (nil_from_length c.loop-done.rest.now c.in_default.ensures.cases) c.loop-done.invariant

pub returns-then-not-allows : goal.returns-then-not-allows
returns-then-not-allows c =
    refuses c.loop-done.awaited c.args.len c.loop-done.done c.in-Some.field-0-0.now c.loop-done.rest.now c.in-Some.others.now (fault_of (characters_at Lead c.args.len c.args.bytes.now)) c.loop-done-test.true
    c.in-Some.ensures.cases.0 (sym c.allows.ensures ∙ c.if-not-allows.true) c.loop-done.invariant

pub loop-done-preserved : goal.loop-done-preserved
loop-done-preserved c =
    rw c.after-awaited.ensures
    (goes_on c.loop-done.awaited c.args.len c.loop-done.done c.in-Some.field-0-0.now c.loop-done.rest.now c.in-Some.others.now (fault_of (characters_at Lead c.args.len c.args.bytes.now)) c.loop-done-test.true
    c.in-Some.ensures.cases.0 (sym c.allows.ensures ∙ c.if-not-allows.false) c.loop-done.invariant)

pub returns : goal.returns
returns c =
    is_whole c.loop-done.awaited c.args.len c.loop-done.done c.loop-done.rest.now (fault_of (characters_at Lead c.args.len c.args.bytes.now)) c.loop-done-test.false c.loop-done.invariant
