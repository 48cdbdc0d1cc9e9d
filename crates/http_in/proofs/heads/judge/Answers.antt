use Rattle.std.proofs.Common.{◌≡◌, ◌<◌, ◌+◌, ◌*◌, length, arith, inl, inr}
use Rattle.http_in.proofs.Sizes.{never_of_error, fields_counted}
use Rattle.http_in.proofs.HeadFacts.{many_of_held, overlong_held}
use Rattle.http_in.proofs.heads.judge.Goals as goal

pub returns-else-head-le-HEAD_MAX_LINES : goal.returns-else-head-le-HEAD_MAX_LINES
returns-else-head-le-HEAD_MAX_LINES c =
    let found = rw c.in-Ok-Complete.field-0-is at c.in-Ok-Complete.ensures.complete in
    let within = rw c.in-Ok-Complete.field-0-is at c.in-Ok-Complete.ensures.within in
    let counted = fields_counted c.args.held.now c.parse_request.new.headers c.in-Ok-Complete.head.headers found.0.fields within.section.count_fits found.1.fields in
    record { verdict = inl (many_of_held c.args.held.now found.0 _ c.requires.within found.1.reads (omega (arith, counted))) }

pub returns-else-held-lt-HEAD_MAX_BYTES : goal.returns-else-held-lt-HEAD_MAX_BYTES
returns-else-held-lt-HEAD_MAX_BYTES c =
    let none = rw c.in-Ok-Partial.field-0-is at c.in-Ok-Partial.ensures.partial in
    let hopeful = rw c.in-Ok-Partial.field-0-is at c.in-Ok-Partial.ensures.unfinished in
    record { verdict = inr (overlong_held c.args.held.now c.requires.within (omega arith) none hopeful) }

pub returns-in-Err : goal.returns-in-Err
returns-in-Err c =
    let room : length c.args.spans.now ≡ 5462 = c.requires.room in
    let short : length c.args.held.now + 1 < 3 * (length c.args.spans.now + 1) = omega arith in
    record { verdict = never_of_error _ _ _ short c.in-Err.ensures.invalid c.in-Err.ensures.too_many }
