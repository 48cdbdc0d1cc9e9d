use Rattle.std.proofs.Common.{◌≡◌, ◌<◌, ◌+◌, ◌*◌, length, arith, inl, inr, subst, sym}
use Rattle.std.proofs.lemmas.List.{take_all}
use Rattle.httparse.specs.Grammar.{NeverHasSection}
use Rattle.http_in.proofs.BodyMoves.{many_trailers, overlong_trailers, never_section_of_error}
use Rattle.http_in.proofs.chunks.judge_trailers.Goals as goal

pub returns-else-count-le-HEAD_MAX_LINES : goal.returns-else-count-le-HEAD_MAX_LINES
returns-else-count-le-HEAD_MAX_LINES c =
    let found = rw c.in-Ok-Complete.field-0-is at c.in-Ok-Complete.ensures.complete in
    let within = rw c.in-Ok-Complete.field-0-is at c.in-Ok-Complete.ensures.within in
    inl (many_trailers c.args.held.now c.parse_headers.new.headers c.in-Ok-Complete.len c.in-Ok-Complete.count c.requires.within found within (omega arith))

pub returns-else-held-lt-HEAD_MAX_BYTES : goal.returns-else-held-lt-HEAD_MAX_BYTES
returns-else-held-lt-HEAD_MAX_BYTES c =
    let none = rw c.in-Ok-Partial.field-0-is at c.in-Ok-Partial.ensures.partial in
    let hopeful = rw c.in-Ok-Partial.field-0-is at c.in-Ok-Partial.ensures.unfinished in
    inr (overlong_trailers c.args.held.now c.requires.within (omega arith) none hopeful)

pub returns-in-Err : goal.returns-in-Err
returns-in-Err c =
    let room : length c.args.spans.now ≡ 5462 = c.requires.room in
    let short : length c.args.held.now + 1 < 3 * (length c.args.spans.now + 1) = omega arith in
    let never = never_section_of_error _ _ _ short c.in-Err.ensures.invalid c.in-Err.ensures.too_many in
    subst NeverHasSection (sym (take_all 16384 c.args.held.now c.requires.within)) never
