use Rattle.std.proofs.Common.{ap, length, ◌∙◌, subst, sym}
use Rattle.api_types.specs.Stamps.{IsStamp, moment_of}
use Rattle.api_types.proofs.Moments.{stamp_long}
use Rattle.api_types.proofs.Told.{moment_told, moment_untold}
use Rattle.api_types.proofs.stamps.read_stamp.Goals as goal

pub returns-then-bytes-clause-none : goal.returns-then-bytes-clause-none
returns-then-bytes-clause-none c = λ seconds stamp.
    c.if-bytes.true (ap length c.as_bytes-bytes.ensures ∙ stamp_long c.args.text.now seconds stamp)

pub returns-then-bytes-clause-value : goal.returns-then-bytes-clause-value
returns-then-bytes-clause-value c = sym (moment_untold c.args.text.now (returns-then-bytes-clause-none c))

pub returns-then-is_stamp-clause-value : goal.returns-then-is_stamp-clause-value
returns-then-is_stamp-clause-value c =
    let told = moment_told c.as_bytes-bytes.result.now c.seconds_at-seconds.result (c.is_stamp.ensures.0 c.if-is_stamp.true) (λ t stamp. sym (c.seconds_at-seconds.ensures t stamp)) in
    sym told ∙ ap moment_of c.as_bytes-bytes.ensures

pub returns-else-is_stamp-clause-value : goal.returns-else-is_stamp-clause-value
returns-else-is_stamp-clause-value c =
    let bytes = c.as_bytes-bytes.result.now in
    let untold = moment_untold bytes (λ t stamp.
    let is = c.is_stamp.ensures.1 (subst (λ s. IsStamp bytes s) (sym (c.seconds_at-seconds.ensures t stamp)) stamp) in
    absurd (cc (c.if-is_stamp.false))) in
    sym untold ∙ ap moment_of c.as_bytes-bytes.ensures
