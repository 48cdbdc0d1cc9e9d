use Rattle.std.proofs.Common.{◌∙◌, sym}
use Rattle.api_types.proofs.Moments.{halves, is_stamp_by, no_date_no_stamp}
use Rattle.api_types.proofs.stamps.is_stamp.Goals as goal

pub returns-in_default : goal.returns-in_default
returns-in_default c =
    (λ test. absurd (cc), λ stamp. absurd (no_date_no_stamp c.args.bytes.now c.args.seconds c.requires c.in_default.ensures stamp))

pub returns-then-are_same : goal.returns-then-are_same
returns-then-are_same c =
    let date = c.in-Some.ensures in
    let first = sym c.split_at.ensures.front ∙ c.are_same.ensures.0 c.if-are_same.true ∙ c.as_slice.ensures in
    let back = c.as_slice-then-are_same.ensures ∙ c.time_at-time.ensures.value in (
      λ test. is_stamp_by c.args.bytes.now c.in-Some.date c.args.seconds c.if-seconds-gt-LAST_SECOND.false date.is first
          (sym c.split_at.ensures.back ∙ c.are_same-then-are_same.ensures.0 test ∙ back),
      λ stamp.
          let told = halves c.args.bytes.now c.in-Some.date c.args.seconds date.long date.is stamp in
          c.are_same-then-are_same.ensures.1 (c.split_at.ensures.back ∙ told.1 ∙ sym back),
    )

pub returns-else-are_same : goal.returns-else-are_same
returns-else-are_same c =
    let date = c.in-Some.ensures in (
      λ test. absurd (cc),
      λ stamp.
          let told = halves c.args.bytes.now c.in-Some.date c.args.seconds date.long date.is stamp in
          c.are_same.ensures.1 (c.split_at.ensures.front ∙ told.0 ∙ sym c.as_slice.ensures),
    )
