use Rattle.std.proofs.Common.{arith, inl, inr, subst}
use Rattle.httparse.specs.Grammar.{HasNoChunkLine, NeverHasChunkLine}
use Rattle.http_in.specs.Lines.{IsLongLine}
use Rattle.http_in.proofs.LineFacts.{line_cut_short, whole_line}
use Rattle.http_in.proofs.chunks.judge_line.Goals as goal

pub returns-in-Ok-Complete : goal.returns-in-Ok-Complete
returns-in-Ok-Complete c =
    let same = line_cut_short c.args.held.now c.min.result c.min.ensures in
    let found = rw c.in-Ok-Complete.field-0-is at c.in-Ok-Complete.ensures.complete in
    whole_line c.args.held.now _ c.in-Ok-Complete.len c.in-Ok-Complete.size found.0 same found.1

pub returns-else-held-lt-LINE_BYTES : goal.returns-else-held-lt-LINE_BYTES
returns-else-held-lt-LINE_BYTES c =
    let same = line_cut_short c.args.held.now c.min.result c.min.ensures in
    let none = rw c.in-Ok-Partial.field-0-is at c.in-Ok-Partial.ensures.partial in
    let long : IsLongLine c.args.held.now = record { long = omega arith; none = subst HasNoChunkLine same none } in
    inr long

pub returns-in-Err : goal.returns-in-Err
returns-in-Err c =
    let same = line_cut_short c.args.held.now c.min.result c.min.ensures in
    inl (subst NeverHasChunkLine same c.in-Err.ensures.invalid)
