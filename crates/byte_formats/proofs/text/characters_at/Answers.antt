use Rattle.std.proofs.Common.{arith}
use Rattle.byte_formats.specs.Fields.{IsBytes}
use Rattle.byte_formats.specs.declared.text.Awaited.TheVariants.{Lead}
use Rattle.byte_formats.proofs.TextLoop.{no_fault}
use Rattle.byte_formats.proofs.Utf8.{no_fault_utf8, is_ok_unless}
use Rattle.std.specs.Str.{IsUtf8}
use Rattle.std.proofs.lemmas.Result.{MatchResult-at_ok}
use Rattle.byte_formats.proofs.text.characters_at.Goals as goal

pub split_at-requires : goal.split_at-requires
split_at-requires c = (no_fault Lead c.args.len c.args.bytes.now c.in_default.ensures).0

pub unwrap-requires : goal.unwrap-requires
unwrap-requires c =
    let is-bytes : IsBytes c.args.bytes.now = λ i. omega (arith, c.type_inv.bytes i) in
    let whole : IsUtf8 c.split_at.result.0.now = rw c.split_at.ensures.front (no_fault_utf8 c.args.len c.args.bytes.now is-bytes c.in_default.ensures) in
    is_ok_unless c.from_utf8.result _ _ c.from_utf8.ensures.cases (λ e h. h.0 whole)

pub returns : goal.returns
returns c =
    let read = (no_fault Lead c.args.len c.args.bytes.now c.in_default.ensures).1 in
    let found = MatchResult-at_ok _ _ c.unwrap.result c.unwrap.ensures c.from_utf8.ensures.cases in
    rw (found.0, c.split_at.ensures.front, c.split_at.ensures.back) read
