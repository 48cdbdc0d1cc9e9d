use Rattle.std.proofs.Common.{rules, ◌≡◌, ◌∙◌, sym, ap, List, [], ◌∷◌, ◌++◌, get_or, ℕ, subst}
use Rattle.byte_formats.specs.Spelling.{Spells}
use Rattle.state_rows.specs.Rows.{checkpoint_row}
use Rattle.store_core.specs.Bodies.{bodies_from}
use Rattle.store_core.proofs.BodyLemmas.{records_more}
use Rattle.store_core.proofs.making.records_of.Goals as goal

pub loop-row-preserved : goal.loop-row-preserved
loop-row-preserved c =
    let rows = c.args.rows.now in
    let i = c.loop-row.row-index in
    let row = c.row-item.result in
    let item : row ≡ get_or rows i row = search rules in
    let pushed : c.push.new.self.items ≡ c.loop-row.records.items ++ c.in_ok-frame.field-0 ∷ [] = search rules in
    let framed : c.in_ok-frame.field-0 ≡ c.in_ok-bytes.bytes.items = search rules in
    let spelled : Spells checkpoint_row c.in_ok-frame.field-0 row = subst (λ (b : List ℕ). Spells checkpoint_row b row) (sym framed) c.in_ok-bytes.ensures in
    ap (bodies_from 0) pushed ∙ records_more c.loop-row.records.items rows i c.in_ok-frame.field-0 row c.loop-row-test.true item c.loop-row.invariant spelled
