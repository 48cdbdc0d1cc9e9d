use Rattle.std.proofs.Common.{rules, ◌≡◌, ◌+◌, ap, arith, length, get_or}
use Rattle.store_core.proofs.PlaceLemmas.{front_within, place_more}
use Rattle.store_core.proofs.slot.length_of.Goals as goal

pub loop-record-preserved : goal.loop-record-preserved
loop-record-preserved c = λ fits.
    let body : c.record-item.result ≡ get_or c.args.records.now c.loop-record.record-index c.record-item.result = search rules in
    let more = place_more c.args.records.now c.loop-record.record-index c.record-item.result c.loop-record-test.true body in
    let within = front_within c.args.records.now (c.loop-record.record-index + 1) in
    omega (arith, more, within, fits, c.loop-record.invariant fits, ap length c.body.ensures, c.saturating_add-place.ensures)
