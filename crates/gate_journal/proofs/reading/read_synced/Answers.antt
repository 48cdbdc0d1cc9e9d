use Rattle.std.proofs.Common.{◌∙◌, length, ap, sym, refl}
use Rattle.gate_journal.proofs.StateLemmas.{read_whole}
use Rattle.gate_journal.proofs.reading.read_synced.Goals as goal

pub returns-clause-bytes : goal.returns-clause-bytes
returns-clause-bytes g c told =
    let d = g.D.Disk in
    let slot = c.args.slot in
    let mid = c.len.ensures.rests.seen slot in
    read_whole (d.seen c.len.new.self slot) c.deref_mut.result.now c.read_at.new.buf _ _ c.in_ok-bytes.bytes.len refl (c.in_ok-read_at.ensures.bytes told) c.deref_mut.ensures.len (c.in_ok-bytes.ensures.len ∙ c.in_ok-len.ensures.len told ∙ ap length (sym mid))
    ∙ mid ∙ c.sync.ensures.rests.seen slot
