use Rattle.std.proofs.Common.{◌≤◌, ◌^◌, ◌∙◌, sym, ap, arith, length, IsTrue}
use Rattle.fh_model.specs.Pieces.{end_in}
use Rattle.fh_world.specs.declared.FileNo.TheVariants as file
use Rattle.store_core.specs.Bodies.{read_slot}
use Rattle.store_core.specs.Open.{ReadsSlot}
use Rattle.store_core.proofs.OpenLemmas.{if_ok_one, reads_over}
use Rattle.store_core.proofs.slot.read.Goals as goal

pub returns-clause-reads : goal.returns-clause-reads
returns-clause-reads g c =
    let d = g.D.Disk in let old = c.args.disk.now in let mid = c.len.new.self in let new = c.read_over.new.disk in
    let slot = c.args.slot in
    if_ok_one c.read_over.result (λ opened. IsTrue d.tells → ReadsSlot d mid new slot opened.0 c.in_ok-len.len opened.1.start)
    (λ opened. IsTrue d.tells → ReadsSlot d old new slot opened.0 (length (d.seen old file.Blocks)) opened.1.start)
    (λ opened reads told. reads_over d old mid new slot opened.0 c.in_ok-len.len opened.1.start c.len.ensures.rests.seen (c.in_ok-len.ensures.len told) (reads told)) c.read_over.ensures.reads

pub returns-clause-damaged : goal.returns-clause-damaged
returns-clause-damaged g c place bad told =
    let d = g.D.Disk in let old = c.args.disk.now in
    ap (λ n. read_slot n (d.seen old c.args.slot)) (sym (c.in_ok-len.ensures.len told))
    ∙ ap (read_slot c.in_ok-len.len) (sym (c.len.ensures.rests.seen c.args.slot)) ∙ c.read_over.ensures.damaged place bad told

pub returns-clause-end : goal.returns-clause-end
returns-clause-end g c =
    if_ok_one c.read_over.result (λ opened. end_in opened.1.start ≤ c.in_ok-len.len) (λ opened. end_in opened.1.start ≤ 2 ^ 62) (λ opened less. omega (arith, less, c.in_ok-len.ensures.limit)) c.read_over.ensures.end
