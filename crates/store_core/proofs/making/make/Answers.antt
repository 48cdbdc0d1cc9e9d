use Rattle.std.proofs.Common.{rules, ◌≡◌, ℕ, List, Ok, map, subst}
use Rattle.fh_model.specs.Rows.{rows_of}
use Rattle.fh_model.specs.State.{opening}
use Rattle.fh_world.proofs.Moments.{joined}
use Rattle.fh_world.specs.declared.FileNo.TheVariants as file
use Rattle.gate_journal.specs.Journal.{slot_of, Settled}
use Rattle.store_core.specs.declared.bodies.Body.TheVariants as body
use Rattle.store_core.specs.Bodies.{bodies_from}
use Rattle.store_core.specs.Files.{IsNewOrMade}
use Rattle.store_core.proofs.BodyLemmas.{opening_stands}
use Rattle.store_core.proofs.MakeLemmas.{no_make, lay_run, made_run, made_seen, made_settled}
use Rattle.store_core.proofs.making.make.Goals as goal

pub returns-in_err-image-clause-any_moment : goal.returns-in_err-image-clause-any_moment
returns-in_err-image-clause-any_moment g c = λ told. no_make g.D.Disk c.args.disk.now (c.requires.unmade told) (c.requires.durable told) g.met.D.Disk.only_now

pub returns-in_err-records-clause-any_moment : goal.returns-in_err-records-clause-any_moment
returns-in_err-records-clause-any_moment g c = λ told. no_make g.D.Disk c.args.disk.now (c.requires.unmade told) (c.requires.durable told) g.met.D.Disk.only_now

pub returns-in_err-write_head-clause-seen : goal.returns-in_err-write_head-clause-seen
returns-in_err-write_head-clause-seen g c = λ told.
    let spelled : bodies_from 0 c.in_ok-records.records.items ≡ Ok (map body.Row (rows_of opening)) = search rules in
    let slot : slot_of c.in-Ok.journal ≡ file.SlotA = search rules in
    let laid = subst (λ (b : List (List ℕ)). Settled g.D.Disk c.lay.new.disk c.in-Ok.journal b) c.deref.ensures.value (c.in-Ok.ensures.settled told) in
    let stand = opening_stands c.in_ok-records.records.items spelled in
    made_seen g.D.Disk c.lay.new.disk c.write_head.new.disk c.in-Ok.journal c.in_ok-records.records.items slot laid stand (c.write_head.ensures.others told) (c.write_head.ensures.seen told)

pub returns-in_err-write_head-clause-any_moment : goal.returns-in_err-write_head-clause-any_moment
returns-in_err-write_head-clause-any_moment g c = λ told.
    let spelled : bodies_from 0 c.in_ok-records.records.items ≡ Ok (map body.Row (rows_of opening)) = search rules in
    let slot : slot_of c.in-Ok.journal ≡ file.SlotA = search rules in
    let laid = subst (λ (b : List (List ℕ)). Settled g.D.Disk c.lay.new.disk c.in-Ok.journal b) c.deref.ensures.value (c.in-Ok.ensures.settled told) in
    let stand = opening_stands c.in_ok-records.records.items spelled in
    let d = g.D.Disk in
    joined d.moment d.left_since c.args.disk.now c.lay.new.disk c.write_head.new.disk IsNewOrMade (lay_run d c.args.disk.now (c.requires.unmade told) (c.requires.durable told) c.lay.new.disk (c.lay.ensures.any_moment told))
    (made_run d c.lay.new.disk c.write_head.new.disk c.in-Ok.journal c.in_ok-records.records.items slot laid stand (c.write_head.ensures.any_moment told))

pub returns-clause-seen : goal.returns-clause-seen
returns-clause-seen g c = λ told.
    let spelled : bodies_from 0 c.in_ok-records.records.items ≡ Ok (map body.Row (rows_of opening)) = search rules in
    let slot : slot_of c.in-Ok.journal ≡ file.SlotA = search rules in
    let laid = subst (λ (b : List (List ℕ)). Settled g.D.Disk c.lay.new.disk c.in-Ok.journal b) c.deref.ensures.value (c.in-Ok.ensures.settled told) in
    let stand = opening_stands c.in_ok-records.records.items spelled in
    made_seen g.D.Disk c.lay.new.disk c.write_head.new.disk c.in-Ok.journal c.in_ok-records.records.items slot laid stand (c.write_head.ensures.others told) (c.write_head.ensures.seen told)

pub returns-clause-any_moment : goal.returns-clause-any_moment
returns-clause-any_moment g c = λ told.
    let spelled : bodies_from 0 c.in_ok-records.records.items ≡ Ok (map body.Row (rows_of opening)) = search rules in
    let slot : slot_of c.in-Ok.journal ≡ file.SlotA = search rules in
    let laid = subst (λ (b : List (List ℕ)). Settled g.D.Disk c.lay.new.disk c.in-Ok.journal b) c.deref.ensures.value (c.in-Ok.ensures.settled told) in
    let stand = opening_stands c.in_ok-records.records.items spelled in
    let d = g.D.Disk in
    joined d.moment d.left_since c.args.disk.now c.lay.new.disk c.write_head.new.disk IsNewOrMade (lay_run d c.args.disk.now (c.requires.unmade told) (c.requires.durable told) c.lay.new.disk (c.lay.ensures.any_moment told))
    (made_run d c.lay.new.disk c.write_head.new.disk c.in-Ok.journal c.in_ok-records.records.items slot laid stand (c.write_head.ensures.any_moment told))

pub returns-clause-settled : goal.returns-clause-settled
returns-clause-settled g c = λ told.
    let spelled : bodies_from 0 c.in_ok-records.records.items ≡ Ok (map body.Row (rows_of opening)) = search rules in
    let slot : slot_of c.in-Ok.journal ≡ file.SlotA = search rules in
    let laid = subst (λ (b : List (List ℕ)). Settled g.D.Disk c.lay.new.disk c.in-Ok.journal b) c.deref.ensures.value (c.in-Ok.ensures.settled told) in
    let stand = opening_stands c.in_ok-records.records.items spelled in
    made_settled g.D.Disk c.lay.new.disk c.write_head.new.disk c.in-Ok.journal c.in_ok-records.records.items slot laid stand (c.write_head.ensures.others told) (c.in_ok-write_head.ensures.named told)
