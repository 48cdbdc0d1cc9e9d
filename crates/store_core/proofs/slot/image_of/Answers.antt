use Rattle.std.proofs.Common.{rules, ◌≡◌, None, Ok, length}
use Rattle.fh_model.specs.History.{state_of, state_after}
use Rattle.store_core.specs.Bodies.{state_in_time, first_beyond}
use Rattle.store_core.proofs.BodyLemmas.{parts_stand, stand_end}
use Rattle.store_core.proofs.slot.image_of.Goals as goal

pub returns-clause-stand : goal.returns-clause-stand
returns-clause-stand c =
    let timely : state_in_time c.in_ok-rows.rows.items ≡ Ok (state_of c.in_ok-image.image) = search rules in
    let within : first_beyond c.args.len (length c.in_ok-rows.rows.items) c.in_ok-rows.commands.items ≡ None = search rules in
    let after : state_after (state_of c.in_ok-image.image) c.in_ok-rows.commands.items ≡ c.in_ok-image-3.image.start = search rules in
    parts_stand c.args.len c.args.records.now c.in_ok-bodies.bodies.items (c.in_ok-rows.rows.items, c.in_ok-rows.commands.items) (state_of c.in_ok-image.image) c.in_ok-image-3.image.start c.in_ok-bodies.ensures.read c.in_ok-rows.ensures.read timely within after

pub returns-clause-end : goal.returns-clause-end
returns-clause-end c = stand_end c.args.len c.args.records.now c.in_ok-image-3.image.start (returns-clause-stand c)
