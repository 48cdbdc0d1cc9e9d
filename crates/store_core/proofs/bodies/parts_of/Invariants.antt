use Rattle.std.proofs.Common.{◌≡◌, ◌+◌, ◌++◌, Ok, false, length}
use Rattle.std.specs.Vec.Iter.{into_iter_items, into_iter_len}
use Rattle.byte_formats.specs.Formats.{◌>>=◌}
use Rattle.store_core.specs.Bodies.{parts_from}
use Rattle.store_core.proofs.bodies.parts_of.Given as goal

abbrev pub invariant-loop-body : goal.invariant-loop-body
invariant-loop-body l = (l.index + length (into_iter_items l.body-iterator) ≡ length (into_iter_items l.initial.body-iterator))
    × (parts_from false 0 (into_iter_items l.initial.body-iterator) ≡ (parts_from l.late l.index (into_iter_items l.body-iterator) >>= λ more. Ok (l.rows.items ++ more.0, l.commands.items ++ more.1)))
    × (into_iter_len l.body-iterator ≡ length (into_iter_items l.body-iterator))
