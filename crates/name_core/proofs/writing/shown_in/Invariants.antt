use Rattle.std.proofs.Common.{◌≡◌, ◌++◌, take, drop}
use Rattle.fh_model.specs.WritePlaces.{shown_behind, shown_in}
use Rattle.name_core.proofs.writing.shown_in.Given as goal

abbrev pub invariant-loop-index : goal.invariant-loop-index
invariant-loop-index l = l.shown.items ++ shown_behind l.tree (take l.index l.names) (drop l.index l.names) ≡ shown_in l.tree l.names
