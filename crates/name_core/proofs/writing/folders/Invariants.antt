use Rattle.std.proofs.Common.{◌≡◌, ◌+◌, ◌++◌, drop}
use Rattle.fh_model.specs.Folders.{folders}
use Rattle.name_core.proofs.writing.folders.Given as goal

abbrev pub invariant-loop-names : goal.invariant-loop-names
invariant-loop-names l = (l.next ≡ l.id + l.names-index) × (l.changes.items ++ folders l.next (drop l.names-index l.places) ≡ folders l.id l.places)
