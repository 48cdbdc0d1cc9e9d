use Rattle.std.proofs.Common.{◌≡◌, ◌++◌, true, drop}
use Rattle.std.specs.List.{list_all}
use Rattle.fh_model.specs.Rows.{namespaces_in}
use Rattle.name_core.specs.Machine.{length_fits}
use Rattle.name_core.proofs.rows.spaces_in.Given as goal

abbrev pub invariant-loop-row : goal.invariant-loop-row
invariant-loop-row l = (l.spaces.items ++ namespaces_in (drop l.row-index l.rows) ≡ namespaces_in l.rows) × (list_all length_fits l.spaces.items ≡ true)
