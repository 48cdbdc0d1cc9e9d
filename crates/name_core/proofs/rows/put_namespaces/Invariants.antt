use Rattle.std.proofs.Common.{◌≡◌, ◌++◌, map, take}
use Rattle.fh_model.specs.Rows.{namespace_row}
use Rattle.name_core.proofs.rows.put_namespaces.Given as goal

abbrev pub invariant-loop-space : goal.invariant-loop-space
invariant-loop-space l = l.rows.items ≡ l.fn.rows.items ++ map namespace_row (take l.space-index l.spaces)
