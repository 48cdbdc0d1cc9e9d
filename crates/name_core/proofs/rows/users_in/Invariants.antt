use Rattle.std.proofs.Common.{◌≡◌, ◌++◌, drop}
use Rattle.fh_model.specs.Rows.{users_in}
use Rattle.name_core.proofs.rows.users_in.Given as goal

abbrev pub invariant-loop-row : goal.invariant-loop-row
invariant-loop-row l = l.users.items ++ users_in (drop l.row-index l.rows) ≡ users_in l.rows
