use Rattle.std.proofs.Common.{◌≡◌, ◌++◌, map, take}
use Rattle.fh_model.specs.Rows.{user_row}
use Rattle.name_core.proofs.rows.put_users.Given as goal

abbrev pub invariant-loop-user : goal.invariant-loop-user
invariant-loop-user l = l.rows.items ≡ l.fn.rows.items ++ map user_row (take l.user-index l.users)
