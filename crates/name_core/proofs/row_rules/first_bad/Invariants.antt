use Rattle.std.proofs.Common.{◌≡◌, drop, option_copied}
use Rattle.fh_model.specs.RowRules.{bad_from, first_bad}
use Rattle.name_core.proofs.row_rules.first_bad.Given as goal

abbrev pub invariant-loop-row : goal.invariant-loop-row
invariant-loop-row l = (l.place ≡ l.row-index) × (bad_from l.rows l.row-index (option_copied l.before) (drop l.row-index l.rows) ≡ first_bad l.rows)
