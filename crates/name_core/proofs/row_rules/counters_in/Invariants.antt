use Rattle.std.proofs.Common.{◌≡◌, drop}
use Rattle.fh_model.specs.RowRules.{counters_in}
use Rattle.name_core.proofs.row_rules.counters_in.Given as goal

abbrev pub invariant-loop-row : goal.invariant-loop-row
invariant-loop-row l = counters_in (drop l.row-index l.rows) ≡ counters_in l.rows
