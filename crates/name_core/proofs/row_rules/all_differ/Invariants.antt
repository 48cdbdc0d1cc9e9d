use Rattle.std.proofs.Common.{◌≡◌, length}
use Rattle.fh_model.specs.RowRules.{all_differ}
use Rattle.name_core.proofs.row_rules.all_differ.Given as goal

abbrev pub invariant-loop-number : goal.invariant-loop-number
invariant-loop-number l = all_differ l.rest ≡ all_differ l.numbers

abbrev pub decreases-loop-number : goal.decreases-loop-number
decreases-loop-number l = length l.rest
