use Rattle.fh_model.specs.Nodes.{is_file}
use Rattle.name_core.proofs.PrefixLemmas.{NoneAbove}
use Rattle.name_core.proofs.places.is_below_file.Given as goal

abbrev pub invariant-loop-count : goal.invariant-loop-count
invariant-loop-count l = NoneAbove is_file l.tree l.names l.count
