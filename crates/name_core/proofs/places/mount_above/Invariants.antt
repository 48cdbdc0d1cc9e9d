use Rattle.std.specs.Prelude.{is_some}
use Rattle.fh_model.specs.Nodes.{mounted_at}
use Rattle.name_core.proofs.PrefixLemmas.{NoneAbove}
use Rattle.name_core.proofs.places.mount_above.Given as goal

abbrev pub invariant-loop-count : goal.invariant-loop-count
invariant-loop-count l = NoneAbove (λ node. is_some (mounted_at node)) l.tree l.names l.count
