use Rattle.std.proofs.Common.{◌≡◌}
use Rattle.http_in.specs.declared.place.State.TheVariants.{Between}
use Rattle.http_in.specs.Readings.{RequestsSoFar}
use Rattle.http_in.proofs.all.read_all.Given as goal

abbrev pub invariant-requests : goal.invariant-requests
invariant-requests g l = record {
  standing : l.reader.state ≡ Between;
  so_far : RequestsSoFar g.S.Source.given g.S.Source.left l.initial.source l.source l.initial.reader.held l.reader.held
      l.initial.content.items l.content.items l.whole;
  faults_are : g.S.Source.faults l.source ≡ g.S.Source.faults l.initial.source;
}
