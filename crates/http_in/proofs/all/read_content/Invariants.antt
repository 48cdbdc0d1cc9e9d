use Rattle.std.proofs.Common.{◌≡◌, ◌≤◌, ◌+◌, length}
use Rattle.http_in.specs.Readings.{ContentSoFar}
use Rattle.http_in.proofs.all.read_content.Given as goal

abbrev pub invariant-portions : goal.invariant-portions
invariant-portions g l = record {
  so_far : ContentSoFar g.S.Source.given g.S.Source.left l.initial.source l.source l.initial.reader.held l.reader.held
      l.initial.reader.state l.reader.state l.initial.content.items l.content.items;
  faults_are : g.S.Source.faults l.source ≡ g.S.Source.faults l.initial.source;
  many : length l.initial.content.items + l.counter ≤ length l.content.items;
}
