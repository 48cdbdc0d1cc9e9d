use Rattle.http_in.specs.Stands.{IsInside}
use Rattle.http_in_bench.proofs.read_body.Given as goal

abbrev pub invariant-portions : goal.invariant-portions
invariant-portions g l = IsInside l.reader.state
