use Rattle.std.proofs.Common.{◌≤◌, map, drop}
use Rattle.httparse.specs.Spans.{header_bytes}
use Rattle.http_in.specs.Values.{ValuesSoFar}
use Rattle.http_in.proofs.fields.read_values.Given as goal

abbrev pub invariant-loop-span : goal.invariant-loop-span
invariant-loop-span l = record {
  few : l.values.lengths ≤ l.span-index;
  so_far : ValuesSoFar (map (header_bytes l.held) l.spans) (map (header_bytes l.held) (drop l.span-index l.spans)) l.values;
}
