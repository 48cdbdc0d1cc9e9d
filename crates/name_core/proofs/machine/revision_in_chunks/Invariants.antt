use Rattle.std.proofs.Common.{◌≡◌, ◌==◌, drop, find, flat_map}
use Rattle.name_core.proofs.machine.revision_in_chunks.Given as goal

abbrev pub invariant-loop-chunk : goal.invariant-loop-chunk
invariant-loop-chunk l = find (λ kept. kept.file.rev == l.rev) (flat_map (λ chunk. chunk) (drop l.chunk-index l.chunks)) ≡ find (λ kept. kept.file.rev == l.rev) (flat_map (λ chunk. chunk) l.chunks)
