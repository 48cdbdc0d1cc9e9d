use Rattle.std.proofs.Common.{take}
use Rattle.sha2.specs.Hashers.{Holds256}
use Rattle.content_hash.specs.Digests.{joined}
use Rattle.content_hash.proofs.joined.of_digests.Given as goal

abbrev pub invariant-loop-digest : goal.invariant-loop-digest
invariant-loop-digest l = Holds256 l.hasher (joined (take l.digest-index l.digests))
