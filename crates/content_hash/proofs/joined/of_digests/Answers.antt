use Rattle.std.proofs.Common.{◌≡◌, ◌∙◌, ap, arith, take}
use Rattle.std.proofs.lemmas.List.{take_all}
use Rattle.sha2.specs.Sha256.{sha256}
use Rattle.fh_model.specs.Content.{blocks_of}
use Rattle.content_hash.specs.Digests.{joined}
use Rattle.content_hash.proofs.TakenLemmas.{joined_as}
use Rattle.content_hash.proofs.joined.of_digests.Goals as goal

pub returns-clause-hash : goal.returns-clause-hash
returns-clause-hash c content are =
    let all : take c.loop-digest.digest-index c.args.digests.now ≡ c.args.digests.now = take_all c.loop-digest.digest-index c.args.digests.now (omega arith) in
    c.finalize.ensures (joined (take c.loop-digest.digest-index c.args.digests.now)) c.loop-digest.invariant
    ∙ ap (λ digests. sha256 (joined digests)) all ∙ ap sha256 (joined_as c.args.digests.now (blocks_of content) are)
