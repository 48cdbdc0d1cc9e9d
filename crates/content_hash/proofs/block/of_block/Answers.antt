use Rattle.content_hash.proofs.BlockLemmas.{digests_none, digests_one}
use Rattle.content_hash.proofs.block.of_block.Goals as goal

-- src/block.rt:10:1
pub returns-in-empty-clause-hash : goal.returns-in-empty-clause-hash
returns-in-empty-clause-hash c = c.of_digests.ensures.hash c.args.content.now (digests_none c.args.content.now c.in-empty.len_below)

-- src/block.rt:10:1
pub returns-in-len1-up-clause-hash : goal.returns-in-len1-up-clause-hash
returns-in-len1-up-clause-hash c =
    c.of_digests-in-len1-up.ensures.hash c.args.content.now (digests_one c.args.content.now _ c.in-len1-up.len_at_least c.requires c.digest.ensures)
