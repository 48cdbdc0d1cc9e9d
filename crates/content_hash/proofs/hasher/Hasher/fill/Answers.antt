use Rattle.std.proofs.Common.{◌≡◌, ◌+◌, ◌∙◌, arith, refl, length, take, length-take}
use Rattle.fh_model.specs.declared.limits.TheConstants.{BLOCK_BYTES}
use Rattle.fh_model.specs.Content.{last_part}
use Rattle.content_hash.proofs.TakenLemmas.{taken_part, taken_full, digest_more, digest_none}
use Rattle.content_hash.proofs.hasher.Hasher.fill.Goals as goal

pub returns-then-taken-room-clause-content : goal.returns-then-taken-room-clause-content
returns-then-taken-room-clause-content c content taken =
    let more = take c.min-taken.result c.args.bytes.now in
    taken_part c.args.self.now _ content more taken refl c.update.ensures (omega (arith, length-take c.min-taken.result c.args.bytes.now))

pub returns-then-taken-room-clause-digest : goal.returns-then-taken-room-clause-digest
returns-then-taken-room-clause-digest c content taken =
    let more = take c.min-taken.result c.args.bytes.now in
    digest_none content more (omega (arith, taken.len, length-take c.min-taken.result c.args.bytes.now))

pub returns-clause-content : goal.returns-clause-content
returns-clause-content c content taken =
    let more = take c.min-taken.result c.args.bytes.now in
    let full : c.args.self.now.part_len + length more ≡ BLOCK_BYTES = omega (arith, c.args.self.now.short, length-take c.min-taken.result c.args.bytes.now) in
    let digest = c.finalize_reset-digest.ensures.digest _ (c.update.ensures (last_part content) taken.part) in
    taken_full c.args.self.now _ content more c.as_slice.result.now taken full (c.as_slice.ensures ∙ digest) c.update-2.ensures c.finalize_reset-digest.ensures.empty refl

pub returns-clause-digest : goal.returns-clause-digest
returns-clause-digest c content taken =
    let more = take c.min-taken.result c.args.bytes.now in
    let full : length (last_part content) + length more ≡ BLOCK_BYTES = omega (arith, taken.len, c.args.self.now.short, length-take c.min-taken.result c.args.bytes.now) in
    digest_more content more c.finalize_reset-digest.result full (c.finalize_reset-digest.ensures.digest _ (c.update.ensures (last_part content) taken.part))
