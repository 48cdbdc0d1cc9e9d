-- The blocks of a content that has one at most.
use Rattle.std.proofs.Common.{◌≡◌, ℕ, ◌<◌, ◌≤◌, List, [], ◌∷◌, arith, length, map, ap, ◌∙◌, sym}
use Rattle.sha2.specs.Sha256.{sha256}
use Rattle.fh_model.specs.declared.pieces.Bytes32.{Bytes32}
use Rattle.fh_model.specs.declared.limits.TheConstants.{BLOCK_BYTES}
use Rattle.fh_model.specs.Content.{blocks_of}
use Rattle.fh_model.proofs.ContentLaws.{blocks_of-nil, blocks_of-one}
use Rattle.content_hash.specs.Digests.{bytes_of}

pub digests_none : (content : List ℕ) → length content < 1 → map bytes_of [] ≡ map sha256 (blocks_of content)
digests_none [] none = ap (map sha256) (sym blocks_of-nil)
digests_none (byte ∷ bytes) none = absurd (omega (arith, none))

pub digests_one : (content : List ℕ) (digest : Bytes32) → 0 < length content → length content ≤ BLOCK_BYTES → digest.bytes ≡ sha256 content
    → map bytes_of (digest ∷ []) ≡ map sha256 (blocks_of content)
digests_one content digest some fits is = ap (λ (bytes : List ℕ). bytes ∷ []) is ∙ ap (map sha256) (sym (blocks_of-one content some fits))
