-- How a hasher goes on, and what digests tell of blocks.
use Rattle.std.proofs.Common.{◌≡◌, ℕ, ◌+◌, ◌<◌, List, [], ◌∷◌, ◌++◌, length, map, refl, sym, ◌∙◌, ap, subst, arith, length-append}
use Rattle.std.specs.List.{flat_map}
use Rattle.std.proofs.lemmas.Grind.{flat_map-append}
use Rattle.std.proofs.lemmas.List.{append-nil, map-append}
use Rattle.sha2.specs.Hashers.{Holds256}
use Rattle.sha2.specs.Sha256.{sha256}
use Rattle.sha2.specs.declared.Sha256.{Sha256}
use Rattle.fh_model.specs.declared.pieces.Bytes32.{Bytes32}
use Rattle.fh_model.specs.declared.limits.TheConstants.{BLOCK_BYTES}
use Rattle.fh_model.specs.Content.{whole_blocks, last_part}
use Rattle.fh_model.proofs.ContentLaws.{whole_blocks-part, last_part-part, whole_blocks-full, last_part-full}
use Rattle.content_hash.specs.declared.hasher.Hasher.{Hasher}
use Rattle.content_hash.specs.Digests.{bytes_of, joined}
use Rattle.content_hash.specs.Hashing.{HasTaken}

-- what a SHA-256 hasher was fed with more
abbrev pub Feeds : Sha256 → Sha256 → List ℕ → Type 0
Feeds old new more = (m : List ℕ) → Holds256 old m → Holds256 new (m ++ more)

-- bytes that don't fill the block
pub taken_part : (old new : Hasher) (content more : List ℕ) → HasTaken old content → new.blocks ≡ old.blocks → Feeds old.part new.part more
    → new.part_len ≡ old.part_len + length more → HasTaken new (content ++ more)
taken_part old new content more taken same feeds len =
    let short : length (last_part content) + length more < BLOCK_BYTES = omega (arith, taken.len, new.short) in
    let blocks : Holds256 new.blocks (flat_map sha256 (whole_blocks content)) = rw same taken.blocks in
    record {
      blocks = rw (whole_blocks-part content more short) blocks;
      part = rw (last_part-part content more short) (feeds (last_part content) taken.part);
      len = omega (arith, taken.len, ap length (last_part-part content more short), length-append (last_part content) more);
    }

-- bytes that fill it
pub taken_full : (old new : Hasher) (content more digest : List ℕ) → HasTaken old content → old.part_len + length more ≡ BLOCK_BYTES
    → digest ≡ sha256 (last_part content ++ more) → Feeds old.blocks new.blocks digest → Holds256 new.part [] → new.part_len ≡ 0 → HasTaken new (content ++ more)
taken_full old new content more digest taken full is feeds empty zero =
    let fits : length (last_part content) + length more ≡ BLOCK_BYTES = omega (arith, taken.len) in
    let whole = whole_blocks-full content more fits in
    let none = last_part-full content more fits in
    let joins : flat_map sha256 (whole_blocks content) ++ digest ≡ flat_map sha256 (whole_blocks (content ++ more)) =
    ap (λ (l : List ℕ). flat_map sha256 (whole_blocks content) ++ l) (is ∙ sym (append-nil (sha256 (last_part content ++ more))))
    ∙ sym (flat_map-append sha256 (whole_blocks content) ((last_part content ++ more) ∷ [])) ∙ ap (flat_map sha256) (sym whole) in
    record {
      blocks = subst (Holds256 new.blocks) joins (feeds (flat_map sha256 (whole_blocks content)) taken.blocks);
      part = rw none empty;
      len = zero ∙ sym (ap length none);
    }

-- the digest of a block that became whole
pub digest_more : (content more digest : List ℕ) → length (last_part content) + length more ≡ BLOCK_BYTES → digest ≡ sha256 (last_part content ++ more)
    → map sha256 (whole_blocks (content ++ more)) ≡ map sha256 (whole_blocks content) ++ digest ∷ []
digest_more content more digest full is =
    ap (map sha256) (whole_blocks-full content more full) ∙ map-append sha256 (whole_blocks content) ((last_part content ++ more) ∷ [])
    ∙ ap (λ (l : List ℕ). map sha256 (whole_blocks content) ++ l ∷ []) (sym is)

pub digest_none : (content more : List ℕ) → length (last_part content) + length more < BLOCK_BYTES → map sha256 (whole_blocks (content ++ more)) ≡ map sha256 (whole_blocks content) ++ []
digest_none content more short = ap (map sha256) (whole_blocks-part content more short) ∙ sym (append-nil (map sha256 (whole_blocks content)))

-- digests that are those of lists are joined as theirs
pub joined_as : (digests : List Bytes32) (blocks : List (List ℕ)) → map bytes_of digests ≡ map sha256 blocks → joined digests ≡ flat_map sha256 blocks
joined_as [] [] is = refl
joined_as [] (block ∷ blocks) is = cc
joined_as (digest ∷ digests) [] is = cc
joined_as (digest ∷ digests) (block ∷ blocks) is =
    let first : bytes_of digest ≡ sha256 block = cc in
    let others : map bytes_of digests ≡ map sha256 blocks = cc in
    rw (first, joined_as digests blocks others) refl
