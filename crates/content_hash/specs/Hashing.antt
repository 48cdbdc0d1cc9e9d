-- What a hasher has taken in.
use Rattle.std.specs.Prelude.{◌≡◌, ℕ, List, length}
use Rattle.std.specs.List.{flat_map}
use Rattle.sha2.specs.Hashers.{Holds256}
use Rattle.sha2.specs.Sha256.{sha256}
use Rattle.fh_model.specs.Content.{whole_blocks, last_part}
use Rattle.content_hash.specs.declared.hasher.Hasher.{Hasher}

-- the hasher has taken in this content and nothing else
pub record HasTaken (hasher : Hasher) (content : List ℕ) : Type 0 where
  pub blocks : Holds256 hasher.blocks (flat_map sha256 (whole_blocks content))
  pub part : Holds256 hasher.part (last_part content)
  pub len : hasher.part_len ≡ length (last_part content)
