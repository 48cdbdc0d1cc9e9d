-- The content of a file: the blocks that its hash is made of, and the pieces that hold it.
use Rattle.std.specs.Prelude.{◌≡◌, ℕ, zero, suc, ◌+◌, ◌*◌, ◌/◌, ◌<◌, ◌≤◌, ◌==◌, ◌&&◌, Bool, true, nat_le, nat_lt, List, [], ◌∷◌, ◌++◌, length, take, drop, Option, IfSome}
use Rattle.std.specs.List.{flat_map}
use Rattle.sha2.specs.Sha256.{sha256}
use Rattle.fh_model.specs.declared.limits.TheConstants.{BLOCK_BYTES}
use Rattle.fh_model.specs.declared.pieces.Bytes32.{Bytes32}
use Rattle.fh_model.specs.declared.pieces.Piece.{Piece}

-- ---- blocks

-- the first n parts of a list, each of that size
abbrev pub first_parts : ℕ → ℕ → List ℕ → List (List ℕ)
first_parts size zero bytes = []
first_parts size (suc n) bytes = take size bytes ∷ first_parts size n (drop size bytes)

-- the whole blocks of a content
unfoldable pub whole_blocks : List ℕ → List (List ℕ)
whole_blocks content = first_parts BLOCK_BYTES (length content / BLOCK_BYTES) content

-- the bytes behind them, which are fewer than a block's
unfoldable pub last_part : List ℕ → List ℕ
last_part content = drop (length content / BLOCK_BYTES * BLOCK_BYTES) content

-- the block of the last bytes, if there are any
abbrev pub last_block : List ℕ → List (List ℕ)
last_block [] = []
last_block (byte ∷ bytes) = (byte ∷ bytes) ∷ []

-- a content cut into blocks, of which the last may be shorter; an empty content has none
abbrev pub blocks_of : List ℕ → List (List ℕ)
blocks_of content = whole_blocks content ++ last_block (last_part content)

-- the digest of the joined digests of the blocks
abbrev pub content_hash : List ℕ → List ℕ
content_hash content = sha256 (flat_map sha256 (blocks_of content))

-- the digest, where it is known, is that of these bytes
abbrev pub IsDigestOf : List ℕ → Option Bytes32 → Type 0
IsDigestOf bytes digest = IfSome digest (λ known. known.bytes ≡ sha256 bytes)

-- ---- pieces

-- the bytes of a piece in the block file
abbrev pub slice_of : List ℕ → Piece → List ℕ
slice_of blocks piece = take piece.len (drop piece.place blocks)

-- the piece ends within the block file
abbrev pub LiesIn : List ℕ → Piece → Type 0
LiesIn blocks piece = piece.place + piece.len ≤ length blocks

-- it does, and its digest is that of its bytes
pub record IsHeld (blocks : List ℕ) (piece : Piece) : Type 0 where
  pub lies : LiesIn blocks piece
  pub digest : piece.digest.bytes ≡ sha256 (slice_of blocks piece)

-- the content that pieces hold together
abbrev pub content_of : List ℕ → List Piece → List ℕ
content_of blocks pieces = flat_map (slice_of blocks) pieces

-- each piece is as long as a block may be: whole but for the last, and never empty
abbrev pub AreBlocks : List Piece → Type 0
AreBlocks [] = Unit {0}
AreBlocks (piece ∷ []) = (0 < piece.len) × (piece.len ≤ BLOCK_BYTES)
AreBlocks (piece ∷ next ∷ pieces) = (piece.len ≡ BLOCK_BYTES) × AreBlocks (next ∷ pieces)

-- the same as a test
abbrev pub are_blocks : List Piece → Bool
are_blocks [] = true
are_blocks (piece ∷ []) = nat_lt 0 piece.len && nat_le piece.len BLOCK_BYTES
are_blocks (piece ∷ next ∷ pieces) = (piece.len == BLOCK_BYTES) && are_blocks (next ∷ pieces)

-- how many bytes pieces have together
abbrev pub size_of : List Piece → ℕ
size_of [] = 0
size_of (piece ∷ pieces) = piece.len + size_of pieces

-- the digest of the joined digests of pieces
abbrev pub hash_of : List Piece → List ℕ
hash_of pieces = sha256 (flat_map (λ piece. piece.digest.bytes) pieces)
