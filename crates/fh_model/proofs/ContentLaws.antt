-- How a content is cut into blocks.
use Rattle.std.proofs.Common.{◌≡◌, ℕ, zero, suc, ◌+◌, ◌*◌, ◌/◌, ◌<◌, ◌≤◌, List, [], ◌∷◌, ◌++◌, length, take, drop, refl, sym, ◌∙◌, ap, ⊎_elim, arith, append_assoc, append-nil, length-append, length-drop, length-take}
use Rattle.std.specs.List.{flat_map, All}
use Rattle.sha2.specs.Sha256.{sha256}
use Rattle.std.proofs.Math.Nat.{eq-or-lt_of_le}
use Rattle.std.proofs.lemmas.List.{take-append-le, drop-append-le, drop-drop, take-append-drop, take_all, drop_all, take_at, drop_at}
use Rattle.fh_model.specs.declared.limits.TheConstants.{BLOCK_BYTES}
use Rattle.fh_model.specs.declared.pieces.Piece.{Piece}
use Rattle.fh_model.specs.Content.{first_parts, whole_blocks, last_part, blocks_of, content_hash, slice_of, LiesIn, IsHeld, AreBlocks, content_of, hash_of}

-- ---- parts of any size

-- they are joined with what stands behind them
parts_join : (size n : ℕ) (bytes : List ℕ) → flat_map (λ (part : List ℕ). part) (first_parts size n bytes) ++ drop (n * size) bytes ≡ bytes
parts_join size zero bytes = let e : zero * size ≡ 0 = omega arith in rw e refl
parts_join size (suc n) bytes =
    let rest = drop size bytes in
    let e : suc n * size ≡ size + n * size = omega arith in
    let behind : drop (suc n * size) bytes ≡ drop (n * size) rest = ap (λ k. drop k bytes) e ∙ sym (drop-drop (n * size) size bytes) in
    append_assoc (take size bytes) (flat_map (λ (part : List ℕ). part) (first_parts size n rest)) (drop (suc n * size) bytes)
    ∙ ap (λ l. take size bytes ++ (flat_map (λ (part : List ℕ). part) (first_parts size n rest) ++ l)) behind
    ∙ ap (λ l. take size bytes ++ l) (parts_join size n rest) ∙ take-append-drop size bytes

-- more bytes behind them change nothing
parts_stay : (size n : ℕ) (bytes more : List ℕ) → n * size ≤ length bytes → first_parts size n (bytes ++ more) ≡ first_parts size n bytes
parts_stay size zero bytes more enough = refl
parts_stay size (suc n) bytes more enough =
    let e : suc n * size ≡ size + n * size = omega arith in
    let one : size ≤ length bytes = omega (arith, e, enough) in
    let rest : n * size ≤ length (drop size bytes) = omega (arith, e, enough, length-drop size bytes) in
    rw (take-append-le size bytes more one, drop-append-le size bytes more one, parts_stay size n (drop size bytes) more rest) refl

-- one part more
parts_more : (size n : ℕ) (bytes : List ℕ) → first_parts size (suc n) bytes ≡ first_parts size n bytes ++ take size (drop (n * size) bytes) ∷ []
parts_more size zero bytes = let e : zero * size ≡ 0 = omega arith in rw e refl
parts_more size (suc n) bytes =
    let e : size + n * size ≡ suc n * size = omega arith in
    ap (λ l. take size bytes ∷ l) (parts_more size n (drop size bytes)
    ∙ ap (λ b. first_parts size n (drop size bytes) ++ take size b ∷ []) (drop-drop (n * size) size bytes ∙ ap (λ k. drop k bytes) e))

-- ---- blocks

-- the whole blocks and the bytes behind them are the content
pub joined_blocks : (content : List ℕ) → flat_map (λ (block : List ℕ). block) (whole_blocks content) ++ last_part content ≡ content
unfolding whole_blocks last_part
joined_blocks content = parts_join BLOCK_BYTES (length content / BLOCK_BYTES) content

pub last_part-short : (content : List ℕ) → length (last_part content) < BLOCK_BYTES
unfolding last_part
last_part-short content = omega (arith, length-drop (length content / BLOCK_BYTES * BLOCK_BYTES) content)

-- bytes that don't fill a block come to the last part
pub whole_blocks-part : (content more : List ℕ) → length (last_part content) + length more < BLOCK_BYTES → whole_blocks (content ++ more) ≡ whole_blocks content
unfolding whole_blocks last_part
whole_blocks-part content more short =
    let n = length content / BLOCK_BYTES in
    let same : length (content ++ more) / BLOCK_BYTES ≡ n = omega (arith, length-append content more, length-drop (n * BLOCK_BYTES) content) in
    rw same (parts_stay BLOCK_BYTES n content more (omega arith))

pub last_part-part : (content more : List ℕ) → length (last_part content) + length more < BLOCK_BYTES → last_part (content ++ more) ≡ last_part content ++ more
unfolding last_part
last_part-part content more short =
    let n = length content / BLOCK_BYTES in
    let same : length (content ++ more) / BLOCK_BYTES ≡ n = omega (arith, length-append content more, length-drop (n * BLOCK_BYTES) content) in
    rw same (drop-append-le (n * BLOCK_BYTES) content more (omega arith))

-- bytes that fill a block make it whole
pub whole_blocks-full : (content more : List ℕ) → length (last_part content) + length more ≡ BLOCK_BYTES → whole_blocks (content ++ more) ≡ whole_blocks content ++ (last_part content ++ more) ∷ []
unfolding whole_blocks last_part
whole_blocks-full content more full =
    let n = length content / BLOCK_BYTES in
    let one : length (content ++ more) / BLOCK_BYTES ≡ suc n = omega (arith, length-append content more, length-drop (n * BLOCK_BYTES) content) in
    let behind : drop (n * BLOCK_BYTES) (content ++ more) ≡ drop (n * BLOCK_BYTES) content ++ more = drop-append-le (n * BLOCK_BYTES) content more (omega arith) in
    let size : length (drop (n * BLOCK_BYTES) content ++ more) ≤ BLOCK_BYTES = omega (arith, length-append (drop (n * BLOCK_BYTES) content) more) in
    ap (λ k. first_parts BLOCK_BYTES k (content ++ more)) one ∙ parts_more BLOCK_BYTES n (content ++ more)
    ∙ ap (λ l. first_parts BLOCK_BYTES n (content ++ more) ++ take BLOCK_BYTES l ∷ []) behind
    ∙ ap (λ l. first_parts BLOCK_BYTES n (content ++ more) ++ l ∷ []) (take_all BLOCK_BYTES (drop (n * BLOCK_BYTES) content ++ more) size)
    ∙ ap (λ l. l ++ (drop (n * BLOCK_BYTES) content ++ more) ∷ []) (parts_stay BLOCK_BYTES n content more (omega arith))

pub last_part-full : (content more : List ℕ) → length (last_part content) + length more ≡ BLOCK_BYTES → last_part (content ++ more) ≡ []
unfolding last_part
last_part-full content more full =
    let n = length content / BLOCK_BYTES in
    drop_all (length (content ++ more) / BLOCK_BYTES * BLOCK_BYTES) (content ++ more) (omega (arith, length-append content more, length-drop (n * BLOCK_BYTES) content))

-- an empty content has no blocks
pub blocks_of-nil : blocks_of [] ≡ []
unfolding whole_blocks last_part
blocks_of-nil = refl

-- a whole block in front
pub whole_blocks-cons : (block content : List ℕ) → length block ≡ BLOCK_BYTES → whole_blocks (block ++ content) ≡ block ∷ whole_blocks content
unfolding whole_blocks
whole_blocks-cons block content full =
    let n = length content / BLOCK_BYTES in
    let one : length (block ++ content) / BLOCK_BYTES ≡ suc n = omega (arith, length-append block content) in
    ap (λ k. first_parts BLOCK_BYTES k (block ++ content)) one
    ∙ ap (λ l. l ∷ first_parts BLOCK_BYTES n (drop BLOCK_BYTES (block ++ content))) (take_at block content BLOCK_BYTES full)
    ∙ ap (λ l. block ∷ first_parts BLOCK_BYTES n l) (drop_at block content BLOCK_BYTES full)

pub last_part-cons : (block content : List ℕ) → length block ≡ BLOCK_BYTES → last_part (block ++ content) ≡ last_part content
unfolding last_part
last_part-cons block content full =
    let n = length content / BLOCK_BYTES in
    let e : length (block ++ content) / BLOCK_BYTES * BLOCK_BYTES ≡ length block + n * BLOCK_BYTES = omega (arith, length-append block content) in
    ap (λ k. drop k (block ++ content)) e ∙ sym (drop-drop (n * BLOCK_BYTES) (length block) (block ++ content)) ∙ ap (drop (n * BLOCK_BYTES)) (drop_at block content (length block) refl)

pub blocks_of-cons : (block content : List ℕ) → length block ≡ BLOCK_BYTES → blocks_of (block ++ content) ≡ block ∷ blocks_of content
blocks_of-cons block content full = rw (whole_blocks-cons block content full, last_part-cons block content full) refl

one_short : (block : List ℕ) → 0 < length block → length block < BLOCK_BYTES → blocks_of block ≡ block ∷ []
unfolding whole_blocks last_part
one_short [] some short = absurd (omega (arith, some))
one_short (byte ∷ bytes) some short = let none : length (byte ∷ bytes) / BLOCK_BYTES ≡ 0 = omega arith in rw none refl

one_full : (block : List ℕ) → length block ≡ BLOCK_BYTES → blocks_of block ≡ block ∷ []
one_full block full = ap blocks_of (sym (append-nil block)) ∙ blocks_of-cons block [] full ∙ ap (λ (l : List (List ℕ)). block ∷ l) blocks_of-nil

-- a content that fits a block is its own only block
pub blocks_of-one : (block : List ℕ) → 0 < length block → length block ≤ BLOCK_BYTES → blocks_of block ≡ block ∷ []
blocks_of-one block some fits = ⊎_elim (one_full block) (one_short block some) (eq-or-lt_of_le fits)

-- ---- pieces

length-slice_of : (blocks : List ℕ) (piece : Piece) → LiesIn blocks piece → length (slice_of blocks piece) ≡ piece.len
length-slice_of blocks piece lies = omega (arith, lies, length-take piece.len (drop piece.place blocks), length-drop piece.place blocks)

-- the joined digests of pieces that hold a content's blocks are those of the blocks
pub joined-blocks_of : (blocks : List ℕ) (pieces : List Piece) → All (IsHeld blocks) pieces → AreBlocks pieces
    → flat_map (λ (piece : Piece). piece.digest.bytes) pieces ≡ flat_map sha256 (blocks_of (content_of blocks pieces))
joined-blocks_of blocks [] held are = ap (flat_map sha256) (sym blocks_of-nil)
joined-blocks_of blocks (piece ∷ []) held are =
    let slice = slice_of blocks piece in
    let here : IsHeld blocks piece = held 0 piece (omega arith) in
    let size : length slice ≡ piece.len = length-slice_of blocks piece here.lies in
    let one : blocks_of (slice ++ []) ≡ slice ∷ [] = ap blocks_of (append-nil slice) ∙ blocks_of-one slice (omega (arith, size, are.0)) (omega (arith, size, are.1)) in
    ap (λ (l : List ℕ). l ++ []) here.digest ∙ ap (flat_map sha256) (sym one)
joined-blocks_of blocks (piece ∷ next ∷ pieces) held are =
    let slice = slice_of blocks piece in
    let others = content_of blocks (next ∷ pieces) in
    let here : IsHeld blocks piece = held 0 piece (omega arith) in
    let there : All (IsHeld blocks) (next ∷ pieces) = λ k d less. held (suc k) d (omega (arith, less)) in
    let size : length slice ≡ BLOCK_BYTES = length-slice_of blocks piece here.lies ∙ are.0 in
    ap (λ (l : List ℕ). l ++ flat_map (λ (p : Piece). p.digest.bytes) (next ∷ pieces)) here.digest
    ∙ ap (λ (l : List ℕ). sha256 slice ++ l) (joined-blocks_of blocks (next ∷ pieces) there are.1)
    ∙ ap (flat_map sha256) (sym (blocks_of-cons slice others size))

-- so the content's hash is a function of the pieces' digests
pub hash_of-content : (blocks : List ℕ) (pieces : List Piece) → All (IsHeld blocks) pieces → AreBlocks pieces → hash_of pieces ≡ content_hash (content_of blocks pieces)
hash_of-content blocks pieces held are = ap sha256 (joined-blocks_of blocks pieces held are)
