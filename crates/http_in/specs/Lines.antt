-- Chunk lines within their limit, and the CR LF behind a chunk's bytes. A chunk line's grammar is httparse's.
use Rattle.std.specs.Prelude.{◌≡◌, ℕ, ◌+◌, ◌<◌, ◌≤◌, ◌⊎◌, List, [], ◌∷◌, length, take}
use Rattle.httparse.specs.Grammar.{ChunkLine, print_chunk_line, ReadsChunkLine, HasNoChunkLine, NeverHasChunkLine, MayBecomeChunkLine}
use Rattle.http_in.specs.declared.limits.TheConstants.{CHUNK_LINE_MAX_BYTES}

-- the most bytes of a chunk line with its CR LF
abbrev pub line_limit : ℕ
line_limit = CHUNK_LINE_MAX_BYTES + 2

-- the bytes by which a chunk line is judged: at most as many as a line may have
abbrev pub line_bytes : List ℕ → List ℕ
line_bytes bytes = take line_limit bytes

-- the bytes are a chunk line within the limit, and then rest
pub record BeginsWithLine (bytes : List ℕ) (l : ChunkLine) (rest : List ℕ) : Type 0 where
  pub reads : ReadsChunkLine bytes l rest
  pub short : length (print_chunk_line l) ≤ line_limit

-- there are as many bytes as a line may have, and no line among them
pub record IsLongLine (bytes : List ℕ) : Type 0 where
  pub long : line_limit ≤ length bytes
  pub none : HasNoChunkLine (line_bytes bytes)

-- whatever follows, no chunk line within the limit begins the bytes
abbrev pub IsBadLine : List ℕ → Type 0
IsBadLine bytes = NeverHasChunkLine (line_bytes bytes) ⊎ IsLongLine bytes

-- the bytes end inside a chunk line
pub record IsCutLine (bytes : List ℕ) : Type 0 where
  pub short : length bytes < line_limit
  pub none : HasNoChunkLine bytes
  pub hopeful : MayBecomeChunkLine bytes

-- the bytes end where CR LF has not come whole
abbrev pub IsCrlfCut : List ℕ → Type 0
IsCrlfCut bytes = (bytes ≡ []) ⊎ (bytes ≡ 13 ∷ [])

-- another byte stands where CR LF must
abbrev pub IsCrlfBad : List ℕ → Type 0
IsCrlfBad [] = ⊥
IsCrlfBad (b ∷ []) = ¬ (b ≡ 13)
IsCrlfBad (b ∷ c ∷ bytes) = (b ≡ 13 → c ≡ 10 → ⊥)
