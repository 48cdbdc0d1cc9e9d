-- What the bytes left are, from a place inside a body on: steps that give its content, and an ending.
use Rattle.std.specs.Prelude.{◌≡◌, ℕ, zero, suc, ◌-◌, ◌<◌, ◌≤◌, List, [], ◌∷◌, Option, Some, None, ⊤}
use Rattle.httparse.specs.Grammar.{ChunkLine, chunk_size, Field, LineEnd}
use Rattle.http_in.specs.declared.place.Place.{Place}
use Rattle.http_in.specs.declared.place.Place.TheVariants.{Known, Line, Chunk, ChunkEnd, Trailers, Over}
use Rattle.http_in.specs.Lines.{BeginsWithLine, IsBadLine, IsCutLine, IsCrlfCut, IsCrlfBad}
use Rattle.http_in.specs.Trailers.{BeginsWithTrailers, IsBadTrailers, IsCutTrailers, IsLargeTrailers}

-- how a body ends: whole, with the bytes that follow it, or cut, or bad, or past its limit
pub data Ending : Type 0 where
  done : List ℕ → Ending
  cut bad too_large : Ending

-- one step at a place: the byte of content that it gives, if any, the place after it, and the bytes left there
pub data BodyStep : Place → List ℕ → Option ℕ → Place → List ℕ → Type 0 where
  known_byte : (n b : ℕ) (bytes : List ℕ) → BodyStep (Known (suc n)) (b ∷ bytes) (Some b) (Known n) bytes
  line_chunk : (budget : ℕ) (bytes after : List ℕ) (l : ChunkLine)
      → BeginsWithLine bytes l after → 0 < chunk_size l → chunk_size l ≤ budget
      → BodyStep (Line budget) bytes None (Chunk (chunk_size l) (budget - chunk_size l)) after
  line_last : (budget : ℕ) (bytes after : List ℕ) (l : ChunkLine)
      → BeginsWithLine bytes l after → chunk_size l ≡ 0
      → BodyStep (Line budget) bytes None Trailers after
  chunk_byte : (n budget b : ℕ) (bytes : List ℕ)
      → BodyStep (Chunk (suc n) budget) (b ∷ bytes) (Some b) (Chunk n budget) bytes
  chunk_whole : (budget : ℕ) (bytes : List ℕ) → BodyStep (Chunk zero budget) bytes None (ChunkEnd budget) bytes
  chunk_crlf : (budget : ℕ) (bytes : List ℕ)
      → BodyStep (ChunkEnd budget) (13 ∷ 10 ∷ bytes) None (Line budget) bytes

-- steps, one after another, and the content that they give together
pub data Runs : Place → List ℕ → List ℕ → Place → List ℕ → Type 0 where
  here : (place : Place) (bytes : List ℕ) → Runs place bytes [] place bytes
  silent : (place next last : Place) (bytes after content rest : List ℕ)
      → BodyStep place bytes None next after → Runs next after content last rest → Runs place bytes content last rest
  gives : (b : ℕ) (place next last : Place) (bytes after content rest : List ℕ)
      → BodyStep place bytes (Some b) next after → Runs next after content last rest
      → Runs place bytes (b ∷ content) last rest

-- a chunk line that brings the content past what it may have
abbrev pub IsLargeLine : ℕ → List ℕ → Type 0
IsLargeLine budget bytes = (after : List ℕ) × (l : ChunkLine) × BeginsWithLine bytes l after × (budget < chunk_size l)

-- the body ends at this place
abbrev pub EndsAt : Place → List ℕ → Ending → Type 0
EndsAt (Known n) bytes (done rest) = (n ≡ 0) × (rest ≡ bytes)
EndsAt (Known n) bytes cut = (0 < n) × (bytes ≡ [])
EndsAt (Known n) bytes bad = ⊥
EndsAt (Known n) bytes too_large = ⊥
EndsAt (Line budget) bytes (done rest) = ⊥
EndsAt (Line budget) bytes cut = IsCutLine bytes
EndsAt (Line budget) bytes bad = IsBadLine bytes
EndsAt (Line budget) bytes too_large = IsLargeLine budget bytes
EndsAt (Chunk n budget) bytes (done rest) = ⊥
EndsAt (Chunk n budget) bytes cut = (0 < n) × (bytes ≡ [])
EndsAt (Chunk n budget) bytes bad = ⊥
EndsAt (Chunk n budget) bytes too_large = ⊥
EndsAt (ChunkEnd budget) bytes (done rest) = ⊥
EndsAt (ChunkEnd budget) bytes cut = IsCrlfCut bytes
EndsAt (ChunkEnd budget) bytes bad = IsCrlfBad bytes
EndsAt (ChunkEnd budget) bytes too_large = ⊥
EndsAt Trailers bytes (done rest) = (fields : List Field) × (last : LineEnd) × BeginsWithTrailers bytes fields last rest
EndsAt Trailers bytes cut = IsCutTrailers bytes
EndsAt Trailers bytes bad = IsBadTrailers bytes
EndsAt Trailers bytes too_large = IsLargeTrailers bytes
EndsAt Over bytes (done rest) = ⊥
EndsAt Over bytes cut = ⊥
EndsAt Over bytes bad = ⊥
EndsAt Over bytes too_large = ⊤

-- from this place on the bytes are this content, and end so
pub record BodyFrom (place : Place) (bytes content : List ℕ) (ending : Ending) : Type 0 where
  pub last : Place
  pub left : List ℕ
  pub runs : Runs place bytes content last left
  pub ends : EndsAt last left ending
