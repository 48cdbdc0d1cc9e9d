-- What one move over the bytes at hand says of the body.
use Rattle.std.specs.Prelude.{◌≡◌, ℕ, zero, suc, ◌-◌, ◌<◌, ◌≤◌, List, length, drop, None, ⊤, ◌∷◌}
use Rattle.http_in.specs.declared.limits.TheConstants.{HEAD_MAX_BYTES}
use Rattle.httparse.specs.Grammar.{Field, LineEnd}
use Rattle.http_in.specs.declared.place.Place.{Place}
use Rattle.http_in.specs.declared.place.Place.TheVariants.{Known, Line, Chunk, ChunkEnd, Trailers, Over}
use Rattle.http_in.specs.declared.chunks.Move.{Move}
use Rattle.http_in.specs.declared.chunks.Move.TheVariants.{To, Gives, Wants, Done, Bad, TooLarge}
use Rattle.http_in.specs.declared.chunks.TrailerVerdict.{TrailerVerdict}
use Rattle.http_in.specs.declared.chunks.TrailerVerdict.TheVariants.{Whole, TooLarge as LargeTrailers, Bad as BadTrailers, Unfinished}
use Rattle.http_in.specs.declared.chunks.EndVerdict.{EndVerdict}
use Rattle.http_in.specs.declared.chunks.EndVerdict.TheVariants.{Whole as WholeEnd, Bad as BadEnd, Unfinished as UnfinishedEnd}
use Rattle.http_in.specs.Lines.{IsCrlfCut, IsCrlfBad}
use Rattle.http_in.specs.Trailers.{BeginsWithTrailers, IsBadTrailers, IsCutTrailers, IsLargeTrailers}
use Rattle.http_in.specs.Bodies.{done, cut, bad, too_large, BodyStep, EndsAt}

-- how many bytes of content come next for certain
abbrev pub due : Place → ℕ
due (Known n) = n
due (Chunk n budget) = n
due (Line budget) = 0
due (ChunkEnd budget) = 0
due Trailers = 0
due Over = 0

-- the place after so many of them
abbrev pub shrunk : Place → ℕ → Place
shrunk (Known n) k = Known (n - k)
shrunk (Chunk n budget) k = Chunk (n - k) budget
shrunk (Line budget) k = Line budget
shrunk (ChunkEnd budget) k = ChunkEnd budget
shrunk Trailers k = Trailers
shrunk Over k = Over

-- how many moves may come before content or an ending
abbrev pub rank : Place → ℕ
rank (Known n) = 0
rank (Chunk zero budget) = 4
rank (Chunk (suc n) budget) = 1
rank (ChunkEnd budget) = 3
rank (Line budget) = 2
rank Trailers = 0
rank Over = 0

-- what a move says of the bytes at hand before it and after it
abbrev pub IsMove : Place → List ℕ → Move → List ℕ → Type 0
IsMove place old (To next) new = BodyStep place old None next new
IsMove place old (Gives most) new = (new ≡ old) × (0 < most) × (most ≡ due place)
IsMove place old Wants new = (new ≡ old) × EndsAt place old cut
IsMove place old Done new = EndsAt place old (done new)
IsMove place old Bad new = (new ≡ old) × EndsAt place old bad
IsMove place old TooLarge new = (new ≡ old) × EndsAt place old too_large

-- each move leads to a place of lower rank, and bytes are wanted only where there is room
abbrev pub Falls : Place → Move → ℕ → Type 0
Falls place (To next) held = rank next < rank place
Falls place (Gives most) held = ⊤
Falls place Wants held = held < HEAD_MAX_BYTES
Falls place Done held = ⊤
Falls place Bad held = ⊤
Falls place TooLarge held = ⊤

-- what the bytes at hand say of the end of a chunk
abbrev pub IsEndVerdict : List ℕ → EndVerdict → Type 0
IsEndVerdict held WholeEnd = held ≡ 13 ∷ 10 ∷ drop 2 held
IsEndVerdict held BadEnd = IsCrlfBad held
IsEndVerdict held UnfinishedEnd = IsCrlfCut held

-- the first len bytes are trailers
pub record IsWholeTrailers (held : List ℕ) (len : ℕ) : Type 0 where
  pub fields : List Field
  pub last : LineEnd
  pub begins : BeginsWithTrailers held fields last (drop len held)
  pub within : len ≤ length held

-- and of trailers
abbrev pub IsTrailerVerdict : List ℕ → TrailerVerdict → Type 0
IsTrailerVerdict held (Whole len) = IsWholeTrailers held len
IsTrailerVerdict held LargeTrailers = IsLargeTrailers held
IsTrailerVerdict held BadTrailers = IsBadTrailers held
IsTrailerVerdict held Unfinished = IsCutTrailers held
