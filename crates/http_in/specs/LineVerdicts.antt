-- What the bytes at hand say of a chunk line.
use Rattle.std.specs.Prelude.{◌≡◌, ℕ, ◌≤◌, List, length, drop}
use Rattle.httparse.specs.Grammar.{ChunkLine, chunk_size}
use Rattle.http_in.specs.declared.chunks.LineVerdict.{LineVerdict}
use Rattle.http_in.specs.declared.chunks.LineVerdict.TheVariants.{Whole, Bad, Unfinished}
use Rattle.http_in.specs.Lines.{BeginsWithLine, IsBadLine, IsCutLine}

-- the first len bytes are a line of that size
pub record IsWholeLine (held : List ℕ) (len size : ℕ) : Type 0 where
  pub line : ChunkLine
  pub begins : BeginsWithLine held line (drop len held)
  pub size_is : size ≡ chunk_size line
  pub within : len ≤ length held

-- what each verdict says
abbrev pub IsLineVerdict : List ℕ → LineVerdict → Type 0
IsLineVerdict held (Whole len size) = IsWholeLine held len size
IsLineVerdict held Bad = IsBadLine held
IsLineVerdict held Unfinished = IsCutLine held
