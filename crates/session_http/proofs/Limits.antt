-- A body has no more bytes than its limit, so that no count of portions comes to its end.
use Rattle.std.proofs.Common.{◌≡◌, ℕ, ◌+◌, ◌-◌, ◌≤◌, ◌^◌, Bool, true, false, if◌then◌else◌, nat_le, List, length, Option, Some, None, refl, arith}
use Rattle.std.proofs.lemmas.Bool.{leb-true}
use Rattle.http_in.specs.declared.head.Length.{Length}
use Rattle.http_in.specs.declared.head.Length.TheVariants.{Absent, Known, Chunked}
use Rattle.http_in.specs.declared.place.Place.{Place}
use Rattle.http_in.specs.declared.place.Place.TheVariants.{Known as KnownPlace, Line, Chunk, ChunkEnd, Trailers, Over}
use Rattle.http_in.specs.Bodies.{BodyStep, known_byte, line_chunk, line_last, chunk_byte, chunk_whole, chunk_crlf, Runs, here, silent, gives}
use Rattle.http_in.specs.Parts.{is_content_target, limit_of}
use Rattle.http_in.specs.Stands.{place_of}

-- how many bytes of content may come from a place on
abbrev room_at : Place → ℕ
room_at (KnownPlace n) = n
room_at (Line budget) = budget
room_at (Chunk n budget) = n + budget
room_at (ChunkEnd budget) = budget
room_at Trailers = 0
room_at Over = 0

abbrev bytes_in : Option ℕ → ℕ
bytes_in None = 0
bytes_in (Some byte) = 1

step_room : (p q : Place) (o : Option ℕ) (a b : List ℕ) → BodyStep p a o q b → bytes_in o + room_at q ≤ room_at p
step_room _ _ _ _ _ (known_byte n x bytes) = omega arith
step_room _ _ _ _ _ (line_chunk budget bytes after l x some fits) = omega (arith, fits)
step_room _ _ _ _ _ (line_last budget bytes after l x none) = omega arith
step_room _ _ _ _ _ (chunk_byte n budget x bytes) = omega arith
step_room _ _ _ _ _ (chunk_whole budget bytes) = omega arith
step_room _ _ _ _ _ (chunk_crlf budget bytes) = omega arith

runs_room : (p q : Place) (a content b : List ℕ) → Runs p a content q b → length content ≤ room_at p
runs_room _ _ _ _ _ (here place bytes) = omega arith
runs_room _ _ _ _ _ (silent place next last bytes after content rest step runs) =
    omega (arith, step_room place next None bytes after step, runs_room next last after content rest runs)
runs_room _ _ _ _ _ (gives byte place next last bytes after content rest step runs) =
    omega (arith, step_room place next (Some byte) bytes after step, runs_room next last after content rest runs)

stated_room : (fits : Bool) (n limit : ℕ) → (fits ≡ true → n ≤ limit) → room_at (if fits then KnownPlace n else Over) ≤ limit
stated_room true n limit is = is refl
stated_room false n limit is = omega arith

framing_room : (limit : ℕ) (framing : Length) → room_at (place_of limit framing) ≤ limit
framing_room limit Absent = omega arith
framing_room limit (Known n) = stated_room (nat_le n limit) n limit (leb-true n limit)
framing_room limit Chunked = omega arith

limit_by : (is : Bool) → (if is then 157286400 else 1048576) ≤ 157286400
limit_by true = omega arith
limit_by false = omega arith

-- a body that came so far has no such number of bytes
pub never_unread : (target : List ℕ) (framing : Length) (q : Place) (a content b : List ℕ) → Runs (place_of (limit_of target) framing) a content q b → 2 ^ 64 - 1 ≤ length content → ⊥
never_unread target framing q a content b runs many =
    omega (arith, many, runs_room (place_of (limit_of target) framing) q a content b runs, framing_room (limit_of target) framing, limit_by (is_content_target target))
