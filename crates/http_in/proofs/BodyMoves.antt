-- The moves inside a body.
use Rattle.std.proofs.Common.{◌≡◌, ℕ, zero, suc, ◌+◌, ◌-◌, ◌*◌, ◌<◌, ◌≤◌, List, [], ◌∷◌, ◌++◌, length, drop, arith, refl, sym, subst, ap, ◌∙◌, inl, inr, None, length-append, slice_index_or}
use Rattle.std.proofs.lemmas.List.{take_all}
use Rattle.std.specs.Prelude.{All, Result, Err}
use Rattle.httparse.specs.Grammar.{Field, IsField, LineEnd, lf, print_section, ReadsSection, HasNoSection, NeverHasSection, MayBecomeSection}
use Rattle.httparse.specs.Spans.{IsSectionAt, IsSectionOf, IsSectionWithin, SectionExceeds}
use Rattle.httparse.specs.Outcome.{OnInvalid, OnTooManyHeaders}
use Rattle.httparse.specs.declared.Error.{Error}
use Rattle.httparse.specs.declared.spans.HeaderSpan.{HeaderSpan}
use Rattle.http_in.specs.declared.place.Place.{Place}
use Rattle.http_in.specs.declared.place.Place.TheVariants.{Line, Chunk, ChunkEnd, Trailers}
use Rattle.http_in.specs.declared.chunks.Move.TheVariants.{To, TooLarge, Done}
use Rattle.http_in.specs.Lines.{IsCrlfBad, IsCrlfCut}
use Rattle.http_in.specs.Trailers.{BeginsWithTrailers, IsBadTrailers, HasManyTrailers, IsOverlongTrailers}
use Rattle.http_in.specs.LineVerdicts.{IsWholeLine}
use Rattle.http_in.specs.Bodies.{BodyStep, line_chunk, line_last, chunk_crlf, chunk_whole}
use Rattle.http_in.specs.Advance.{IsMove, rank, IsWholeTrailers}
use Rattle.http_in.proofs.Sizes.{fields_length, fields_counted}

-- a chunk line
pub large_move : (budget : ℕ) (held : List ℕ) (len size : ℕ) → IsWholeLine held len size → budget < size
    → IsMove (Line budget) held TooLarge held
large_move budget held len size whole over =
    (refl, (drop len held, whole.line, whole.begins, omega (arith, whole.size_is, over)))

pub chunk_move : (budget : ℕ) (held new : List ℕ) (len size : ℕ) → IsWholeLine held len size → 0 < size → size ≤ budget
    → new ≡ drop len held → IsMove (Line budget) held (To (Chunk size (budget - size))) new
chunk_move budget held new len size whole some fits left =
    let P : List ℕ → Type 0 = λ b. BodyStep (Line budget) held None (Chunk size (budget - size)) b in
    let Q : ℕ → Type 0 = λ n. BodyStep (Line budget) held None (Chunk n (budget - n)) (drop len held) in
    subst P (sym left) (subst Q (sym whole.size_is)
    (line_chunk budget held (drop len held) whole.line whole.begins
    (omega (arith, whole.size_is, some)) (omega (arith, whole.size_is, fits))))

pub last_move : (budget : ℕ) (held new : List ℕ) (len size : ℕ) → IsWholeLine held len size → size ≡ 0
    → new ≡ drop len held → IsMove (Line budget) held (To Trailers) new
last_move budget held new len size whole none left =
    let P : List ℕ → Type 0 = λ b. BodyStep (Line budget) held None Trailers b in
    subst P (sym left) (line_last budget held (drop len held) whole.line whole.begins (sym whole.size_is ∙ none))

pub chunk_rank : (n budget : ℕ) → 0 < n → rank (Chunk n budget) < 2
chunk_rank zero budget some = omega arith
chunk_rank (suc n) budget some = omega arith

-- the end of a chunk
pub crlf_move : (budget : ℕ) (held new : List ℕ) → held ≡ 13 ∷ 10 ∷ drop 2 held → new ≡ drop 2 held
    → IsMove (ChunkEnd budget) held (To (Line budget)) new
crlf_move budget held new is left =
    let P : List ℕ → Type 0 = λ b. BodyStep (ChunkEnd budget) b None (Line budget) new in
    let Q : List ℕ → Type 0 = λ b. BodyStep (ChunkEnd budget) (13 ∷ 10 ∷ drop 2 held) None (Line budget) b in
    subst P (sym is) (subst Q (sym left) (chunk_crlf budget (drop 2 held)))

pub crlf_whole : (held : List ℕ) → 2 ≤ length held → slice_index_or held 0 0 ≡ 13 → slice_index_or held 1 0 ≡ 10 → held ≡ 13 ∷ 10 ∷ drop 2 held
crlf_whole [] two a b = absurd (omega arith)
crlf_whole (x ∷ []) two a b = absurd (omega arith)
crlf_whole (x ∷ y ∷ held) two a b = ap (λ (n : ℕ). n ∷ y ∷ held) a ∙ ap (λ (n : ℕ). 13 ∷ n ∷ held) b

pub crlf_bad_first : (held : List ℕ) → 1 ≤ length held → (slice_index_or held 0 0 ≡ 13 → ⊥) → IsCrlfBad held
crlf_bad_first [] some other = absurd (omega arith)
crlf_bad_first (x ∷ []) some other = other
crlf_bad_first (x ∷ y ∷ held) some other = λ a b. other a

pub crlf_bad_second : (held : List ℕ) → 2 ≤ length held → (slice_index_or held 1 0 ≡ 10 → ⊥) → IsCrlfBad held
crlf_bad_second [] two other = absurd (omega arith)
crlf_bad_second (x ∷ []) two other = absurd (omega arith)
crlf_bad_second (x ∷ y ∷ held) two other = λ a b. other b

pub crlf_cut_one : (held : List ℕ) → 1 ≤ length held → length held < 2 → slice_index_or held 0 0 ≡ 13 → IsCrlfCut held
crlf_cut_one [] some few a = absurd (omega arith)
crlf_cut_one (x ∷ []) some few a = inr (ap (λ (n : ℕ). n ∷ []) a)
crlf_cut_one (x ∷ y ∷ held) some few a = absurd (omega arith)

pub crlf_cut_none : (held : List ℕ) → length held ≡ 0 → IsCrlfCut held
crlf_cut_none [] none = inl refl
crlf_cut_none (x ∷ held) none = absurd (omega arith)

-- trailers
section_length : (fields : List Field) (last : LineEnd) → All IsField fields → 3 * length fields ≤ length (print_section fields last)
section_length fields last all =
    let lines = fields_length fields all in
    simp (length-append {A = ℕ}) (omega (arith, lines))

not_exceeding : (room : ℕ) (buf : List ℕ) → length buf + 1 < 3 * (room + 1) → SectionExceeds room buf → ⊥
not_exceeding room buf short x =
    let lines : 3 * length x.3 ≤ length (print_section x.3 lf) = section_length x.3 lf x.4.0 in
    let whole : length (x.0 ++ 10 ∷ []) ≡ length (print_section x.3 lf ++ []) = ap length x.4.1 in
    let front : length buf ≡ length (x.0 ++ x.1) = ap length x.2 in
    let over : room < length x.3 = x.5 in
    omega (arith, length-append {A = ℕ})

pub never_section_of_error : {A : Type 0} (room : ℕ) (buf : List ℕ) (e : Error) → length buf + 1 < 3 * (room + 1)
    → OnInvalid {A = A} (Err e) (NeverHasSection buf)
    → OnTooManyHeaders {A = A} (Err e) (SectionExceeds room buf) → NeverHasSection buf
never_section_of_error {A} room buf e short invalid many =
    let wrap : Error → Result A Error = λ x. Err x in
    invalid (λ is. absurd (not_exceeding room buf short (many (ap wrap is))))

pub whole_trailers : (held : List ℕ) (spans : List HeaderSpan) (len count : ℕ) → length held ≤ 16384
    → (found : IsSectionOf held 0 spans (len, count)) → IsSectionWithin held spans len count → count ≤ 64
    → IsWholeTrailers held len
whole_trailers held spans len count short found within few =
    let at : IsSectionAt held 0 spans len count found.0 found.1 = found.2 in
    let counted = fields_counted held spans count found.0 within.count_fits at.fields_are in
    let fits : len ≤ length held = within.len_fits in
    let begins : BeginsWithTrailers held found.0 found.1 (drop len held) = record {
      reads = at.reads;
      short = omega (arith, at.len_is);
      few = omega (arith, counted);
    } in
    record { fields = found.0; last = found.1; begins = begins; within = fits }

pub many_trailers : (held : List ℕ) (spans : List HeaderSpan) (len count : ℕ) → length held ≤ 16384
    → (found : IsSectionOf held 0 spans (len, count)) → IsSectionWithin held spans len count → 64 < count
    → HasManyTrailers held
many_trailers held spans len count short found within many =
    let at : IsSectionAt held 0 spans len count found.0 found.1 = found.2 in
    let counted = fields_counted held spans count found.0 within.count_fits at.fields_are in
    let P : List ℕ → Type 0 = λ b. ReadsSection b found.0 found.1 (drop len held) in
    (found.0, found.1, drop len held, subst P (sym (take_all 16384 held short)) at.reads, omega (arith, counted))

pub overlong_trailers : (held : List ℕ) → length held ≤ 16384 → 16384 ≤ length held
    → HasNoSection held → MayBecomeSection held → IsOverlongTrailers held
overlong_trailers held short long none hopeful =
    let same = sym (take_all 16384 held short) in record {
      long = long;
      none = subst HasNoSection same none;
      hopeful = subst MayBecomeSection same hopeful;
    }

pub bad_trailers : (held : List ℕ) → length held ≤ 16384 → NeverHasSection held → IsBadTrailers held
bad_trailers held short never = subst NeverHasSection (sym (take_all 16384 held short)) never

pub trailers_done : (held new : List ℕ) (len : ℕ) → IsWholeTrailers held len → new ≡ drop len held → IsMove Trailers held Done new
trailers_done held new len whole left =
    let P : List ℕ → Type 0 = λ b. BeginsWithTrailers held whole.fields whole.last b in
    (whole.fields, whole.last, subst P (sym left) whole.begins)

-- the bytes of a chunk have come
pub whole_move : (place : Place) (n budget : ℕ) (held : List ℕ) → place ≡ Chunk n budget → n ≡ 0 → IsMove place held (To (ChunkEnd budget)) held
whole_move place n budget held is none =
    let P : Place → Type 0 = λ p. BodyStep p held None (ChunkEnd budget) held in
    let Q : ℕ → Type 0 = λ k. BodyStep (Chunk k budget) held None (ChunkEnd budget) held in
    subst P (sym is) (subst Q (sym none) (chunk_whole budget held))
