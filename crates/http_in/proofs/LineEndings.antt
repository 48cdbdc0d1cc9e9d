-- A chunk line, its end and the trailers are one thing each.
use Rattle.std.proofs.Common.{◌≡◌, ℕ, ◌+◌, ◌-◌, ◌<◌, ◌≤◌, List, [], ◌∷◌, ◌++◌, length, take, drop, arith, subst, sym, ap, ◌∙◌, append-nil, inl, inr, refl}
use Rattle.std.proofs.lemmas.List.{take_all, take-append-drop}
use Rattle.std.proofs.Math.Seq.{take-append-add}
use Rattle.httparse.specs.Grammar.{ChunkLine, print_chunk_line, ReadsChunkLine, NeverHasChunkLine, Field, LineEnd, print_section, ReadsSection, NeverHasSection}
use Rattle.httparse.proofs.GrammarLemmas.{section_unique, ReadsSection-append}
use Rattle.httparse.proofs.ChunkLemmas.{chunk_line_unique}
use Rattle.http_in.specs.Lines.{line_bytes, BeginsWithLine, IsBadLine, IsCutLine, IsCrlfCut, IsCrlfBad}
use Rattle.http_in.specs.Trailers.{trailer_bytes, BeginsWithTrailers, IsBadTrailers, IsCutTrailers, IsLargeTrailers}

-- the first k bytes of a list that begins with n of its own, where n is at most k
pub front_kept : (k : ℕ) (front rest : List ℕ) → length front ≤ k → take k (front ++ rest) ≡ front ++ take (k - length front) rest
front_kept k front rest short =
    let whole : length front + (k - length front) ≡ k = omega arith in
    let P : ℕ → Type 0 = λ n. take n (front ++ rest) ≡ front ++ take (k - length front) rest in
    subst P whole (take-append-add front rest (k - length front))

-- a line within the limit stands in the judged bytes
line_judged : (bytes : List ℕ) (l : ChunkLine) (r : List ℕ) → BeginsWithLine bytes l r
    → ReadsChunkLine (line_bytes bytes) l (take (4098 - length (print_chunk_line l)) r)
line_judged bytes l r line =
    (line.reads.0, ap line_bytes line.reads.1 ∙ front_kept 4098 (print_chunk_line l) r line.short)

never_now : (bytes : List ℕ) (l : ChunkLine) (r : List ℕ) → NeverHasChunkLine bytes → ReadsChunkLine bytes l r → ⊥
never_now bytes l r never reads =
    let P : List ℕ → Type 0 = λ b. ReadsChunkLine b l r in
    never [] l r (subst P (sym (append-nil bytes)) reads)

pub line_or_bad : (bytes : List ℕ) (l : ChunkLine) (r : List ℕ) → BeginsWithLine bytes l r → IsBadLine bytes → ⊥
line_or_bad bytes l r line (inl never) = never_now (line_bytes bytes) l _ never (line_judged bytes l r line)
line_or_bad bytes l r line (inr long) = long.none l _ (line_judged bytes l r line)

pub line_or_cut : (bytes : List ℕ) (l : ChunkLine) (r : List ℕ) → BeginsWithLine bytes l r → IsCutLine bytes → ⊥
line_or_cut bytes l r line cut = cut.none l r line.reads

pub cut_or_bad_line : (bytes : List ℕ) → IsCutLine bytes → IsBadLine bytes → ⊥
cut_or_bad_line bytes cut (inl never) =
    let same : line_bytes bytes ≡ bytes = take_all 4098 bytes (omega (arith, cut.short)) in
    let here : NeverHasChunkLine bytes = subst NeverHasChunkLine same never in
    here cut.hopeful.0 cut.hopeful.1 [] cut.hopeful.2
cut_or_bad_line bytes cut (inr long) = omega (arith, cut.short, long.long)

pub one_line : (bytes : List ℕ) (l k : ChunkLine) (r q : List ℕ) → BeginsWithLine bytes l r → BeginsWithLine bytes k q → (l ≡ k) × (r ≡ q)
one_line bytes l k r q a b = chunk_line_unique bytes l k r q a.reads b.reads

-- the end of a chunk
pub crlf_or_cut : (bytes : List ℕ) → IsCrlfCut (13 ∷ 10 ∷ bytes) → ⊥
crlf_or_cut bytes (inl none) = cc
crlf_or_cut bytes (inr one) = cc

pub cut_or_bad_crlf : (bytes : List ℕ) → IsCrlfCut bytes → IsCrlfBad bytes → ⊥
cut_or_bad_crlf bytes (inl none) bad = subst IsCrlfBad none bad
cut_or_bad_crlf bytes (inr one) bad = (subst IsCrlfBad one bad) refl

-- trailers
section_judged : (bytes : List ℕ) (fields : List Field) (last : LineEnd) (r : List ℕ) → BeginsWithTrailers bytes fields last r
    → ReadsSection (trailer_bytes bytes) fields last (take (16384 - length (print_section fields last)) r)
section_judged bytes fields last r is =
    (is.reads.0, ap trailer_bytes is.reads.1 ∙ front_kept 16384 (print_section fields last) r is.short)

judged_section : (bytes : List ℕ) (fields : List Field) (last : LineEnd) (q : List ℕ) → ReadsSection (trailer_bytes bytes) fields last q
    → ReadsSection bytes fields last (q ++ drop 16384 bytes)
judged_section bytes fields last q reads =
    let P : List ℕ → Type 0 = λ b. ReadsSection b fields last (q ++ drop 16384 bytes) in
    subst P (take-append-drop 16384 bytes) (ReadsSection-append (trailer_bytes bytes) fields last q (drop 16384 bytes) reads)

never_section : (bytes : List ℕ) (fields : List Field) (last : LineEnd) (r : List ℕ) → NeverHasSection bytes → ReadsSection bytes fields last r → ⊥
never_section bytes fields last r never reads =
    let P : List ℕ → Type 0 = λ b. ReadsSection b fields last r in
    never [] fields last r (subst P (sym (append-nil bytes)) reads)

pub one_section : (bytes : List ℕ) (f g : List Field) (a b : LineEnd) (r q : List ℕ)
    → BeginsWithTrailers bytes f a r → BeginsWithTrailers bytes g b q → r ≡ q
one_section bytes f g a b r q x y = (section_unique bytes f g a b r q x.reads y.reads).2

pub trailers_or_cut : (bytes : List ℕ) (f : List Field) (a : LineEnd) (r : List ℕ) → BeginsWithTrailers bytes f a r → IsCutTrailers bytes → ⊥
trailers_or_cut bytes f a r is cut = cut.none f a r is.reads

pub trailers_or_bad : (bytes : List ℕ) (f : List Field) (a : LineEnd) (r : List ℕ) → BeginsWithTrailers bytes f a r → IsBadTrailers bytes → ⊥
trailers_or_bad bytes f a r is bad = never_section (trailer_bytes bytes) f a _ bad (section_judged bytes f a r is)

pub trailers_or_large : (bytes : List ℕ) (f : List Field) (a : LineEnd) (r : List ℕ) → BeginsWithTrailers bytes f a r → IsLargeTrailers bytes → ⊥
trailers_or_large bytes f a r is (inl many) =
    let same = section_unique bytes f many.0 a many.1 r _ is.reads (judged_section bytes many.0 many.1 many.2 many.3) in
    let few : length f ≤ 64 = is.few in
    let more : 64 < length many.0 = many.4 in
    let count : length f ≡ length many.0 = ap (λ (x : List Field). length x) same.0 in
    omega arith
trailers_or_large bytes f a r is (inr over) = over.none f a _ (section_judged bytes f a r is)

pub cut_or_bad_trailers : (bytes : List ℕ) → IsCutTrailers bytes → IsBadTrailers bytes → ⊥
cut_or_bad_trailers bytes cut bad =
    let same : trailer_bytes bytes ≡ bytes = take_all 16384 bytes (omega (arith, cut.short)) in
    let here : NeverHasSection bytes = subst NeverHasSection same bad in
    here cut.hopeful.0 cut.hopeful.1 cut.hopeful.2 [] cut.hopeful.3

pub cut_or_large_trailers : (bytes : List ℕ) → IsCutTrailers bytes → IsLargeTrailers bytes → ⊥
cut_or_large_trailers bytes cut (inl many) = cut.none many.0 many.1 _ (judged_section bytes many.0 many.1 many.2 many.3)
cut_or_large_trailers bytes cut (inr over) = omega (arith, over.long, cut.short)

pub bad_or_large_trailers : (bytes : List ℕ) → IsBadTrailers bytes → IsLargeTrailers bytes → ⊥
bad_or_large_trailers bytes bad (inl many) = never_section (trailer_bytes bytes) many.0 many.1 many.2 bad many.3
bad_or_large_trailers bytes bad (inr over) = bad over.hopeful.0 over.hopeful.1 over.hopeful.2 [] over.hopeful.3
