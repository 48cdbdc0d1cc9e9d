-- A body is one content and one ending.
use Rattle.std.proofs.Common.{◌≡◌, ℕ, ◌-◌, List, ◌∷◌, arith, subst, sym, ap, ◌∙◌, refl, Option, Some, None}
use Rattle.httparse.specs.Grammar.{ChunkLine, chunk_size}
use Rattle.http_in.specs.declared.place.Place.{Place}
use Rattle.http_in.specs.declared.place.Place.TheVariants.{Known, Line, Chunk, ChunkEnd, Trailers, Over}
use Rattle.http_in.specs.Bodies.{Ending, done, cut, bad, too_large, BodyStep, known_byte, line_chunk, line_last, chunk_byte, chunk_whole, chunk_crlf, Runs, here, silent, gives, EndsAt}
use Rattle.http_in.specs.Unique.{OneBody}
use Rattle.http_in.proofs.LineEndings.{line_or_bad, line_or_cut, cut_or_bad_line, one_line, crlf_or_cut, cut_or_bad_crlf, one_section, trailers_or_cut, trailers_or_bad, trailers_or_large, cut_or_bad_trailers, cut_or_large_trailers, bad_or_large_trailers}

-- a place has one step
SameStep : (o p : Option ℕ) (a b : Place) (r q : List ℕ) → Type 0
SameStep o p a b r q = (o ≡ p) × (a ≡ b) × (r ≡ q)

same_step : (o : Option ℕ) (a : Place) (r : List ℕ) → SameStep o o a a r r
unfolding SameStep
same_step o a r = (refl, refl, refl)

lines_same : (budget : ℕ) (l k : ChunkLine) (r q : List ℕ) → l ≡ k → r ≡ q
    → SameStep None None (Chunk (chunk_size l) (budget - chunk_size l)) (Chunk (chunk_size k) (budget - chunk_size k)) r q
unfolding SameStep
lines_same budget l k r q same left =
    (refl, ap (λ (x : ChunkLine). Chunk (chunk_size x) (budget - chunk_size x)) same, left)

step_once : (place : Place) (bytes : List ℕ) (o p : Option ℕ) (a b : Place) (r q : List ℕ)
    → BodyStep place bytes o a r → BodyStep place bytes p b q → SameStep o p a b r q
step_once _ _ _ _ _ _ _ _ (known_byte n x bytes) (known_byte _ _ _) = same_step _ _ _
step_once _ _ _ _ _ _ _ _ (chunk_byte n budget x bytes) (chunk_byte _ _ _ _) = same_step _ _ _
step_once _ _ _ _ _ _ _ _ (chunk_whole budget bytes) (chunk_whole _ _) = same_step _ _ _
step_once _ _ _ _ _ _ _ _ (chunk_crlf budget bytes) (chunk_crlf _ _) = same_step _ _ _
step_once _ _ _ _ _ _ _ _ (line_chunk budget bytes r l x some fits) (line_chunk _ _ q k y _ _) =
    let same = one_line bytes l k r q x y in lines_same budget l k r q same.0 same.1
step_once _ _ _ _ _ _ _ _ (line_chunk budget bytes r l x some fits) (line_last _ _ q k y none) =
    let same = one_line bytes l k r q x y in absurd (omega (arith, some, none, ap chunk_size same.0))
step_once _ _ _ _ _ _ _ _ (line_last budget bytes r l x none) (line_chunk _ _ q k y some fits) =
    let same = one_line bytes l k r q x y in absurd (omega (arith, some, none, ap chunk_size same.0))
step_once _ _ _ _ _ _ _ _ (line_last budget bytes r l x none) (line_last _ _ q k y _) =
    let same = one_line bytes l k r q x y in
    let P : List ℕ → Type 0 = λ t. SameStep None None Trailers Trailers r t in
    subst P same.1 (same_step _ _ _)

-- where a body ends there is no step
ends_or_step : (place : Place) (bytes : List ℕ) (e : Ending) (o : Option ℕ) (next : Place) (after : List ℕ)
    → BodyStep place bytes o next after → EndsAt place bytes e → ⊥
ends_or_step _ _ (done r) _ _ _ (known_byte n b bytes) ends = cc ends.0
ends_or_step _ _ cut _ _ _ (known_byte n b bytes) ends = cc ends.1
ends_or_step _ _ bad _ _ _ (known_byte n b bytes) ends = ends
ends_or_step _ _ too_large _ _ _ (known_byte n b bytes) ends = ends
ends_or_step _ _ (done r) _ _ _ (line_chunk budget bytes after l x some fits) ends = ends
ends_or_step _ _ cut _ _ _ (line_chunk budget bytes after l x some fits) ends = line_or_cut bytes l after x ends
ends_or_step _ _ bad _ _ _ (line_chunk budget bytes after l x some fits) ends = line_or_bad bytes l after x ends
ends_or_step _ _ too_large _ _ _ (line_chunk budget bytes after l x some fits) ends =
    let same = one_line bytes l ends.1 after ends.0 x ends.2 in omega (arith, fits, ends.3, ap chunk_size same.0)
ends_or_step _ _ (done r) _ _ _ (line_last budget bytes after l x none) ends = ends
ends_or_step _ _ cut _ _ _ (line_last budget bytes after l x none) ends = line_or_cut bytes l after x ends
ends_or_step _ _ bad _ _ _ (line_last budget bytes after l x none) ends = line_or_bad bytes l after x ends
ends_or_step _ _ too_large _ _ _ (line_last budget bytes after l x none) ends =
    let same = one_line bytes l ends.1 after ends.0 x ends.2 in omega (arith, none, ends.3, ap chunk_size same.0)
ends_or_step _ _ (done r) _ _ _ (chunk_byte n budget b bytes) ends = ends
ends_or_step _ _ cut _ _ _ (chunk_byte n budget b bytes) ends = cc ends.1
ends_or_step _ _ bad _ _ _ (chunk_byte n budget b bytes) ends = ends
ends_or_step _ _ too_large _ _ _ (chunk_byte n budget b bytes) ends = ends
ends_or_step _ _ (done r) _ _ _ (chunk_whole budget bytes) ends = ends
ends_or_step _ _ cut _ _ _ (chunk_whole budget bytes) ends = omega (arith, ends.0)
ends_or_step _ _ bad _ _ _ (chunk_whole budget bytes) ends = ends
ends_or_step _ _ too_large _ _ _ (chunk_whole budget bytes) ends = ends
ends_or_step _ _ (done r) _ _ _ (chunk_crlf budget bytes) ends = ends
ends_or_step _ _ cut _ _ _ (chunk_crlf budget bytes) ends = crlf_or_cut bytes ends
ends_or_step _ _ bad _ _ _ (chunk_crlf budget bytes) ends = ends refl refl
ends_or_step _ _ too_large _ _ _ (chunk_crlf budget bytes) ends = ends

-- a place has one ending
ends_once : (place : Place) (bytes : List ℕ) (e f : Ending) → EndsAt place bytes e → EndsAt place bytes f → e ≡ f
ends_once (Known n) bytes (done r) (done q) x y = ap done (x.1 ∙ sym y.1)
ends_once (Known n) bytes (done r) cut x y = absurd (omega (arith, x.0, y.0))
ends_once (Known n) bytes cut (done q) x y = absurd (omega (arith, x.0, y.0))
ends_once (Known n) bytes cut cut x y = refl
ends_once (Known n) bytes bad f x y = absurd x
ends_once (Known n) bytes too_large f x y = absurd x
ends_once (Known n) bytes e bad x y = absurd y
ends_once (Known n) bytes e too_large x y = absurd y
ends_once (Line budget) bytes cut cut x y = refl
ends_once (Line budget) bytes bad bad x y = refl
ends_once (Line budget) bytes too_large too_large x y = refl
ends_once (Line budget) bytes cut bad x y = absurd (cut_or_bad_line bytes x y)
ends_once (Line budget) bytes bad cut x y = absurd (cut_or_bad_line bytes y x)
ends_once (Line budget) bytes cut too_large x y = absurd (line_or_cut bytes y.1 y.0 y.2 x)
ends_once (Line budget) bytes too_large cut x y = absurd (line_or_cut bytes x.1 x.0 x.2 y)
ends_once (Line budget) bytes bad too_large x y = absurd (line_or_bad bytes y.1 y.0 y.2 x)
ends_once (Line budget) bytes too_large bad x y = absurd (line_or_bad bytes x.1 x.0 x.2 y)
ends_once (Line budget) bytes (done r) f x y = absurd x
ends_once (Line budget) bytes e (done r) x y = absurd y
ends_once (Chunk n budget) bytes cut cut x y = refl
ends_once (Chunk n budget) bytes (done r) f x y = absurd x
ends_once (Chunk n budget) bytes bad f x y = absurd x
ends_once (Chunk n budget) bytes too_large f x y = absurd x
ends_once (Chunk n budget) bytes e (done r) x y = absurd y
ends_once (Chunk n budget) bytes e bad x y = absurd y
ends_once (Chunk n budget) bytes e too_large x y = absurd y
ends_once (ChunkEnd budget) bytes cut cut x y = refl
ends_once (ChunkEnd budget) bytes bad bad x y = refl
ends_once (ChunkEnd budget) bytes cut bad x y = absurd (cut_or_bad_crlf bytes x y)
ends_once (ChunkEnd budget) bytes bad cut x y = absurd (cut_or_bad_crlf bytes y x)
ends_once (ChunkEnd budget) bytes (done r) f x y = absurd x
ends_once (ChunkEnd budget) bytes too_large f x y = absurd x
ends_once (ChunkEnd budget) bytes e (done r) x y = absurd y
ends_once (ChunkEnd budget) bytes e too_large x y = absurd y
ends_once Trailers bytes (done r) (done q) x y = ap done (one_section bytes x.0 y.0 x.1 y.1 r q x.2 y.2)
ends_once Trailers bytes cut cut x y = refl
ends_once Trailers bytes bad bad x y = refl
ends_once Trailers bytes too_large too_large x y = refl
ends_once Trailers bytes (done r) cut x y = absurd (trailers_or_cut bytes x.0 x.1 r x.2 y)
ends_once Trailers bytes cut (done r) x y = absurd (trailers_or_cut bytes y.0 y.1 r y.2 x)
ends_once Trailers bytes (done r) bad x y = absurd (trailers_or_bad bytes x.0 x.1 r x.2 y)
ends_once Trailers bytes bad (done r) x y = absurd (trailers_or_bad bytes y.0 y.1 r y.2 x)
ends_once Trailers bytes (done r) too_large x y = absurd (trailers_or_large bytes x.0 x.1 r x.2 y)
ends_once Trailers bytes too_large (done r) x y = absurd (trailers_or_large bytes y.0 y.1 r y.2 x)
ends_once Trailers bytes cut bad x y = absurd (cut_or_bad_trailers bytes x y)
ends_once Trailers bytes bad cut x y = absurd (cut_or_bad_trailers bytes y x)
ends_once Trailers bytes cut too_large x y = absurd (cut_or_large_trailers bytes x y)
ends_once Trailers bytes too_large cut x y = absurd (cut_or_large_trailers bytes y x)
ends_once Trailers bytes bad too_large x y = absurd (bad_or_large_trailers bytes x y)
ends_once Trailers bytes too_large bad x y = absurd (bad_or_large_trailers bytes y x)
ends_once Over bytes too_large too_large x y = refl
ends_once Over bytes (done r) f x y = absurd x
ends_once Over bytes cut f x y = absurd x
ends_once Over bytes bad f x y = absurd x
ends_once Over bytes e (done r) x y = absurd y
ends_once Over bytes e cut x y = absurd y
ends_once Over bytes e bad x y = absurd y

SameRun : (content other : List ℕ) (e f : Ending) → Type 0
SameRun content other e f = (content ≡ other) × (e ≡ f)

same_more : (b c : ℕ) (content other : List ℕ) (e f : Ending) → Some b ≡ Some c → SameRun content other e f
    → SameRun (b ∷ content) (c ∷ other) e f
unfolding SameRun
same_more b c content other e f first same =
    let head : b ≡ c = cc in (cc, same.1)

no_byte : (b : ℕ) → Some b ≡ None → ⊥
no_byte b is = cc

runs_once : (place : Place) (bytes content other : List ℕ) (p q : Place) (r s : List ℕ) (e f : Ending)
    → Runs place bytes content p r → EndsAt p r e → Runs place bytes other q s → EndsAt q s f → SameRun content other e f
unfolding SameRun SameStep
runs_once _ _ _ _ _ _ _ _ e f (here place bytes) x (here _ _) y = (refl, ends_once place bytes e f x y)
runs_once _ _ _ _ _ _ _ _ e f (here place bytes) x (silent _ next last _ after other rest step runs) y =
    absurd (ends_or_step place bytes e None next after step x)
runs_once _ _ _ _ _ _ _ _ e f (here place bytes) x (gives b _ next last _ after other rest step runs) y =
    absurd (ends_or_step place bytes e (Some b) next after step x)
runs_once _ _ _ _ _ _ _ _ e f (silent place next last bytes after content rest step runs) x (here _ _) y =
    absurd (ends_or_step place bytes f None next after step y)
runs_once _ _ _ _ _ _ _ _ e f (gives b place next last bytes after content rest step runs) x (here _ _) y =
    absurd (ends_or_step place bytes f (Some b) next after step y)
runs_once _ _ _ _ _ _ _ _ e f (silent place next last bytes after content rest step runs) x
    (silent _ next' last' _ after' other rest' step' runs') y =
    let same = step_once place bytes None None next next' after after' step step' in
    let P : Place → Type 0 = λ p. Runs p after' other last' rest' in
    let Q : List ℕ → Type 0 = λ b. Runs next b other last' rest' in
    let moved = subst Q (sym same.2) (subst P (sym same.1) runs') in
    runs_once next after content other last last' rest rest' e f runs x moved y
runs_once _ _ _ _ _ _ _ _ e f (gives b place next last bytes after content rest step runs) x
    (gives c _ next' last' _ after' other rest' step' runs') y =
    let same = step_once place bytes (Some b) (Some c) next next' after after' step step' in
    let P : Place → Type 0 = λ p. Runs p after' other last' rest' in
    let Q : List ℕ → Type 0 = λ b. Runs next b other last' rest' in
    let moved = subst Q (sym same.2) (subst P (sym same.1) runs') in
    same_more b c content other e f same.0 (runs_once next after content other last last' rest rest' e f runs x moved y)
runs_once _ _ _ _ _ _ _ _ e f (silent place next last bytes after content rest step runs) x
    (gives c _ next' last' _ after' other rest' step' runs') y =
    let same = step_once place bytes None (Some c) next next' after after' step step' in
    absurd (no_byte c (sym same.0))
runs_once _ _ _ _ _ _ _ _ e f (gives b place next last bytes after content rest step runs) x
    (silent _ next' last' _ after' other rest' step' runs') y =
    let same = step_once place bytes (Some b) None next next' after after' step step' in
    absurd (no_byte b same.0)

pub one_body_holds : (place : Place) (bytes : List ℕ) → OneBody place bytes
unfolding SameRun
one_body_holds place bytes content other e f x y =
    runs_once place bytes content other x.last y.last x.left y.left e f x.runs x.ends y.runs y.ends
