-- Runs inside a body, over the bytes at hand.
use Rattle.std.proofs.Common.{◌≡◌, ℕ, zero, suc, ◌-◌, ◌<◌, ◌≤◌, List, [], ◌∷◌, ◌++◌, length, take, drop, arith, refl, sym, subst, ap, ◌∙◌, Option, None, Some, append_assoc, append-nil}
use Rattle.std.specs.Io.KnownBytes.{IsAtEnd}
use Rattle.std.proofs.lemmas.List.{length-take-le, take-append-le, take_all, take-append-drop}
use Rattle.http_in.specs.declared.place.Place.{Place}
use Rattle.http_in.specs.declared.place.Place.TheVariants.{Known, Line, Chunk, ChunkEnd, Trailers, Over}
use Rattle.http_in.specs.declared.bodies.BodyStep.TheVariants.{Bytes, Done as DoneStep, Cut as CutStep, Bad as BadStep, TooLarge as TooLargeStep, ReadFault as FaultStep}
use Rattle.http_in.specs.Bodies.{Ending, done, cut, bad, too_large, BodyStep, known_byte, line_chunk, line_last, chunk_byte, chunk_whole, chunk_crlf, Runs, here, silent, gives, EndsAt, BodyFrom}
use Rattle.http_in.specs.Advance.{due, shrunk}
use Rattle.http_in.specs.BodySteps.{PlaceCall}
use Rattle.http_in.specs.Input.{Fills}
use Rattle.http_in.specs.Reading.{HasRun, Takes}
use Rattle.http_in.proofs.LineFacts.{begins_more}
use Rattle.http_in.proofs.SourceFacts.{moves_none, moves_more}

-- one run after another
pub runs_on : (p q s : Place) (a b d x y : List ℕ) → Runs p a x q b → Runs q b y s d → Runs p a (x ++ y) s d
runs_on _ _ s _ _ d _ y (here place bytes) after = after
runs_on _ _ s _ _ d _ y (silent place next last bytes mid content rest step runs) after =
    silent place next s bytes mid (content ++ y) d step (runs_on next last s mid rest d content y runs after)
runs_on _ _ s _ _ d _ y (gives b place next last bytes mid content rest step runs) after =
    gives b place next s bytes mid (content ++ y) d step (runs_on next last s mid rest d content y runs after)

pub one_step : (p q : Place) (a b : List ℕ) → BodyStep p a None q b → Runs p a [] q b
one_step p q a b step = silent p q q a b [] b step (here q b)

-- a known number of bytes, however many come at a time
known_run : (n : ℕ) (front rest : List ℕ) → length front ≤ n → Runs (Known n) (front ++ rest) front (Known (n - length front)) rest
known_run n [] rest fits =
    let none : List ℕ = [] in
    let same : n - length none ≡ n = omega arith in
    let P : ℕ → Type 0 = λ k. Runs (Known n) rest [] (Known k) rest in subst P (sym same) (here (Known n) rest)
known_run zero (b ∷ front) rest fits = absurd (omega arith)
known_run (suc n) (b ∷ front) rest fits =
    let less : suc n - length (b ∷ front) ≡ n - length front = omega arith in
    let P : ℕ → Type 0 = λ k. Runs (Known (suc n)) (b ∷ front ++ rest) (b ∷ front) (Known k) rest in
    subst P (sym less)
    (gives b (Known (suc n)) (Known n) (Known (n - length front)) (b ∷ front ++ rest) (front ++ rest) front rest
    (known_byte n b (front ++ rest)) (known_run n front rest (omega arith)))

chunk_run : (budget n : ℕ) (front rest : List ℕ) → length front ≤ n → Runs (Chunk n budget) (front ++ rest) front (Chunk (n - length front) budget) rest
chunk_run budget n [] rest fits =
    let none : List ℕ = [] in
    let same : n - length none ≡ n = omega arith in
    let P : ℕ → Type 0 = λ k. Runs (Chunk n budget) rest [] (Chunk k budget) rest in subst P (sym same) (here (Chunk n budget) rest)
chunk_run budget zero (b ∷ front) rest fits = absurd (omega arith)
chunk_run budget (suc n) (b ∷ front) rest fits =
    let less : suc n - length (b ∷ front) ≡ n - length front = omega arith in
    let P : ℕ → Type 0 = λ k. Runs (Chunk (suc n) budget) (b ∷ front ++ rest) (b ∷ front) (Chunk k budget) rest in
    subst P (sym less)
    (gives b (Chunk (suc n) budget) (Chunk n budget) (Chunk (n - length front) budget) (b ∷ front ++ rest) (front ++ rest) front rest
    (chunk_byte n budget b (front ++ rest)) (chunk_run budget n front rest (omega arith)))

pub due_run : (place : Place) (front rest : List ℕ) → 0 < length front → length front ≤ due place
    → Runs place (front ++ rest) front (shrunk place (length front)) rest
due_run (Known n) front rest some fits = known_run n front rest fits
due_run (Chunk n budget) front rest some fits = chunk_run budget n front rest fits
due_run (Line budget) front rest some fits = absurd (omega (arith, some, fits))
due_run (ChunkEnd budget) front rest some fits = absurd (omega (arith, some, fits))
due_run Trailers front rest some fits = absurd (omega (arith, some, fits))
due_run Over front rest some fits = absurd (omega (arith, some, fits))

pub due_cut : (place : Place) → 0 < due place → EndsAt place [] cut
due_cut (Known n) some = (some, refl)
due_cut (Chunk n budget) some = (some, refl)
due_cut (Line budget) some = absurd (omega (arith, some))
due_cut (ChunkEnd budget) some = absurd (omega (arith, some))
due_cut Trailers some = absurd (omega (arith, some))
due_cut Over some = absurd (omega (arith, some))

-- steps and runs see no further than the bytes that they take
step_more : (p q : Place) (o : Option ℕ) (a b m : List ℕ) → BodyStep p a o q b → BodyStep p (a ++ m) o q (b ++ m)
step_more _ _ _ _ _ m (known_byte n x bytes) = known_byte n x (bytes ++ m)
step_more _ _ _ _ _ m (chunk_byte n budget x bytes) = chunk_byte n budget x (bytes ++ m)
step_more _ _ _ _ _ m (chunk_whole budget bytes) = chunk_whole budget (bytes ++ m)
step_more _ _ _ _ _ m (chunk_crlf budget bytes) = chunk_crlf budget (bytes ++ m)
step_more _ _ _ _ _ m (line_chunk budget bytes after l x some fits) =
    line_chunk budget (bytes ++ m) (after ++ m) l (begins_more bytes m after l x) some fits
step_more _ _ _ _ _ m (line_last budget bytes after l x none) =
    line_last budget (bytes ++ m) (after ++ m) l (begins_more bytes m after l x) none

pub runs_more : (p q : Place) (a b x m : List ℕ) → Runs p a x q b → Runs p (a ++ m) x q (b ++ m)
runs_more _ _ _ _ _ m (here place bytes) = here place (bytes ++ m)
runs_more _ _ _ _ _ m (silent place next last bytes mid content rest step runs) =
    silent place next last (bytes ++ m) (mid ++ m) content (rest ++ m) (step_more place next None bytes mid m step)
    (runs_more next last mid rest content m runs)
runs_more _ _ _ _ _ m (gives b place next last bytes mid content rest step runs) =
    gives b place next last (bytes ++ m) (mid ++ m) content (rest ++ m) (step_more place next (Some b) bytes mid m step)
    (runs_more next last mid rest content m runs)

-- no byte of content has come yet
pub run_none : {S : Type 0} (given left : S → Option (List ℕ)) (s : S) (held : List ℕ) (place : Place) → HasRun given left s s held held place place
run_none given left s held place =
    let P : List ℕ → Type 0 = λ b. Runs place b [] place held in
    record { fresh = []; moves = moves_none given left s; runs = subst P (sym (append-nil held)) (here place held) }

pub run_moves : {S : Type 0} (given left : S → Option (List ℕ)) (old now : S) (held kept new : List ℕ) (place stand next : Place)
    → HasRun given left old now held kept place stand → BodyStep stand kept None next new → HasRun given left old now held new place next
run_moves given left old now held kept new place stand next run step = record {
  fresh = run.fresh;
  moves = run.moves;
  runs = runs_on place stand next (held ++ run.fresh) kept new [] [] run.runs (one_step stand next kept new step);
}

pub run_fresh : {S : Type 0} (given left : S → Option (List ℕ)) (old now : S) (held kept more : List ℕ) (place stand : Place)
    → (run : HasRun given left old now held kept place stand) → Runs place (held ++ (run.fresh ++ more)) [] stand (kept ++ more)
run_fresh given left old now held kept more place stand run =
    let P : List ℕ → Type 0 = λ b. Runs place b [] stand (kept ++ more) in
    subst P (append_assoc held run.fresh more) (runs_more place stand (held ++ run.fresh) kept [] more run.runs)

pub run_fills : {S : Type 0} (given left : S → Option (List ℕ)) (old now later : S) (held kept new : List ℕ) (place stand : Place)
    → HasRun given left old now held kept place stand → Fills given left now later kept new → HasRun given left old later held new place stand
run_fills given left old now later held kept new place stand run fills =
    let P : List ℕ → Type 0 = λ b. Runs place (held ++ (run.fresh ++ fills.fresh)) [] stand b in
    record {
      fresh = run.fresh ++ fills.fresh;
      moves = moves_more given left old now later run.fresh fills.fresh run.moves fills.moves;
      runs = subst P (sym fills.behind) (run_fresh given left old now held kept fills.fresh place stand run);
    }

pub run_same : {S : Type 0} (given left : S → Option (List ℕ)) (old now : S) (held kept new : List ℕ) (place stand : Place)
    → HasRun given left old now held kept place stand → new ≡ kept → HasRun given left old now held new place stand
run_same given left old now held kept new place stand run same =
    let P : List ℕ → Type 0 = λ b. HasRun given left old now held b place stand in subst P (sym same) run

-- bytes that were taken, and what is kept behind them
takes_run : {S : Type 0} (given left : S → Option (List ℕ)) (old now later : S) (held kept new taken : List ℕ) (place stand : Place)
    → (run : HasRun given left old now held kept place stand) → (takes : Takes given left now later kept new taken)
    → Runs place (held ++ (run.fresh ++ takes.fresh)) [] stand (taken ++ new)
takes_run given left old now later held kept new taken place stand run takes =
    let P : List ℕ → Type 0 = λ b. Runs place (held ++ (run.fresh ++ takes.fresh)) [] stand b in
    subst P takes.taken_is (run_fresh given left old now held kept takes.fresh place stand run)

pub given_call : {S : Type 0} (given left : S → Option (List ℕ)) (old now later : S) (held kept new buf : List ℕ) (place stand : Place) (n : ℕ)
    → HasRun given left old now held kept place stand → 0 < n → n ≤ due stand → n ≤ length buf → Takes given left now later kept new (take n buf)
    → PlaceCall given left old later held new place (shrunk stand n) (Bytes n) buf
given_call given left old now later held kept new buf place stand n run some few fits takes =
    let count : length (take n buf) ≡ n = length-take-le n buf fits in
    let P : ℕ → Type 0 = λ k. Runs stand (take n buf ++ new) (take n buf) (shrunk stand k) new in
    let content : P n = subst P count (due_run stand (take n buf) new (omega (arith, count, some)) (omega (arith, count, few))) in
    record {
      fresh = run.fresh ++ takes.fresh;
      moves = moves_more given left old now later run.fresh takes.fresh run.moves takes.moves;
      step_is = runs_on place stand (shrunk stand n) (held ++ (run.fresh ++ takes.fresh)) (take n buf ++ new) new [] (take n buf)
          (takes_run given left old now later held kept new (take n buf) place stand run takes) content;
      at_end = tt;
    }

ended : (place now : Place) (bytes mid : List ℕ) (e : Ending) → Runs place bytes [] now mid → EndsAt now mid e → BodyFrom place bytes [] e
ended place now bytes mid e runs ends = record { last = now; left = mid; runs = runs; ends = ends }

pub given_cut : {S : Type 0} (given left : S → Option (List ℕ)) (old now later : S) (held kept new buf : List ℕ) (place stand next : Place)
    → HasRun given left old now held kept place stand → 0 < due stand → Takes given left now later kept new [] → new ≡ []
    → IsAtEnd (left later) → PlaceCall given left old later held new place next CutStep buf
given_cut given left old now later held kept new buf place stand next run some takes none at_end =
    let P : List ℕ → Type 0 = λ b. EndsAt stand b cut in
    record {
      fresh = run.fresh ++ takes.fresh;
      moves = moves_more given left old now later run.fresh takes.fresh run.moves takes.moves;
      step_is = ended place stand (held ++ (run.fresh ++ takes.fresh)) new cut
          (takes_run given left old now later held kept new [] place stand run takes) (subst P (sym none) (due_cut stand some));
      at_end = at_end;
    }

pub given_fault : {S : Type 0} (given left : S → Option (List ℕ)) (old now later : S) (held kept new buf : List ℕ) (place stand : Place)
    → HasRun given left old now held kept place stand → Takes given left now later kept new []
    → PlaceCall given left old later held new place stand FaultStep buf
given_fault given left old now later held kept new buf place stand run takes = record {
  fresh = run.fresh ++ takes.fresh;
  moves = moves_more given left old now later run.fresh takes.fresh run.moves takes.moves;
  step_is = takes_run given left old now later held kept new [] place stand run takes;
  at_end = tt;
}

-- an ending that the bytes at hand show
pub done_call : {S : Type 0} (given left : S → Option (List ℕ)) (old now : S) (held kept new buf : List ℕ) (place stand next : Place)
    → HasRun given left old now held kept place stand → EndsAt stand kept (done new)
    → PlaceCall given left old now held new place next DoneStep buf
done_call given left old now held kept new buf place stand next run ends = record {
  fresh = run.fresh;
  moves = run.moves;
  step_is = ended place stand (held ++ run.fresh) kept (done new) run.runs ends;
  at_end = tt;
}

pub bad_call : {S : Type 0} (given left : S → Option (List ℕ)) (old now : S) (held kept new buf : List ℕ) (place stand next : Place)
    → HasRun given left old now held kept place stand → EndsAt stand kept bad
    → PlaceCall given left old now held new place next BadStep buf
bad_call given left old now held kept new buf place stand next run ends = record {
  fresh = run.fresh;
  moves = run.moves;
  step_is = ended place stand (held ++ run.fresh) kept bad run.runs ends;
  at_end = tt;
}

pub large_call : {S : Type 0} (given left : S → Option (List ℕ)) (old now : S) (held kept new buf : List ℕ) (place stand next : Place)
    → HasRun given left old now held kept place stand → EndsAt stand kept too_large
    → PlaceCall given left old now held new place next TooLargeStep buf
large_call given left old now held kept new buf place stand next run ends = record {
  fresh = run.fresh;
  moves = run.moves;
  step_is = ended place stand (held ++ run.fresh) kept too_large run.runs ends;
  at_end = tt;
}

pub wanted_cut : {S : Type 0} (given left : S → Option (List ℕ)) (old now : S) (held kept new buf : List ℕ) (place stand next : Place)
    → HasRun given left old now held new place stand → EndsAt stand kept cut → new ≡ kept → IsAtEnd (left now)
    → PlaceCall given left old now held new place next CutStep buf
wanted_cut given left old now held kept new buf place stand next run ends same at_end =
    let P : List ℕ → Type 0 = λ b. EndsAt stand b cut in
    record {
      fresh = run.fresh;
      moves = run.moves;
      step_is = ended place stand (held ++ run.fresh) new cut run.runs (subst P (sym same) ends);
      at_end = at_end;
    }

-- the bytes that were copied from those at hand
pub takes_held : {S : Type 0} (given left : S → Option (List ℕ)) (s : S) (held new piece tail : List ℕ) (n : ℕ) → n ≤ length held
    → piece ≡ take n held → new ≡ drop n held → Takes given left s s held new (take n (piece ++ tail))
takes_held given left s held new piece tail n fits copied dropped =
    let count : length (take n held) ≡ n = length-take-le n held fits in
    let exact : length piece ≡ n = ap length copied ∙ count in
    let front : take n (piece ++ tail) ≡ piece =
    take-append-le n piece tail (omega (arith, exact)) ∙ take_all n piece (omega (arith, exact)) in
    record {
      fresh = [];
      moves = moves_none given left s;
      taken_is = append-nil held ∙ sym (take-append-drop n held) ∙ ap (λ (b : List ℕ). b ++ drop n held) (sym copied ∙ sym front)
          ∙ ap (λ (b : List ℕ). take n (piece ++ tail) ++ b) (sym dropped);
    }
