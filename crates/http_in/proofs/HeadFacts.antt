-- What the bytes at hand say of a head.
use Rattle.std.proofs.Common.{◌≡◌, ℕ, ◌<◌, ◌≤◌, List, ◌++◌, length, map, take, drop, arith, subst, sym, inl, inr, Option, None}
use Rattle.std.proofs.lemmas.List.{take_all}
use Rattle.httparse.specs.Grammar.{RequestHead, ReadsRequest, HasNoRequest, NeverHasRequest, MayBecomeRequest, EndsInTarget}
use Rattle.httparse.specs.Spans.{header_bytes, span_bytes}
use Rattle.httparse.specs.declared.spans.HeaderSpan.{HeaderSpan}
use Rattle.httparse.specs.declared.spans.RequestSpans.{RequestSpans}
use Rattle.http_in.specs.declared.head.Head.{Head as HeadParts}
use Rattle.http_in.specs.declared.heads.Step.{Step}
use Rattle.http_in.specs.declared.heads.Step.TheVariants.{Head, End, Cut, Bad, HeadTooLarge, ReadFault, NoMemory}
use Rattle.http_in.specs.Heads.{judged, BeginsWithHead, HasManyFields, HasNoHead, IsOverlong, IsBad, IsCut}
use Rattle.http_in.specs.Framing.{framing_in, StatesFraming, IsMisframed, IsFramed}
use Rattle.http_in.specs.Parts.{IsPartsOf, IsHeadOf}
use Rattle.http_in.specs.Verdicts.{IsWhole, IsUnfinished, IsTaken}
use Rattle.http_in.specs.Steps.{IsStepOf, EndsSource, Suffices, HeadCall}
use Rattle.http_in.specs.Input.{Fills, IsStill}
use Rattle.http_in.proofs.Endings.{judged_head, hopeful_never}

-- a head of too many fields in the bytes at hand
pub many_of_held : (held : List ℕ) (h : RequestHead) (rest : List ℕ) → length held ≤ 16384
    → ReadsRequest held h rest → 64 < length h.fields → HasManyFields held
many_of_held held h rest short reads many =
    let P : List ℕ → Type 0 = λ bytes. ReadsRequest bytes h rest in
    (h, rest, subst P (sym (take_all 16384 held short)) reads, many)

-- as many bytes as a head may have, and no head
pub overlong_held : (held : List ℕ) → length held ≤ 16384 → 16384 ≤ length held
    → HasNoRequest held → MayBecomeRequest held → IsOverlong held
overlong_held held short long none hopeful =
    let same = sym (take_all 16384 held short) in record {
      long = long;
      unfinished = subst HasNoRequest same none;
      hopeful = subst MayBecomeRequest same hopeful;
    }

pub bad_held : (held : List ℕ) → length held ≤ 16384 → NeverHasRequest held → IsBad held
bad_held held short never = subst NeverHasRequest (sym (take_all 16384 held short)) never

-- the end of the source where no head is whole yet
pub cut_held : (held now : List ℕ) → IsUnfinished held → now ≡ held → 0 < length now → IsCut now
cut_held held now unfinished same some =
    let is : IsUnfinished now = subst IsUnfinished (sym same) unfinished in
    record { some = some; short = is.short; unfinished = is.none; hopeful = is.hopeful }

-- the source failed where no head is whole yet
pub fault_held : (held now : List ℕ) → IsUnfinished held → now ≡ held → HasNoHead now
fault_held held now unfinished same = subst HasNoHead (sym same) unfinished.none

-- more bytes are wanted only where those at hand don't suffice
pub unanswered : (held : List ℕ) → IsUnfinished held → Suffices held → ⊥
unanswered held unfinished (inl head) = unfinished.none head.0 head.1 head.2.reads
unanswered held unfinished (inr (inl (inl many))) =
    unfinished.none many.0 (many.1 ++ drop 16384 held) (judged_head held many.0 many.1 many.2)
unanswered held unfinished (inr (inl (inr over))) = omega (arith, over.long, unfinished.short)
unanswered held unfinished (inr (inr bad)) =
    let same : judged held ≡ held = take_all 16384 held (omega (arith, unfinished.short)) in
    bad.1 (subst EndsInTarget (sym same) (hopeful_never held unfinished.hopeful (subst NeverHasRequest same bad.0)))

-- the same of bytes that are still those from the start
pub unanswered_still : {S : Type 0} (old now : S) (held kept : List ℕ) → (Suffices held → IsStill old now held kept) → IsUnfinished kept → Suffices held → ⊥
unanswered_still old now held kept still unfinished enough =
    unanswered held (subst IsUnfinished (still enough).bytes_are unfinished) enough

-- the head of the bytes at hand
whole_begins : (held : List ℕ) (spans : List HeaderSpan) (r : RequestSpans) → (w : IsWhole held spans r)
    → length held ≤ 16384 → BeginsWithHead held w.head (drop r.len held)
whole_begins held spans r w short =
    let fits : r.len ≤ length held = w.within.section.len_fits in
    record { reads = w.at.reads; short = omega (arith, w.at.len); few = w.few }

-- the parts are those of the head
parts_of_head : (held : List ℕ) (spans : List HeaderSpan) (r : RequestSpans) (w : IsWhole held spans r) (head : HeadParts)
    → IsPartsOf (span_bytes held r.method) (span_bytes held r.path) r.version (map (header_bytes held) (take r.headers spans)) head
    → IsHeadOf w.head head
parts_of_head held spans r w head parts =
    let P : List ℕ → Type 0 = λ m. IsPartsOf m (span_bytes held r.path) r.version (map (header_bytes held) (take r.headers spans)) head in
    let Q : List ℕ → Type 0 = λ t. IsPartsOf w.head.method t r.version (map (header_bytes held) (take r.headers spans)) head in
    let R : ℕ → Type 0 = λ n. IsPartsOf w.head.method w.head.target n (map (header_bytes held) (take r.headers spans)) head in
    let F : List (List ℕ × List ℕ) → Type 0 = λ f. IsPartsOf w.head.method w.head.target w.head.minor f head in
    subst F w.at.fields (subst R w.at.version (subst Q w.at.path (subst P w.at.method parts)))

taken_is : (held new : List ℕ) (spans : List HeaderSpan) (r : RequestSpans) (step : Step)
    → IsWhole held spans r → length held ≤ 16384 → IsTaken held spans r step new → IsStepOf held step new
taken_is held new spans r (Head head) w short taken =
    let P : List ℕ → Type 0 = λ b. BeginsWithHead held w.head b in
    (w.head, subst P (sym taken.1) (whole_begins held spans r w short), parts_of_head held spans r w head taken.0)
taken_is held new spans r Bad w short taken =
    let P : List (List ℕ × List ℕ) → Type 0 = λ f. framing_in f ≡ None in
    let misframed : IsMisframed held = record {
      head = w.head;
      rest = drop r.len held;
      begins = whole_begins held spans r w short;
      unframed = subst P w.at.fields taken.0;
    } in
    (inr misframed, taken.1)
taken_is held new spans r NoMemory w short taken =
    let framed : IsFramed held = record {
      head = w.head;
      rest = drop r.len held;
      begins = whole_begins held spans r w short;
      framed = subst StatesFraming w.at.fields taken.0;
    } in
    (framed, taken.1)
taken_is held new spans r End w short taken = absurd taken
taken_is held new spans r Cut w short taken = absurd taken
taken_is held new spans r HeadTooLarge w short taken = absurd taken
taken_is held new spans r ReadFault w short taken = absurd taken

taken_ends : (held new : List ℕ) (spans : List HeaderSpan) (r : RequestSpans) (step : Step) (left : Option (List ℕ))
    → IsTaken held spans r step new → EndsSource step left
taken_ends held new spans r (Head head) left taken = tt
taken_ends held new spans r Bad left taken = tt
taken_ends held new spans r NoMemory left taken = tt
taken_ends held new spans r End left taken = absurd taken
taken_ends held new spans r Cut left taken = absurd taken
taken_ends held new spans r HeadTooLarge left taken = absurd taken
taken_ends held new spans r ReadFault left taken = absurd taken

-- an answer by all bytes at hand is the call's
pub call_by : {S : Type 0} (given left : S → Option (List ℕ)) (old new : S) (held now kept : List ℕ) (step : Step)
    → Fills given left old new held now → IsStepOf now step kept → EndsSource step (left new)
    → HeadCall given left old new held kept step
call_by given left old new held now kept step fills is ends =
    let P : List ℕ → Type 0 = λ b. IsStepOf b step kept in
    record { fresh = fills.fresh; moves = fills.moves; step_is = subst P fills.behind is; at_end = ends }

pub taken_call : {S : Type 0} (given left : S → Option (List ℕ)) (old new : S) (held now kept : List ℕ) (spans : List HeaderSpan) (r : RequestSpans) (step : Step)
    → Fills given left old new held now → IsWhole now spans r → length now ≤ 16384 → IsTaken now spans r step kept
    → HeadCall given left old new held kept step
taken_call given left old new held now kept spans r step fills w short taken =
    call_by given left old new held now kept step fills (taken_is now kept spans r step w short taken)
    (taken_ends now kept spans r step (left new) taken)
