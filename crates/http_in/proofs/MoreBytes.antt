-- What the bytes at hand say, said of longer ones.
use Rattle.std.proofs.Common.{◌≡◌, ℕ, ◌-◌, List, [], ◌∷◌, ◌++◌, length, take, arith, sym, subst, ap, append_assoc, length-append, inl, inr}
use Rattle.std.proofs.lemmas.List.{take-append-le}
use Rattle.httparse.specs.Grammar.{RequestHead, ReadsRequest, HasNoRequest, NeverHasRequest, MayBecomeRequest, ReadsSection, HasNoSection, NeverHasSection, MayBecomeSection}
use Rattle.httparse.proofs.GrammarLemmas.{ReadsRequest-append, ReadsSection-append}
use Rattle.http_in.specs.declared.place.Place.{Place}
use Rattle.http_in.specs.declared.place.Place.TheVariants.{Known, Line, Chunk, ChunkEnd, Trailers, Over}
use Rattle.http_in.specs.Heads.{judged, BeginsWithHead, IsOver, IsBad, IsOverlong}
use Rattle.http_in.specs.Framing.{IsMisframed}
use Rattle.http_in.specs.Lines.{IsCrlfBad}
use Rattle.http_in.specs.Trailers.{trailer_bytes, BeginsWithTrailers, IsBadTrailers, IsLargeTrailers, IsOverlongTrailers}
use Rattle.http_in.specs.Bodies.{done, bad, too_large, EndsAt, BodyFrom}
use Rattle.http_in.specs.Requests.{Request, BeginsWithBody, Final, at_end, is_cut, is_bad, is_over, EndsAs, Requests, none, more}
use Rattle.http_in.specs.Unique.{IsSettled, Settles}
use Rattle.http_in.proofs.LineFacts.{take_of_append, bad_more, begins_more}
use Rattle.http_in.proofs.BodyRuns.{runs_more}

-- heads
pub head_more : (bytes m rest : List ℕ) (h : RequestHead) → BeginsWithHead bytes h rest → BeginsWithHead (bytes ++ m) h (rest ++ m)
head_more bytes m rest h begins = record {
  reads = ReadsRequest-append bytes h rest m begins.reads;
  short = begins.short;
  few = begins.few;
}

never_more : (bytes m : List ℕ) → IsBad bytes → IsBad (bytes ++ m)
never_more bytes m never =
    let tail = take (16384 - length bytes) m in
    let longer : NeverHasRequest (judged bytes ++ tail) = λ x h r reads. never (tail ++ x) h r (rw append_assoc at reads) in
    subst NeverHasRequest (sym (take_of_append 16384 bytes m)) longer

over_more : (bytes m : List ℕ) → IsOver bytes → IsOver (bytes ++ m)
over_more bytes m (inl many) =
    let tail = take (16384 - length bytes) m in
    let P : List ℕ → Type 0 = λ b. ReadsRequest b many.0 (many.1 ++ tail) in
    let there = ReadsRequest-append (judged bytes) many.0 many.1 tail many.2 in
    inl (many.0, many.1 ++ tail, subst P (sym (take_of_append 16384 bytes m)) there, many.3)
over_more bytes m (inr over) =
    let same : judged (bytes ++ m) ≡ judged bytes = take-append-le 16384 bytes m over.long in
    let whole : IsOverlong (bytes ++ m) = record {
      long = omega (arith, over.long, length-append bytes m);
      unfinished = subst HasNoRequest (sym same) over.unfinished;
      hopeful = subst MayBecomeRequest (sym same) over.hopeful;
    } in
    inr whole

misframed_more : (bytes m : List ℕ) → IsMisframed bytes → IsMisframed (bytes ++ m)
misframed_more bytes m x = record {
  head = x.head;
  rest = x.rest ++ m;
  begins = head_more bytes m x.rest x.head x.begins;
  unframed = x.unframed;
}

-- the ends of a body
crlf_more : (bytes m : List ℕ) → IsCrlfBad bytes → IsCrlfBad (bytes ++ m)
crlf_more [] m x = absurd x
crlf_more (b ∷ []) [] x = x
crlf_more (b ∷ []) (c ∷ m) x = λ is _. x is
crlf_more (b ∷ c ∷ bytes) m x = x

never_section : (bytes m : List ℕ) → IsBadTrailers bytes → IsBadTrailers (bytes ++ m)
never_section bytes m never =
    let tail = take (16384 - length bytes) m in
    let longer : NeverHasSection (trailer_bytes bytes ++ tail) = λ x f l r reads. never (tail ++ x) f l r (rw append_assoc at reads) in
    subst NeverHasSection (sym (take_of_append 16384 bytes m)) longer

large_more : (bytes m : List ℕ) → IsLargeTrailers bytes → IsLargeTrailers (bytes ++ m)
large_more bytes m (inl many) =
    let tail = take (16384 - length bytes) m in
    let P : List ℕ → Type 0 = λ b. ReadsSection b many.0 many.1 (many.2 ++ tail) in
    let there = ReadsSection-append (trailer_bytes bytes) many.0 many.1 many.2 tail many.3 in
    inl (many.0, many.1, many.2 ++ tail, subst P (sym (take_of_append 16384 bytes m)) there, many.4)
large_more bytes m (inr over) =
    let same : trailer_bytes (bytes ++ m) ≡ trailer_bytes bytes = take-append-le 16384 bytes m over.long in
    let whole : IsOverlongTrailers (bytes ++ m) = record {
      long = omega (arith, over.long, length-append bytes m);
      none = subst HasNoSection (sym same) over.none;
      hopeful = subst MayBecomeSection (sym same) over.hopeful;
    } in
    inr whole

done_at : (place : Place) (bytes m rest : List ℕ) → EndsAt place bytes (done rest) → EndsAt place (bytes ++ m) (done (rest ++ m))
done_at (Known n) bytes m rest x = (x.0, ap (λ (b : List ℕ). b ++ m) x.1)
done_at Trailers bytes m rest x =
    let begins = x.2 in
    let longer : BeginsWithTrailers (bytes ++ m) x.0 x.1 (rest ++ m) = record {
      reads = ReadsSection-append bytes x.0 x.1 rest m begins.reads;
      short = begins.short;
      few = begins.few;
    } in
    (x.0, x.1, longer)
done_at (Line budget) bytes m rest x = absurd x
done_at (Chunk n budget) bytes m rest x = absurd x
done_at (ChunkEnd budget) bytes m rest x = absurd x
done_at Over bytes m rest x = absurd x

bad_at : (place : Place) (bytes m : List ℕ) → EndsAt place bytes bad → EndsAt place (bytes ++ m) bad
bad_at (Line budget) bytes m x = bad_more bytes m x
bad_at (ChunkEnd budget) bytes m x = crlf_more bytes m x
bad_at Trailers bytes m x = never_section bytes m x
bad_at (Known n) bytes m x = absurd x
bad_at (Chunk n budget) bytes m x = absurd x
bad_at Over bytes m x = absurd x

large_at : (place : Place) (bytes m : List ℕ) → EndsAt place bytes too_large → EndsAt place (bytes ++ m) too_large
large_at (Line budget) bytes m x = (x.0 ++ m, x.1, begins_more bytes m x.0 x.1 x.2, x.3)
large_at Trailers bytes m x = large_more bytes m x
large_at Over bytes m x = tt
large_at (Known n) bytes m x = absurd x
large_at (Chunk n budget) bytes m x = absurd x
large_at (ChunkEnd budget) bytes m x = absurd x

pub done_body : (place : Place) (bytes m content rest : List ℕ) → BodyFrom place bytes content (done rest)
    → BodyFrom place (bytes ++ m) content (done (rest ++ m))
done_body place bytes m content rest x = record {
  last = x.last;
  left = x.left ++ m;
  runs = runs_more place x.last bytes x.left content m x.runs;
  ends = done_at x.last x.left m rest x.ends;
}

bad_body : (place : Place) (bytes m content : List ℕ) → BodyFrom place bytes content bad → BodyFrom place (bytes ++ m) content bad
bad_body place bytes m content x = record {
  last = x.last;
  left = x.left ++ m;
  runs = runs_more place x.last bytes x.left content m x.runs;
  ends = bad_at x.last x.left m x.ends;
}

large_body : (place : Place) (bytes m content : List ℕ) → BodyFrom place bytes content too_large → BodyFrom place (bytes ++ m) content too_large
large_body place bytes m content x = record {
  last = x.last;
  left = x.left ++ m;
  runs = runs_more place x.last bytes x.left content m x.runs;
  ends = large_at x.last x.left m x.ends;
}

-- requests
pub done_request : (bytes m rest : List ℕ) (r : Request) → BeginsWithBody bytes r (done rest) → BeginsWithBody (bytes ++ m) r (done (rest ++ m))
done_request bytes m rest r x = record {
  framing = x.framing;
  middle = x.middle ++ m;
  begins = head_more bytes m x.middle r.head x.begins;
  framed = x.framed;
  body = done_body _ x.middle m r.content rest x.body;
}

bad_request : (bytes m : List ℕ) (r : Request) → BeginsWithBody bytes r bad → BeginsWithBody (bytes ++ m) r bad
bad_request bytes m r x = record {
  framing = x.framing;
  middle = x.middle ++ m;
  begins = head_more bytes m x.middle r.head x.begins;
  framed = x.framed;
  body = bad_body _ x.middle m r.content x.body;
}

large_request : (bytes m : List ℕ) (r : Request) → BeginsWithBody bytes r too_large → BeginsWithBody (bytes ++ m) r too_large
large_request bytes m r x = record {
  framing = x.framing;
  middle = x.middle ++ m;
  begins = head_more bytes m x.middle r.head x.begins;
  framed = x.framed;
  body = large_body _ x.middle m r.content x.body;
}

pub ends_more : (bytes m : List ℕ) (e : Final) → IsSettled e → EndsAs bytes e → EndsAs (bytes ++ m) e
ends_more bytes m is_bad _ (inl never) = inl (never_more bytes m never)
ends_more bytes m is_bad _ (inr (inl misframed)) = inr (inl (misframed_more bytes m misframed))
ends_more bytes m is_bad _ (inr (inr x)) = inr (inr (x.0, bad_request bytes m x.0 x.1))
ends_more bytes m is_over _ (inl over) = inl (over_more bytes m over)
ends_more bytes m is_over _ (inr x) = inr (x.0, large_request bytes m x.0 x.1)
ends_more bytes m is_cut settled ends = absurd settled
ends_more bytes m at_end settled ends = absurd settled

requests_more : (bytes m left : List ℕ) (rs : List Request) (e : Final) → IsSettled e → Requests bytes rs left e → Requests (bytes ++ m) rs (left ++ m) e
requests_more _ m _ _ _ settled (none bytes e ends) = none (bytes ++ m) e (ends_more bytes m e settled ends)
requests_more _ m _ _ _ settled (more bytes rest left r rs e begins after) =
    more (bytes ++ m) (rest ++ m) (left ++ m) r rs e (done_request bytes m rest r begins) (requests_more rest m left rs e settled after)

pub endings_settled : (bytes : List ℕ) → Settles bytes
endings_settled bytes m left rs e settled requests = requests_more bytes m left rs e settled requests
