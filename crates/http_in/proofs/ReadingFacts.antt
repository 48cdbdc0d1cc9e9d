-- Reading all requests of a source.
use Rattle.std.proofs.Common.{◌≡◌, ℕ, ◌+◌, ◌-◌, ◌^◌, ◌<◌, ◌≤◌, List, [], ◌∷◌, ◌++◌, length, take, arith, sym, subst, ap, ◌∙◌, Option, inl, inr, ◌⊎◌, refl, append_assoc, append-nil, length-append}
use Rattle.httparse.specs.Grammar.{RequestHead}
use Rattle.fh_world.specs.Bytes.{Moves}
use Rattle.http_in.specs.declared.head.Head.{Head as HeadParts}
use Rattle.http_in.specs.declared.place.Place.{Place}
use Rattle.http_in.specs.declared.place.State.{State}
use Rattle.http_in.specs.declared.place.State.TheVariants.{Between, Inside, Ended}
use Rattle.http_in.specs.declared.heads.Step.TheVariants.{Head, End, Cut as CutHead, Bad as BadHead, HeadTooLarge, ReadFault as ReadFaultStep, NoMemory as NoMemoryStep}
use Rattle.http_in.specs.declared.bodies.BodyStep.{BodyStep}
use Rattle.http_in.specs.declared.bodies.BodyStep.TheVariants.{Bytes, Done as DoneStep, Cut as CutStep, Bad as BadStep, TooLarge as LargeStep, ReadFault as FaultStep, NoMemory as MemoryStep}
use Rattle.http_in.specs.declared.all.BodyEnd.{BodyEnd}
use Rattle.http_in.specs.declared.all.BodyEnd.TheVariants.{Done, Cut, Bad, TooLarge, ReadFault, NoMemory, Unread}
use Rattle.http_in.specs.declared.all.Outcome.TheVariants.{End as AllEnd, Cut as AllCut, Bad as AllBad, HeadTooLarge as AllLarge, InBody, ReadFault as AllFault, NoMemory as AllMemory, Unread as AllUnread}
use Rattle.http_in.specs.Heads.{BeginsWithHead, IsBad}
use Rattle.http_in.specs.Framing.{IsMisframed}
use Rattle.http_in.specs.Parts.{limit_of, IsHeadOf}
use Rattle.http_in.specs.Stands.{place_of, IsInside}
use Rattle.http_in.specs.Steps.{HeadCall}
use Rattle.http_in.specs.Bodies.{Ending, done, cut, bad, too_large, Runs, here, BodyFrom}
use Rattle.http_in.specs.BodySteps.{BodyCall, PlaceCall}
use Rattle.http_in.specs.Requests.{Request, BeginsWithBody, Requests, none, more, Final, at_end, is_cut, is_bad, is_over, EndsAs}
use Rattle.http_in.specs.Readings.{BodyCame, EndsBody, ContentRead, ContentSoFar, content_of, RequestsSoFar, Passed, IsInBody, SplitsAs, AddsAs, BodySplits, AllRead}
use Rattle.std.proofs.lemmas.List.{length-take-le}
use Rattle.http_in.proofs.SourceFacts.{moves_none, moves_more}
use Rattle.http_in.proofs.BodyRuns.{runs_on, runs_more}
use Rattle.http_in.proofs.MoreBytes.{head_more, done_request}

same_place : (p q : Place) → Inside p ≡ Inside q → p ≡ q
same_place p q e = cc

pub place_inside : (state : State) → IsInside state → (place : Place) × (state ≡ Inside place)
place_inside (Inside place) inside = (place, refl)
place_inside Between inside = absurd inside
place_inside Ended inside = absurd inside

pub content_none : {S : Type 0} (given left : S → Option (List ℕ)) (s : S) (held start : List ℕ) (state : State) (place : Place)
    → state ≡ Inside place → ContentSoFar given left s s held held state state start start
content_none given left s held start state place is =
    let P : List ℕ → Type 0 = λ b. Runs place b [] place held in
    record {
      place = place;
      next = place;
      fresh = [];
      added = [];
      inside = is;
      is_now = is;
      moves = moves_none given left s;
      gained = sym (append-nil start);
      runs = subst P (sym (append-nil held)) (here place held);
    }

-- the call goes on at the place where the body stands
call_here : {S : Type 0} (given left : S → Option (List ℕ)) (old now later : S) (held kept new : List ℕ) (state current after : State) (start content : List ℕ) (step : BodyStep) (buf : List ℕ)
    → (so_far : ContentSoFar given left old now held kept state current start content)
    → (call : BodyCall given left now later kept new current after step buf)
    → PlaceCall given left now later kept new so_far.next call.next step buf
call_here given left old now later held kept new state current after start content step buf so_far call =
    let same = same_place call.place so_far.next (sym call.inside ∙ so_far.is_now) in
    let P : Place → Type 0 = λ p. PlaceCall given left now later kept new p call.next step buf in
    subst P same call.call

run_on : (place next : Place) (held fresh kept added m : List ℕ) → Runs place (held ++ fresh) added next kept
    → Runs place (held ++ (fresh ++ m)) added next (kept ++ m)
run_on place next held fresh kept added m runs =
    let P : List ℕ → Type 0 = λ b. Runs place b added next (kept ++ m) in
    subst P (append_assoc held fresh m) (runs_more place next (held ++ fresh) kept added m runs)

-- one portion more
pub content_more : {S : Type 0} (given left : S → Option (List ℕ)) (old now later : S) (held kept new : List ℕ) (state current after : State) (start content gained buf : List ℕ) (n : ℕ)
    → ContentSoFar given left old now held kept state current start content
    → BodyCall given left now later kept new current after (Bytes n) buf → gained ≡ content ++ take n buf
    → ContentSoFar given left old later held new state after start gained
content_more given left old now later held kept new state current after start content gained buf n so_far call is =
    let step = call_here given left old now later held kept new state current after start content (Bytes n) buf so_far call in
    record {
      place = so_far.place;
      next = call.next;
      fresh = so_far.fresh ++ step.fresh;
      added = so_far.added ++ take n buf;
      inside = so_far.inside;
      is_now = call.leaves;
      moves = moves_more given left old now later so_far.fresh step.fresh so_far.moves step.moves;
      gained = is ∙ ap (λ (c : List ℕ). c ++ take n buf) so_far.gained ∙ append_assoc start so_far.added (take n buf);
      runs = runs_on so_far.place so_far.next call.next (held ++ (so_far.fresh ++ step.fresh)) (kept ++ step.fresh) new so_far.added (take n buf)
          (run_on so_far.place so_far.next held so_far.fresh kept so_far.added step.fresh so_far.runs) step.step_is;
    }

-- a run, and then an ending
then_ends : (place next : Place) (bytes mid added : List ℕ) (e : Ending) → Runs place bytes added next mid → BodyFrom next mid [] e
    → BodyFrom place bytes added e
then_ends place next bytes mid added e runs body =
    let P : List ℕ → Type 0 = λ c. Runs place bytes c body.last body.left in
    record {
      last = body.last;
      left = body.left;
      runs = subst P (append-nil added) (runs_on place next body.last bytes mid body.left added [] runs body.runs);
      ends = body.ends;
    }

module _ {S : Type 0} (given left : S → Option (List ℕ)) (old now later : S) (held kept new : List ℕ) (state current after : State) (start content : List ℕ) (so_far : ContentSoFar given left old now held kept state current start content) where
  read_by : (end : BodyEnd) (m : List ℕ) → Moves given left now later m
      → BodyCame so_far.place (held ++ (so_far.fresh ++ m)) so_far.added end new → EndsBody end (left later)
      → ContentRead given left old later held new state start content end
  read_by end m moves came ends = record {
    place = so_far.place;
    fresh = so_far.fresh ++ m;
    added = so_far.added;
    inside = so_far.inside;
    moves = moves_more given left old now later so_far.fresh m so_far.moves moves;
    gained = so_far.gained;
    came = came;
    at_end = ends;
  }

  joined : (m : List ℕ) (e : Ending) → BodyFrom so_far.next (kept ++ m) [] e → BodyFrom so_far.place (held ++ (so_far.fresh ++ m)) so_far.added e
  joined m e body =
      then_ends so_far.place so_far.next (held ++ (so_far.fresh ++ m)) (kept ++ m) so_far.added e
      (run_on so_far.place so_far.next held so_far.fresh kept so_far.added m so_far.runs) body

  run_further : (m : List ℕ) (next : Place) (added : List ℕ) → Runs so_far.next (kept ++ m) added next new
      → Runs so_far.place (held ++ (so_far.fresh ++ m)) (so_far.added ++ added) next new
  run_further m next added runs =
      runs_on so_far.place so_far.next next (held ++ (so_far.fresh ++ m)) (kept ++ m) new so_far.added added
      (run_on so_far.place so_far.next held so_far.fresh kept so_far.added m so_far.runs) runs

  pub read_done : (buf : List ℕ) → BodyCall given left now later kept new current after DoneStep buf
      → ContentRead given left old later held new state start content Done
  read_done buf call =
      let step = call_here given left old now later held kept new state current after start content DoneStep buf so_far call in
      read_by Done step.fresh step.moves (joined step.fresh (done new) step.step_is) tt

  pub read_cut : (buf : List ℕ) → BodyCall given left now later kept new current after CutStep buf
      → ContentRead given left old later held new state start content Cut
  read_cut buf call =
      let step = call_here given left old now later held kept new state current after start content CutStep buf so_far call in
      read_by Cut step.fresh step.moves (joined step.fresh cut step.step_is) step.at_end

  pub read_bad : (buf : List ℕ) → BodyCall given left now later kept new current after BadStep buf
      → ContentRead given left old later held new state start content Bad
  read_bad buf call =
      let step = call_here given left old now later held kept new state current after start content BadStep buf so_far call in
      read_by Bad step.fresh step.moves (joined step.fresh bad step.step_is) tt

  pub read_large : (buf : List ℕ) → BodyCall given left now later kept new current after LargeStep buf
      → ContentRead given left old later held new state start content TooLarge
  read_large buf call =
      let step = call_here given left old now later held kept new state current after start content LargeStep buf so_far call in
      read_by TooLarge step.fresh step.moves (joined step.fresh too_large step.step_is) tt

  pub read_fault : (buf : List ℕ) → BodyCall given left now later kept new current after FaultStep buf
      → ContentRead given left old later held new state start content ReadFault
  read_fault buf call =
      let step = call_here given left old now later held kept new state current after start content FaultStep buf so_far call in
      let P : List ℕ → Type 0 = λ c. Runs so_far.place (held ++ (so_far.fresh ++ step.fresh)) c call.next new in
      read_by ReadFault step.fresh step.moves
      (call.next, subst P (append-nil so_far.added) (run_further step.fresh call.next [] step.step_is)) tt

  pub read_memory : (buf : List ℕ) → BodyCall given left now later kept new current after MemoryStep buf
      → ContentRead given left old later held new state start content NoMemory
  read_memory buf call =
      let step = call_here given left old now later held kept new state current after start content MemoryStep buf so_far call in
      absurd step.step_is

  -- the portion came, and there was no memory to keep it
  pub read_lost : (buf : List ℕ) (n : ℕ) → 0 < n → n ≤ length buf → BodyCall given left now later kept new current after (Bytes n) buf
      → ContentRead given left old later held new state start content NoMemory
  read_lost buf n some fits call =
      let step = call_here given left old now later held kept new state current after start content (Bytes n) buf so_far call in
      let lost : List ℕ = take n buf in
      read_by NoMemory step.fresh step.moves
      (lost, omega (arith, some, length-take-le n buf fits), (call.next, run_further step.fresh call.next lost step.step_is)) tt

pub read_none : {S : Type 0} (given left : S → Option (List ℕ)) (old now : S) (held kept : List ℕ) (state current : State) (start content : List ℕ)
    → ContentSoFar given left old now held kept state current start content
    → ContentRead given left old now held kept state start content Unread
read_none given left old now held kept state current start content so_far = record {
  place = so_far.place;
  fresh = so_far.fresh;
  added = so_far.added;
  inside = so_far.inside;
  moves = so_far.moves;
  gained = so_far.gained;
  came = (so_far.next, so_far.runs);
  at_end = tt;
}

-- requests, one after another
content_join : (qs rs : List Request) → content_of (qs ++ rs) ≡ content_of qs ++ content_of rs
content_join [] rs = refl
content_join (q ∷ qs) rs =
    ap (λ (b : List ℕ). q.content ++ b) (content_join qs rs) ∙ sym (append_assoc q.content (content_of qs) (content_of rs))

pub requests_none : {S : Type 0} (given left : S → Option (List ℕ)) (s : S) (held start : List ℕ)
    → RequestsSoFar given left s s held held start start 0
requests_none given left s held start =
    let same : (more : List ℕ) → (held ++ []) ++ more ≡ held ++ more = λ more. ap (λ (b : List ℕ). b ++ more) (append-nil held) in
    record {
      fresh = [];
      requests = [];
      moves = moves_none given left s;
      joins = λ more rest rs e all. let P : List ℕ → Type 0 = λ b. Requests b rs rest e in subst P (sym (same more)) all;
      gained = sym (append-nil start);
      count = refl;
    }

-- the whole requests so far, before more bytes
passed_more : {S : Type 0} (given left : S → Option (List ℕ)) (old now : S) (held kept start content : List ℕ) (whole : ℕ)
    → (so_far : RequestsSoFar given left old now held kept start content whole) → (m : List ℕ)
    → Passed (held ++ (so_far.fresh ++ m)) start content whole (kept ++ m)
passed_more given left old now held kept start content whole so_far m = record {
  requests = so_far.requests;
  leads = λ more rest rs e all.
      let P : List ℕ → Type 0 = λ b. Requests b rs rest e in
      let Q : List ℕ → Type 0 = λ b. Requests b (so_far.requests ++ rs) rest e in
      let from_here = subst P (append_assoc kept m more) all in
      let same = sym (append_assoc (held ++ so_far.fresh) m more) ∙ ap (λ (b : List ℕ). b ++ more) (append_assoc held so_far.fresh m) in
      subst Q same (so_far.joins (m ++ more) rest rs e from_here);
  count = so_far.count;
  gained = so_far.gained;
}

-- the head and the body of one request
request_of : (bytes middle content : List ℕ) (head : HeadParts) (e : Ending) → (h : RequestHead) → BeginsWithHead bytes h middle
    → IsHeadOf h head → BodyFrom (place_of (limit_of head.target.items) head.length) middle content e
    → BeginsWithBody bytes (record { head = h; content = content }) e
request_of bytes middle content head e h begins is body =
    let P : List ℕ → Type 0 = λ t. BodyFrom (place_of (limit_of t) head.length) middle content e in record {
      framing = head.length;
      middle = middle;
      begins = begins;
      framed = is.length_is;
      body = subst P is.target_is body;
    }

module _ {S : Type 0} (given left : S → Option (List ℕ)) (old now mid later : S) (held kept between new : List ℕ) (start content gained : List ℕ) (whole : ℕ) (head : HeadParts) (state : State) (so_far : RequestsSoFar given left old now held kept start content whole) (next : HeadCall given left now mid kept between (Head head)) (is : state ≡ Inside (place_of (limit_of head.target.items) head.length)) where
  -- the bytes of this request, however they came
  one_request : (end : BodyEnd) (e : Ending) → (read : ContentRead given left mid later between new state content gained end)
      → BodyFrom read.place (between ++ read.fresh) read.added e
      → (r : Request) × (r.content ≡ read.added) × BeginsWithBody (kept ++ (next.fresh ++ read.fresh)) r e
  one_request end e read body =
      let same = same_place read.place (place_of (limit_of head.target.items) head.length) (sym read.inside ∙ is) in
      let P : Place → Type 0 = λ p. BodyFrom p (between ++ read.fresh) read.added e in
      let step = next.step_is in
      let longer = head_more (kept ++ next.fresh) read.fresh between step.0 step.1 in
      let Q : List ℕ → Type 0 = λ b. BeginsWithHead b step.0 (between ++ read.fresh) in
      let there = subst Q (append_assoc kept next.fresh read.fresh) longer in
      let r : Request = record { head = step.0; content = read.added } in
      (r, refl, request_of (kept ++ (next.fresh ++ read.fresh)) (between ++ read.fresh) read.added head e step.0 there step.2 (subst P same body))

  all_moves : (end : BodyEnd) → (read : ContentRead given left mid later between new state content gained end)
      → Moves given left old later (so_far.fresh ++ (next.fresh ++ read.fresh))
  all_moves end read =
      moves_more given left old now later so_far.fresh (next.fresh ++ read.fresh) so_far.moves
      (moves_more given left now mid later next.fresh read.fresh next.moves read.moves)

  all_bytes : (m : List ℕ) (rs : List Request) (rest : List ℕ) (e : Final) → Requests (kept ++ m) rs rest e
      → Requests (held ++ (so_far.fresh ++ m)) (so_far.requests ++ rs) rest e
  all_bytes m rs rest e requests =
      let P : List ℕ → Type 0 = λ b. Requests b (so_far.requests ++ rs) rest e in
      subst P (append_assoc held so_far.fresh m) (so_far.joins m rest rs e requests)

  -- one whole request more
  pub all_more : (read : ContentRead given left mid later between new state content gained Done)
      → RequestsSoFar given left old later held new start gained (whole + 1)
  all_more read =
      let m : List ℕ = next.fresh ++ read.fresh in
      let one = one_request Done (done new) read read.came in
      let r : Request = one.0 in
      let only : List Request = r ∷ [] in
      record {
        fresh = so_far.fresh ++ m;
        requests = so_far.requests ++ only;
        moves = all_moves Done read;
        joins = λ tail rest rs e all.
            let begins = done_request (kept ++ m) tail new r one.2 in
            let P : List ℕ → Type 0 = λ b. Requests b (r ∷ rs) rest e in
            let from_here = subst P (append_assoc kept m tail) (more ((kept ++ m) ++ tail) (new ++ tail) rest r rs e begins all) in
            let from_start = so_far.joins (m ++ tail) rest (r ∷ rs) e from_here in
            let Q : List ℕ → Type 0 = λ b. Requests b (so_far.requests ++ (r ∷ rs)) rest e in
            let R : List Request → Type 0 = λ qs. Requests ((held ++ (so_far.fresh ++ m)) ++ tail) qs rest e in
            subst R (sym (append_assoc so_far.requests only rs))
            (subst Q (sym (append_assoc (held ++ so_far.fresh) m tail) ∙ ap (λ (b : List ℕ). b ++ tail) (append_assoc held so_far.fresh m)) from_start);
        gained = read.gained ∙ ap (λ (b : List ℕ). b ++ read.added) so_far.gained ∙ append_assoc start (content_of so_far.requests) read.added
            ∙ ap (λ (b : List ℕ). start ++ b) (ap (λ (b : List ℕ). content_of so_far.requests ++ b) (sym (append-nil r.content ∙ one.1)) ∙ sym (content_join so_far.requests only));
        count = omega (arith, length-append so_far.requests only, so_far.count);
      }

  splits : (end : BodyEnd) (e : Ending) (f : Final) → (read : ContentRead given left mid later between new state content gained end)
      → BodyFrom read.place (between ++ read.fresh) read.added e
      → ((bytes : List ℕ) → ((r : Request) × BeginsWithBody bytes r e) → EndsAs bytes f)
      → SplitsAs (held ++ (so_far.fresh ++ (next.fresh ++ read.fresh))) whole f
  splits end e f read body by =
      let m : List ℕ = next.fresh ++ read.fresh in
      let one = one_request end e read body in (
        so_far.requests ++ [],
        kept ++ m,
        all_bytes m [] (kept ++ m) f (none (kept ++ m) f (by (kept ++ m) (one.0, one.2))),
        ap length (append-nil so_far.requests) ∙ so_far.count,
      )

  came_by : (end : BodyEnd) → (read : ContentRead given left mid later between new state content gained end) → ¬ (end ≡ Done)
      → BodySplits (held ++ (so_far.fresh ++ (next.fresh ++ read.fresh))) whole end
  came_by Done read other = absurd (other refl)
  came_by Cut read other = splits Cut cut is_cut read read.came (λ bytes x. inr x)
  came_by Bad read other = splits Bad bad is_bad read read.came (λ bytes x. inr (inr x))
  came_by TooLarge read other = splits TooLarge too_large is_over read read.came (λ bytes x. inr x)
  came_by ReadFault read other = tt
  came_by NoMemory read other = tt
  came_by Unread read other = tt

  -- the place of the body that was read
  came_there : (end : BodyEnd) → (read : ContentRead given left mid later between new state content gained end)
      → BodyCame (place_of (limit_of next.step_is.0.target) head.length) (between ++ read.fresh) read.added end new
  came_there end read =
      let is_head : IsHeadOf next.step_is.0 head = next.step_is.2 in
      let same = same_place read.place (place_of (limit_of head.target.items) head.length) (sym read.inside ∙ is) in
      let P : Place → Type 0 = λ p. BodyCame p (between ++ read.fresh) read.added end new in
      let Q : List ℕ → Type 0 = λ t. BodyCame (place_of (limit_of t) head.length) (between ++ read.fresh) read.added end new in
      subst Q is_head.target_is (subst P same read.came)

  in_body : (end : BodyEnd) → (read : ContentRead given left mid later between new state content gained end)
      → IsInBody (held ++ (so_far.fresh ++ (next.fresh ++ read.fresh))) start gained whole end
  in_body end read =
      let m : List ℕ = next.fresh ++ read.fresh in
      let is_head : IsHeadOf next.step_is.0 head = next.step_is.2 in
      let longer = head_more (kept ++ next.fresh) read.fresh between next.step_is.0 next.step_is.1 in
      let Q : List ℕ → Type 0 = λ b. BeginsWithHead b next.step_is.0 (between ++ read.fresh) in
      record {
        rest = kept ++ m;
        before = content;
        passed = passed_more given left old now held kept start content whole so_far m;
        head = next.step_is.0;
        framing = head.length;
        middle = between ++ read.fresh;
        begins = subst Q (append_assoc kept next.fresh read.fresh) longer;
        framed = is_head.length_is;
        added = read.added;
        kept = new;
        came = came_there end read;
        gained = read.gained;
      }

  pub all_by_body : (end : BodyEnd) → (read : ContentRead given left mid later between new state content gained end) → ¬ (end ≡ Done)
      → AllRead given left old later held start gained whole (InBody end)
  all_by_body end read other = record {
    fresh = so_far.fresh ++ (next.fresh ++ read.fresh);
    moves = all_moves end read;
    came = (came_by end read other, in_body end read);
    at_end = read.at_end;
  }

-- endings before a head
module _ {S : Type 0} (given left : S → Option (List ℕ)) (old now later : S) (held kept new start content : List ℕ) (whole : ℕ) (so_far : RequestsSoFar given left old now held kept start content whole) where
  head_splits : (m : List ℕ) (f : Final) → EndsAs (kept ++ m) f → AddsAs (held ++ (so_far.fresh ++ m)) start content whole f
  head_splits m f ends =
      let P : List ℕ → Type 0 = λ b. Requests b (so_far.requests ++ []) (kept ++ m) f in (
        so_far.requests ++ [],
        kept ++ m,
        subst P (append_assoc held so_far.fresh m) (so_far.joins m (kept ++ m) [] f (none (kept ++ m) f ends)),
        ap length (append-nil so_far.requests) ∙ so_far.count,
        so_far.gained ∙ ap (λ (b : List ℕ). start ++ b) (ap content_of (sym (append-nil so_far.requests))),
      )

  pub all_end : HeadCall given left now later kept new End → AllRead given left old later held start content whole AllEnd
  all_end call = record {
    fresh = so_far.fresh ++ call.fresh;
    moves = moves_more given left old now later so_far.fresh call.fresh so_far.moves call.moves;
    came = head_splits call.fresh at_end call.step_is.0;
    at_end = call.at_end;
  }

  pub all_cut : HeadCall given left now later kept new CutHead → AllRead given left old later held start content whole AllCut
  all_cut call = record {
    fresh = so_far.fresh ++ call.fresh;
    moves = moves_more given left old now later so_far.fresh call.fresh so_far.moves call.moves;
    came = head_splits call.fresh is_cut (inl call.step_is.0);
    at_end = call.at_end;
  }

  bad_ends : (bytes : List ℕ) → (IsBad bytes ⊎ IsMisframed bytes) → EndsAs bytes is_bad
  bad_ends bytes (inl never) = inl never
  bad_ends bytes (inr misframed) = inr (inl misframed)

  pub all_bad : HeadCall given left now later kept new BadHead → AllRead given left old later held start content whole AllBad
  all_bad call = record {
    fresh = so_far.fresh ++ call.fresh;
    moves = moves_more given left old now later so_far.fresh call.fresh so_far.moves call.moves;
    came = head_splits call.fresh is_bad (bad_ends (kept ++ call.fresh) call.step_is.0);
    at_end = tt;
  }

  pub all_large : HeadCall given left now later kept new HeadTooLarge → AllRead given left old later held start content whole AllLarge
  all_large call = record {
    fresh = so_far.fresh ++ call.fresh;
    moves = moves_more given left old now later so_far.fresh call.fresh so_far.moves call.moves;
    came = head_splits call.fresh is_over (inl call.step_is.0);
    at_end = tt;
  }

  pub all_fault : HeadCall given left now later kept new ReadFaultStep → AllRead given left old later held start content whole AllFault
  all_fault call = record {
    fresh = so_far.fresh ++ call.fresh;
    moves = moves_more given left old now later so_far.fresh call.fresh so_far.moves call.moves;
    came = (kept ++ call.fresh, passed_more given left old now held kept start content whole so_far call.fresh, call.step_is.0);
    at_end = tt;
  }

  pub all_memory : HeadCall given left now later kept new NoMemoryStep → AllRead given left old later held start content whole AllMemory
  all_memory call = record {
    fresh = so_far.fresh ++ call.fresh;
    moves = moves_more given left old now later so_far.fresh call.fresh so_far.moves call.moves;
    came = (kept ++ call.fresh, passed_more given left old now held kept start content whole so_far call.fresh, call.step_is.0);
    at_end = tt;
  }

-- 2^64 - 1 requests have come
pub all_unread : {S : Type 0} (given left : S → Option (List ℕ)) (old now : S) (held kept start content : List ℕ) (whole : ℕ)
    → RequestsSoFar given left old now held kept start content whole → whole ≡ 2 ^ 64 - 1
    → AllRead given left old now held start content whole AllUnread
all_unread given left old now held kept start content whole so_far many = record {
  fresh = so_far.fresh;
  moves = so_far.moves;
  came = (
    kept,
    record { requests = so_far.requests; leads = so_far.joins; count = so_far.count; gained = so_far.gained },
    many,
  );
  at_end = tt;
}
