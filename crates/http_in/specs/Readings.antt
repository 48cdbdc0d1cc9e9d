-- What reading all requests of a source comes to.
use Rattle.std.specs.Prelude.{◌≡◌, ℕ, ◌<◌, ◌-◌, ◌^◌, List, ◌++◌, length, Option, Some, ⊤}
use Rattle.std.specs.List.{flat_map}
use Rattle.std.specs.Io.KnownBytes.{IsAtEnd}
use Rattle.fh_world.specs.Bytes.{Moves}
use Rattle.httparse.specs.Grammar.{RequestHead}
use Rattle.http_in.specs.declared.head.Length.{Length}
use Rattle.http_in.specs.declared.place.Place.{Place}
use Rattle.http_in.specs.declared.place.State.{State}
use Rattle.http_in.specs.declared.place.State.TheVariants.{Inside}
use Rattle.http_in.specs.declared.all.BodyEnd.{BodyEnd}
use Rattle.http_in.specs.declared.all.BodyEnd.TheVariants.{Done, Cut, Bad, TooLarge, ReadFault, NoMemory, Unread}
use Rattle.http_in.specs.declared.all.Outcome.{Outcome}
use Rattle.http_in.specs.declared.all.Outcome.TheVariants.{End as AllEnd, Cut as AllCut, Bad as AllBad, HeadTooLarge, InBody, ReadFault as AllFault, NoMemory as AllMemory, Unread as AllUnread}
use Rattle.http_in.specs.Bodies.{done, cut, bad, too_large, Runs, BodyFrom}
use Rattle.http_in.specs.Heads.{BeginsWithHead, HasNoHead}
use Rattle.http_in.specs.Framing.{framing_of, IsFramed}
use Rattle.http_in.specs.Parts.{limit_of}
use Rattle.http_in.specs.Stands.{place_of}
use Rattle.http_in.specs.Requests.{Request, Requests, Final, at_end, is_cut, is_bad, is_over}

-- the bytes at hand are this content, up to a place inside the body, and what is kept
abbrev pub StopsInside : Place → List ℕ → List ℕ → List ℕ → Type 0
StopsInside place bytes added kept = (next : Place) × Runs place bytes added next kept

-- The bytes at hand are this content, how it ended, and what is kept. Where memory was wanting, it was for a portion
-- that is not added.
abbrev pub BodyCame : Place → List ℕ → List ℕ → BodyEnd → List ℕ → Type 0
BodyCame place bytes added Done kept = BodyFrom place bytes added (done kept)
BodyCame place bytes added Cut kept = BodyFrom place bytes added cut
BodyCame place bytes added Bad kept = BodyFrom place bytes added bad
BodyCame place bytes added TooLarge kept = BodyFrom place bytes added too_large
BodyCame place bytes added ReadFault kept = StopsInside place bytes added kept
BodyCame place bytes added NoMemory kept = (lost : List ℕ) × (0 < length lost) × StopsInside place bytes (added ++ lost) kept
BodyCame place bytes added Unread kept = StopsInside place bytes added kept

-- the source has no byte left where the body was cut
abbrev pub EndsBody : BodyEnd → Option (List ℕ) → Type 0
EndsBody Cut left = IsAtEnd left
EndsBody Done left = ⊤
EndsBody Bad left = ⊤
EndsBody TooLarge left = ⊤
EndsBody ReadFault left = ⊤
EndsBody NoMemory left = ⊤
EndsBody Unread left = ⊤

-- the body was read, and its bytes stand behind those from before
pub record ContentRead {S : Type 0} (given left : S → Option (List ℕ)) (old new : S) (held kept : List ℕ) (state : State) (start content : List ℕ) (end : BodyEnd) : Type 0 where
  pub place : Place
  pub fresh : List ℕ
  pub added : List ℕ
  pub inside : state ≡ Inside place
  pub moves : Moves given left old new fresh
  pub gained : content ≡ start ++ added
  pub came : BodyCame place (held ++ fresh) added end kept
  pub at_end : EndsBody end (left new)

-- and so far
pub record ContentSoFar {S : Type 0} (given left : S → Option (List ℕ)) (old now : S) (held kept : List ℕ) (state current : State) (start content : List ℕ) : Type 0 where
  pub place : Place
  pub next : Place
  pub fresh : List ℕ
  pub added : List ℕ
  pub inside : state ≡ Inside place
  pub is_now : current ≡ Inside next
  pub moves : Moves given left old now fresh
  pub gained : content ≡ start ++ added
  pub runs : Runs place (held ++ fresh) added next kept

-- the content of the requests, one after another
abbrev pub content_of : List Request → List ℕ
content_of rs = flat_map (λ r. r.content) rs

-- whatever follows, the bytes are these requests and what the rest splits into
abbrev pub Leads : List ℕ → List Request → List ℕ → Type 0
Leads bytes requests rest =
    (more left : List ℕ) (rs : List Request) (e : Final) → Requests (rest ++ more) rs left e
    → Requests (bytes ++ more) (requests ++ rs) left e

-- so many whole requests have come, and what is kept goes on behind them
pub record RequestsSoFar {S : Type 0} (given left : S → Option (List ℕ)) (old now : S) (held kept start content : List ℕ) (whole : ℕ) : Type 0 where
  pub fresh : List ℕ
  pub requests : List Request
  pub moves : Moves given left old now fresh
  pub joins : Leads (held ++ fresh) requests kept
  pub gained : content ≡ start ++ content_of requests
  pub count : length requests ≡ whole

-- the bytes split into so many requests and this ending
abbrev pub SplitsAs : List ℕ → ℕ → Final → Type 0
SplitsAs bytes whole e = (rs : List Request) × (rest : List ℕ) × Requests bytes rs rest e × (length rs ≡ whole)

-- and their content was added
abbrev pub AddsAs : List ℕ → List ℕ → List ℕ → ℕ → Final → Type 0
AddsAs bytes start content whole e =
    (rs : List Request) × (rest : List ℕ) × Requests bytes rs rest e × (length rs ≡ whole) × (content ≡ start ++ content_of rs)

-- the bytes begin with so many whole requests, whose content was added
pub record Passed (bytes start content : List ℕ) (whole : ℕ) (rest : List ℕ) : Type 0 where
  pub requests : List Request
  pub leads : Leads bytes requests rest
  pub count : length requests ≡ whole
  pub gained : content ≡ start ++ content_of requests

-- behind them a head is whole, and this was read of its body
pub record IsInBody (bytes start content : List ℕ) (whole : ℕ) (end : BodyEnd) : Type 0 where
  pub rest : List ℕ
  pub before : List ℕ
  pub passed : Passed bytes start before whole rest
  pub head : RequestHead
  pub framing : Length
  pub middle : List ℕ
  pub begins : BeginsWithHead rest head middle
  pub framed : framing_of head ≡ Some framing
  pub added : List ℕ
  pub kept : List ℕ
  pub came : BodyCame (place_of (limit_of head.target) framing) middle added end kept
  pub gained : content ≡ before ++ added

-- as far as the body's end says how the bytes split
abbrev pub BodySplits : List ℕ → ℕ → BodyEnd → Type 0
BodySplits bytes whole Done = ⊥
BodySplits bytes whole Cut = SplitsAs bytes whole is_cut
BodySplits bytes whole Bad = SplitsAs bytes whole is_bad
BodySplits bytes whole TooLarge = SplitsAs bytes whole is_over
BodySplits bytes whole ReadFault = ⊤
BodySplits bytes whole NoMemory = ⊤
BodySplits bytes whole Unread = ⊤

-- all bytes were read
abbrev pub AllCame : List ℕ → List ℕ → List ℕ → ℕ → Outcome → Type 0
AllCame bytes start content whole AllEnd = AddsAs bytes start content whole at_end
AllCame bytes start content whole AllCut = AddsAs bytes start content whole is_cut
AllCame bytes start content whole AllBad = AddsAs bytes start content whole is_bad
AllCame bytes start content whole HeadTooLarge = AddsAs bytes start content whole is_over
AllCame bytes start content whole (InBody end) = BodySplits bytes whole end × IsInBody bytes start content whole end
AllCame bytes start content whole AllFault = (rest : List ℕ) × Passed bytes start content whole rest × HasNoHead rest
AllCame bytes start content whole AllMemory = (rest : List ℕ) × Passed bytes start content whole rest × IsFramed rest
AllCame bytes start content whole AllUnread = (rest : List ℕ) × Passed bytes start content whole rest × (whole ≡ 2 ^ 64 - 1)

-- the source has no byte left where the bytes ended
abbrev pub EndsAll : Outcome → Option (List ℕ) → Type 0
EndsAll AllEnd left = IsAtEnd left
EndsAll AllCut left = IsAtEnd left
EndsAll (InBody end) left = EndsBody end left
EndsAll AllBad left = ⊤
EndsAll HeadTooLarge left = ⊤
EndsAll AllFault left = ⊤
EndsAll AllMemory left = ⊤
EndsAll AllUnread left = ⊤

-- all requests were read
pub record AllRead {S : Type 0} (given left : S → Option (List ℕ)) (old new : S) (held start content : List ℕ) (whole : ℕ) (outcome : Outcome) : Type 0 where
  pub fresh : List ℕ
  pub moves : Moves given left old new fresh
  pub came : AllCame (held ++ fresh) start content whole outcome
  pub at_end : EndsAll outcome (left new)
