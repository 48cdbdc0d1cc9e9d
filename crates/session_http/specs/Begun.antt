-- What the bytes that were read begin with, and what those behind the requests are.
use Rattle.std.specs.Prelude.{◌≡◌, ◌⊎◌, ℕ, List, [], ◌∷◌}
use Rattle.httparse.specs.Grammar.{RequestHead}
use Rattle.http_in.specs.Bodies.{done, cut, bad, too_large}
use Rattle.http_in.specs.Framing.{IsMisframed, IsFramed}
use Rattle.http_in.specs.Heads.{BeginsWithHead, HasNoHead, IsBad, IsCut, IsOver}
use Rattle.http_in.specs.Requests.{Request, BeginsWithBody}
use Rattle.session_rules.specs.Connection.{interim_of}
use Rattle.session_rules.specs.Replies.{Said, bad_request, body_too_large, head_too_large}

-- the bytes are these requests, one after another, and then the rest
pub data Begins : List ℕ → List Request → List ℕ → Type 0 where
  stay : (bytes : List ℕ) → Begins bytes [] bytes
  step : (bytes after rest : List ℕ) (r : Request) (rs : List Request)
      → BeginsWithBody bytes r (done after) → Begins after rs rest → Begins bytes (r ∷ rs) rest

-- ---- the rest, where it is no whole request, and what is written of its own accord before a reply

-- its head is whole, and this is the interim text that it calls for
abbrev pub IsGreeted : List ℕ → List ℕ → Type 0
IsGreeted rest before = (h : RequestHead) × (after : List ℕ) × BeginsWithHead rest h after × (before ≡ interim_of h)

-- no head is whole, and so nothing was written for it, or the interim text was
abbrev pub IsOpened : List ℕ → List ℕ → Type 0
IsOpened rest before = (HasNoHead rest × (before ≡ [])) ⊎ IsGreeted rest before

-- its head is whole and states a framing, and nothing was written for it
abbrev pub IsBegun : List ℕ → List ℕ → Type 0
IsBegun rest before = IsFramed rest × (before ≡ [])

-- it ends inside a request
abbrev pub IsCutShort : List ℕ → List ℕ → Type 0
IsCutShort rest before =
    (IsCut rest × (before ≡ [])) ⊎ ((r : Request) × BeginsWithBody rest r cut × (before ≡ interim_of r.head))

-- no head, whatever follows, or one without a framing
abbrev pub IsBadHead : List ℕ → List ℕ → Said → Type 0
IsBadHead rest before it = (IsBad rest ⊎ IsMisframed rest) × (before ≡ []) × (it ≡ bad_request)

abbrev pub IsLargeHead : List ℕ → List ℕ → Said → Type 0
IsLargeHead rest before it = IsOver rest × (before ≡ []) × (it ≡ head_too_large)

abbrev pub IsBadBody : List ℕ → List ℕ → Said → Type 0
IsBadBody rest before it = (r : Request) × BeginsWithBody rest r bad × (before ≡ interim_of r.head) × (it ≡ bad_request)

abbrev pub IsLargeBody : List ℕ → List ℕ → Said → Type 0
IsLargeBody rest before it =
    (r : Request) × BeginsWithBody rest r too_large × (before ≡ interim_of r.head) × (it ≡ body_too_large r.head.target)

-- it is bad or past a limit, and this is said of it
abbrev pub IsRefused : List ℕ → List ℕ → Said → Type 0
IsRefused rest before it =
    IsBadHead rest before it ⊎ (IsLargeHead rest before it ⊎ (IsBadBody rest before it ⊎ IsLargeBody rest before it))
