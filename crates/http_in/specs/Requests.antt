-- How bytes split into requests and one ending.
use Rattle.std.specs.Prelude.{◌≡◌, ℕ, List, [], ◌∷◌, Some, ◌⊎◌}
use Rattle.httparse.specs.Grammar.{RequestHead}
use Rattle.http_in.specs.declared.head.Length.{Length}
use Rattle.http_in.specs.Heads.{BeginsWithHead, IsCut, IsBad, IsOver}
use Rattle.http_in.specs.Framing.{framing_of, IsMisframed}
use Rattle.http_in.specs.Parts.{limit_of}
use Rattle.http_in.specs.Stands.{place_of}
use Rattle.http_in.specs.Bodies.{Ending, done, cut, bad, too_large, BodyFrom}

-- a request: its head and the content of its body
pub record Request : Type 0 where
  pub head : RequestHead
  pub content : List ℕ

-- a head begins the bytes, and its body is this content and ends so
pub record BeginsWithBody (bytes : List ℕ) (r : Request) (ending : Ending) : Type 0 where
  pub framing : Length
  pub middle : List ℕ
  pub begins : BeginsWithHead bytes r.head middle
  pub framed : framing_of r.head ≡ Some framing
  pub body : BodyFrom (place_of (limit_of r.head.target) framing) middle r.content ending

-- how the bytes of a connection end
pub data Final : Type 0 where
  at_end is_cut is_bad is_over : Final

-- the bytes hold no whole request, and end so
abbrev pub EndsAs : List ℕ → Final → Type 0
EndsAs bytes at_end = bytes ≡ []
EndsAs bytes is_cut = IsCut bytes ⊎ ((r : Request) × BeginsWithBody bytes r cut)
EndsAs bytes is_bad = IsBad bytes ⊎ IsMisframed bytes ⊎ ((r : Request) × BeginsWithBody bytes r bad)
EndsAs bytes is_over = IsOver bytes ⊎ ((r : Request) × BeginsWithBody bytes r too_large)

-- the bytes are these requests, then what is left, which ends so
pub data Requests : List ℕ → List Request → List ℕ → Final → Type 0 where
  none : (bytes : List ℕ) (e : Final) → EndsAs bytes e → Requests bytes [] bytes e
  more : (bytes rest left : List ℕ) (r : Request) (rs : List Request) (e : Final)
      → BeginsWithBody bytes r (done rest) → Requests rest rs left e → Requests bytes (r ∷ rs) left e
