-- That bytes are read in one way, but for an end inside a request target whose text is broken.
use Rattle.std.specs.Prelude.{◌≡◌, ◌⊎◌, List, ℕ, ◌++◌, ⊤}
use Rattle.httparse.specs.Grammar.{RequestHead}
use Rattle.http_in.specs.declared.place.Place.{Place}
use Rattle.http_in.specs.Heads.{BeginsWithHead, IsOver, IsBad, IsCut, IsOpenTarget}
use Rattle.http_in.specs.Bodies.{Ending, BodyFrom}
use Rattle.http_in.specs.Requests.{Request, Requests, Final, at_end, is_cut, is_bad, is_over}

-- the bytes are one head, over a limit, bad or cut, in one way
pub record OneEnding (bytes : List ℕ) : Type 0 where
  pub one_head : (h k : RequestHead) (r q : List ℕ) → BeginsWithHead bytes h r → BeginsWithHead bytes k q → (h ≡ k) × (r ≡ q)
  pub head_or_over : (h : RequestHead) (r : List ℕ) → BeginsWithHead bytes h r → ¬ (IsOver bytes)
  pub head_or_bad : (h : RequestHead) (r : List ℕ) → BeginsWithHead bytes h r → ¬ (IsBad bytes)
  pub head_or_cut : (h : RequestHead) (r : List ℕ) → BeginsWithHead bytes h r → ¬ (IsCut bytes)
  pub over_or_cut : IsOver bytes → ¬ (IsCut bytes)
  pub over_or_bad : IsOver bytes → IsBad bytes → IsOpenTarget bytes
  pub cut_or_bad : IsCut bytes → IsBad bytes → IsOpenTarget bytes

-- the bytes from a place inside a body on are one content and one ending
abbrev pub OneBody : Place → List ℕ → Type 0
OneBody place bytes =
    (content other : List ℕ) (e f : Ending) → BodyFrom place bytes content e → BodyFrom place bytes other f
    → (content ≡ other) × (e ≡ f)

-- the bytes split into requests and one ending in one way
abbrev pub OneReading : List ℕ → Type 0
OneReading bytes =
    (rs qs : List Request) (left right : List ℕ) (e f : Final) → Requests bytes rs left e → Requests bytes qs right f
    → (rs ≡ qs) × (left ≡ right) × ((e ≡ f) ⊎ IsOpenTarget left)

-- an ending that no byte that follows can change
abbrev pub IsSettled : Final → Type 0
IsSettled is_bad = ⊤
IsSettled is_over = ⊤
IsSettled is_cut = ⊥
IsSettled at_end = ⊥

-- so the bytes at hand are enough for it
abbrev pub Settles : List ℕ → Type 0
Settles bytes =
    (more left : List ℕ) (rs : List Request) (e : Final) → IsSettled e → Requests bytes rs left e → Requests (bytes ++ more) rs (left ++ more) e
