-- What reading the body of a request leaves.
use Rattle.std.specs.Prelude.{◌≡◌, ◌⊎◌, ℕ, ◌<◌, ◌≤◌, ◌-◌, ◌^◌, Bool, IsTrue, List, [], ◌++◌, length, Option}
use Rattle.fh_model.specs.declared.limits.TheConstants.{BLOCK_BYTES}
use Rattle.http_in.specs.Readings.{ContentRead, ContentSoFar}
use Rattle.http_in.specs.declared.all.BodyEnd.{BodyEnd}
use Rattle.http_in.specs.declared.all.BodyEnd.TheVariants.{Unread}
use Rattle.http_in.specs.declared.place.State.{State}
use Rattle.session_http.specs.declared.bodies.Body.{Body}
use Rattle.session_http.specs.declared.bodies.Body.TheVariants.{Whole, Large, Gone}

-- what is kept is the content, or this has more than one block, or nothing is known of it
abbrev pub Holds : Body → List ℕ → List ℕ → Type 0
Holds Whole kept content = kept ≡ content
Holds Large kept content = BLOCK_BYTES < length content
Holds Gone kept content = Unit {0}

-- It is gone only where it was not to be kept, or where a buffer with room for so many bytes had too little for it.
abbrev pub GoneOnlyFor : Bool → ℕ → Body → List ℕ → Type 0
GoneOnlyFor keeps room Whole content = Unit {0}
GoneOnlyFor keeps room Large content = Unit {0}
GoneOnlyFor keeps room Gone content = IsTrue keeps → room < length content

-- The body was read, and this is kept of it, in a buffer that had room for so many bytes.
pub record BodyRead {S : Type 0} (given left : S → Option (List ℕ)) (old new : S) (held left_held : List ℕ) (state : State) (keeps : Bool) (room : ℕ)
    (body : Body) (kept : List ℕ) (end : BodyEnd) : Type 0 where
  pub content : List ℕ
  pub read : ContentRead given left old new held left_held state [] content end
  pub holds : Holds body kept content
  pub gone : GoneOnlyFor keeps room body content
  -- there were as many portions as can be counted
  pub many : end ≡ Unread → 2 ^ 64 - 1 ≤ length content

-- and so far, by so many portions
pub record BodySoFar {S : Type 0} (given left : S → Option (List ℕ)) (old now : S) (held left_held : List ℕ) (state current : State) (keeps : Bool) (room : ℕ)
    (body : Body) (kept : List ℕ) (portions : ℕ) : Type 0 where
  pub content : List ℕ
  pub so_far : ContentSoFar given left old now held left_held state current [] content
  pub holds : Holds body kept content
  pub gone : GoneOnlyFor keeps room body content
  pub many : portions ≤ length content

-- a portion stands behind what was kept
abbrev pub KeepsOn : Body → List ℕ → List ℕ → Body → List ℕ → Type 0
KeepsOn before kept portion now kept_now = (content : List ℕ) → Holds before kept content → Holds now kept_now (content ++ portion)

-- what is at hand is gone with a portion only where the buffer had too little room for it
abbrev pub LosesOnly : Body → ℕ → ℕ → Body → Type 0
LosesOnly before room size now = now ≡ Gone → (before ≡ Gone) ⊎ ((before ≡ Whole) × (room < size))
