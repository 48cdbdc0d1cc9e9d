-- What the reading loops keep.
use Rattle.std.specs.Prelude.{◌≡◌, ℕ, ◌<◌, ◌≤◌, List, [], ◌++◌, take, length, Option}
use Rattle.std.specs.Borrow.{GName}
use Rattle.std.specs.Io.KnownBytes.{IsAtEnd}
use Rattle.fh_world.specs.Bytes.{Moves}
use Rattle.http_in.specs.declared.limits.TheConstants.{HEAD_MAX_BYTES}
use Rattle.http_in.specs.declared.place.Place.{Place}
use Rattle.http_in.specs.declared.bodies.Given.{Given}
use Rattle.http_in.specs.declared.bodies.Given.TheVariants.{Bytes, End, Fault}
use Rattle.http_in.specs.Bodies.{Runs}

-- the source goes on from where it was, without a fault, and the bytes at hand are few
pub record IsGoingOn {S : Type 0} (place : S → List GName) (faults : S → ℕ) (old now : S) (held spans room : ℕ) : Type 0 where
  pub place_is : place now ≡ place old
  pub faults_are : faults now ≡ faults old
  pub within : held ≤ HEAD_MAX_BYTES
  pub room_is : spans ≡ room

-- the source was left alone, and the bytes from the start led to a place without content
pub record IsStillAt {S : Type 0} (old now : S) (held kept : List ℕ) (place next : Place) : Type 0 where
  pub source_is : now ≡ old
  pub runs : Runs place held [] next kept

-- up to a place inside a body no byte of content has come
pub record HasRun {S : Type 0} (given left : S → Option (List ℕ)) (old now : S) (held kept : List ℕ) (place next : Place) : Type 0 where
  pub fresh : List ℕ
  pub moves : Moves given left old now fresh
  pub runs : Runs place (held ++ fresh) [] next kept

-- the bytes that stood next, from those at hand and behind them from the source
pub record Takes {S : Type 0} (given left : S → Option (List ℕ)) (old new : S) (held kept taken : List ℕ) : Type 0 where
  pub fresh : List ℕ
  pub moves : Moves given left old new fresh
  pub taken_is : held ++ fresh ≡ taken ++ kept

-- what taking bytes came to
abbrev pub IsGiven : {S : Type 0} → (S → Option (List ℕ)) → (S → Option (List ℕ)) → S → S → List ℕ → List ℕ → Given → ℕ → List ℕ → Type 0
IsGiven given left old new held kept (Bytes n) most buf =
    (0 < n) × (n ≤ most) × (n ≤ length buf) × Takes given left old new held kept (take n buf)
IsGiven given left old new held kept End most buf = Takes given left old new held kept [] × (kept ≡ []) × IsAtEnd (left new)
IsGiven given left old new held kept Fault most buf = Takes given left old new held kept []
