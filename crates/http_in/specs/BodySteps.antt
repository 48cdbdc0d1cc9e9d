-- What a call of `body` answers, by the bytes at hand: those held before it and those that the source gave in it.
use Rattle.std.specs.Prelude.{◌≡◌, ℕ, ◌<◌, ◌≤◌, List, [], ◌++◌, take, Option, ⊤}
use Rattle.std.specs.Io.KnownBytes.{IsAtEnd}
use Rattle.fh_world.specs.Bytes.{Moves}
use Rattle.http_in.specs.declared.place.Place.{Place}
use Rattle.http_in.specs.declared.place.State.{State}
use Rattle.http_in.specs.declared.place.State.TheVariants.{Between, Inside, Ended}
use Rattle.http_in.specs.declared.bodies.BodyStep.{BodyStep}
use Rattle.http_in.specs.declared.bodies.BodyStep.TheVariants.{Bytes, Done, Cut, Bad, TooLarge, ReadFault, NoMemory}
use Rattle.http_in.specs.Bodies.{Ending, done, cut, bad, too_large, Runs, BodyFrom}

-- The place and the bytes at hand, the answer and what it wrote, and the place after it and the bytes that are kept. A
-- reader has all memory that a body needs, and so never answers that it is wanting.
abbrev pub IsBodyStepOf : Place → List ℕ → BodyStep → List ℕ → Place → List ℕ → Type 0
IsBodyStepOf place bytes (Bytes n) buf next kept = Runs place bytes (take n buf) next kept
IsBodyStepOf place bytes Done buf next kept = BodyFrom place bytes [] (done kept)
IsBodyStepOf place bytes Cut buf next kept = BodyFrom place bytes [] cut
IsBodyStepOf place bytes Bad buf next kept = BodyFrom place bytes [] bad
IsBodyStepOf place bytes TooLarge buf next kept = BodyFrom place bytes [] too_large
IsBodyStepOf place bytes ReadFault buf next kept = Runs place bytes [] next kept
IsBodyStepOf place bytes NoMemory buf next kept = ⊥

-- the bytes at hand show that the body ends here, and not for want of bytes
abbrev pub EndsHere : Place → List ℕ → Type 0
EndsHere place bytes = (e : Ending) × BodyFrom place bytes [] e × ¬ (e ≡ cut)

-- the same of where a reader stands
abbrev pub EndsNow : State → List ℕ → Type 0
EndsNow (Inside place) bytes = EndsHere place bytes
EndsNow Between bytes = ⊥
EndsNow Ended bytes = ⊥

-- the source has no byte left where the answer is about its end
abbrev pub EndsSourceAt : BodyStep → Option (List ℕ) → Type 0
EndsSourceAt Cut left = IsAtEnd left
EndsSourceAt (Bytes n) left = ⊤
EndsSourceAt Done left = ⊤
EndsSourceAt Bad left = ⊤
EndsSourceAt TooLarge left = ⊤
EndsSourceAt ReadFault left = ⊤
EndsSourceAt NoMemory left = ⊤

-- a call at a place inside a body: what the source gave in it, and the answer
pub record PlaceCall {S : Type 0} (given left : S → Option (List ℕ)) (old new : S) (held kept : List ℕ) (place next : Place) (step : BodyStep) (buf : List ℕ) : Type 0 where
  pub fresh : List ℕ
  pub moves : Moves given left old new fresh
  pub step_is : IsBodyStepOf place (held ++ fresh) step buf next kept
  pub at_end : EndsSourceAt step (left new)

-- where the answer leaves the reader, that is at this place
abbrev pub state_after_body : BodyStep → Place → State
state_after_body (Bytes n) next = Inside next
state_after_body NoMemory next = Inside next
state_after_body Done next = Between
state_after_body Cut next = Ended
state_after_body Bad next = Ended
state_after_body TooLarge next = Ended
state_after_body ReadFault next = Ended

-- a call of a reader: its state before it, and its state after it
pub record BodyCall {S : Type 0} (given left : S → Option (List ℕ)) (old new : S) (held kept : List ℕ) (state later : State) (step : BodyStep) (buf : List ℕ) : Type 0 where
  pub place : Place
  pub next : Place
  pub inside : state ≡ Inside place
  pub leaves : later ≡ state_after_body step next
  pub call : PlaceCall given left old new held kept place next step buf

-- some bytes came, and no more than there is room for
abbrev pub FitsRoom : BodyStep → ℕ → Type 0
FitsRoom (Bytes n) room = (0 < n) × (n ≤ room)
FitsRoom Done room = ⊤
FitsRoom Cut room = ⊤
FitsRoom Bad room = ⊤
FitsRoom TooLarge room = ⊤
FitsRoom ReadFault room = ⊤
FitsRoom NoMemory room = ⊤
