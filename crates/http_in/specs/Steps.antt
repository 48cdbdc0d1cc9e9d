-- What a call of `next` answers, by the bytes at hand: those held before it and those that the source gave in it.
use Rattle.std.specs.Prelude.{◌≡◌, ℕ, List, [], ◌++◌, Option, ⊤, ◌⊎◌}
use Rattle.std.specs.Io.KnownBytes.{IsAtEnd}
use Rattle.fh_world.specs.Bytes.{Moves}
use Rattle.httparse.specs.Grammar.{RequestHead, EndsInTarget}
use Rattle.http_in.specs.declared.heads.Step.{Step}
use Rattle.http_in.specs.declared.heads.Step.TheVariants.{Head, End, Cut, Bad, HeadTooLarge, ReadFault, NoMemory}
use Rattle.http_in.specs.declared.place.State.{State}
use Rattle.http_in.specs.declared.place.State.TheVariants.{Between, Inside, Ended}
use Rattle.http_in.specs.Heads.{judged, BeginsWithHead, HasNoHead, IsCut, IsBad, IsOver}
use Rattle.http_in.specs.Framing.{IsMisframed, IsFramed}
use Rattle.http_in.specs.Parts.{IsHeadOf, limit_of}
use Rattle.http_in.specs.Stands.{place_of}

-- The bytes at hand, the answer, and the bytes that are kept. Memory is asked for only once a whole head with a framing is
-- at hand.
abbrev pub IsStepOf : List ℕ → Step → List ℕ → Type 0
IsStepOf bytes (Head head) kept = (h : RequestHead) × BeginsWithHead bytes h kept × IsHeadOf h head
IsStepOf bytes End kept = (bytes ≡ []) × (kept ≡ [])
IsStepOf bytes Cut kept = IsCut bytes × (kept ≡ bytes)
IsStepOf bytes Bad kept = (IsBad bytes ⊎ IsMisframed bytes) × (kept ≡ bytes)
IsStepOf bytes HeadTooLarge kept = IsOver bytes × (kept ≡ bytes)
IsStepOf bytes ReadFault kept = HasNoHead bytes × (kept ≡ bytes)
IsStepOf bytes NoMemory kept = IsFramed bytes × (kept ≡ bytes)

-- no byte more is needed for an answer: a whole head, a passed limit, or what is no head whatever follows
abbrev pub Suffices : List ℕ → Type 0
Suffices bytes =
    ((h : RequestHead) × (rest : List ℕ) × BeginsWithHead bytes h rest) ⊎ (IsOver bytes ⊎ (IsBad bytes × ¬ (EndsInTarget (judged bytes))))

-- the source has no byte left where the answer is about its end
abbrev pub EndsSource : Step → Option (List ℕ) → Type 0
EndsSource End left = IsAtEnd left
EndsSource Cut left = IsAtEnd left
EndsSource (Head head) left = ⊤
EndsSource Bad left = ⊤
EndsSource HeadTooLarge left = ⊤
EndsSource ReadFault left = ⊤
EndsSource NoMemory left = ⊤

-- a call: what the source gave in it, and the answer
pub record HeadCall {S : Type 0} (given left : S → Option (List ℕ)) (old new : S) (held kept : List ℕ) (step : Step) : Type 0 where
  pub fresh : List ℕ
  pub moves : Moves given left old new fresh
  pub step_is : IsStepOf (held ++ fresh) step kept
  pub at_end : EndsSource step (left new)

-- where the answer leaves the reader
abbrev pub state_after : Step → State
state_after (Head head) = Inside (place_of (limit_of head.target.items) head.length)
state_after NoMemory = Between
state_after End = Ended
state_after Cut = Ended
state_after Bad = Ended
state_after HeadTooLarge = Ended
state_after ReadFault = Ended
