-- What the bytes at hand say of a head.
use Rattle.std.specs.Prelude.{◌≡◌, ℕ, ◌<◌, ◌≤◌, List, length, take, drop, map, None}
use Rattle.http_in.specs.declared.limits.TheConstants.{HEAD_MAX_BYTES, HEAD_MAX_LINES}
use Rattle.httparse.specs.Grammar.{RequestHead, HasNoRequest, NeverHasRequest, MayBecomeRequest}
use Rattle.httparse.specs.Spans.{IsRequestAt, IsRequestWithin, span_bytes, header_bytes}
use Rattle.httparse.specs.declared.spans.HeaderSpan.{HeaderSpan}
use Rattle.httparse.specs.declared.spans.RequestSpans.{RequestSpans}
use Rattle.http_in.specs.declared.heads.Verdict.{Verdict}
use Rattle.http_in.specs.declared.heads.Verdict.TheVariants.{Whole, TooLarge, Bad, Unfinished}
use Rattle.http_in.specs.Heads.{IsOver}
use Rattle.http_in.specs.Framing.{framing_in, StatesFraming}
use Rattle.http_in.specs.Parts.{IsPartsOf}
use Rattle.http_in.specs.declared.heads.Step.{Step}
use Rattle.http_in.specs.declared.heads.Step.TheVariants.{Head, End, Cut, Bad as BadStep, HeadTooLarge, ReadFault, NoMemory}

-- the spans are those of a head of at most 64 field lines
pub record IsWhole (held : List ℕ) (spans : List HeaderSpan) (r : RequestSpans) : Type 0 where
  pub head : RequestHead
  pub at : IsRequestAt held spans r head
  pub within : IsRequestWithin held spans r
  pub few : length head.fields ≤ HEAD_MAX_LINES

-- no head yet, and more bytes can make one
pub record IsUnfinished (held : List ℕ) : Type 0 where
  pub short : length held < HEAD_MAX_BYTES
  pub none : HasNoRequest held
  pub hopeful : MayBecomeRequest held

-- what each verdict says
abbrev pub IsVerdict : List ℕ → List HeaderSpan → Verdict → Type 0
IsVerdict held spans (Whole r) = IsWhole held spans r
IsVerdict held spans TooLarge = IsOver held
IsVerdict held spans Bad = NeverHasRequest held
IsVerdict held spans Unfinished = IsUnfinished held

-- the head came off the front of the bytes, or does not frame its body, or the bytes stay where memory is out
abbrev pub IsTaken : List ℕ → List HeaderSpan → RequestSpans → Step → List ℕ → Type 0
IsTaken old spans r (Head head) new =
    IsPartsOf (span_bytes old r.method) (span_bytes old r.path) r.version (map (header_bytes old) (take r.headers spans)) head
    × (new ≡ drop r.len old)
IsTaken old spans r BadStep new = (framing_in (map (header_bytes old) (take r.headers spans)) ≡ None) × (new ≡ old)
IsTaken old spans r NoMemory new = StatesFraming (map (header_bytes old) (take r.headers spans)) × (new ≡ old)
IsTaken old spans r End new = ⊥
IsTaken old spans r Cut new = ⊥
IsTaken old spans r HeadTooLarge new = ⊥
IsTaken old spans r ReadFault new = ⊥
