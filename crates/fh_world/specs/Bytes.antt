-- What passes through a source and a sink.
use Rattle.std.specs.Prelude.{ℕ, ◌≡◌, ◌≤◌, List, length, take, Option}
use Rattle.std.specs.Io.KnownBytes.{append_known, prepend_known}

-- a source gave these bytes, which were the first of those left, where it tells
pub record Moves {S : Type 0} (given left : S → Option (List ℕ)) (old new : S) (bytes : List ℕ) : Type 0 where
  pub gave : given new ≡ append_known (given old) bytes
  pub took : left old ≡ prepend_known bytes (left new)

-- a sink holds these bytes behind those from before, where it tells
abbrev pub Holds : {K : Type 0} → (K → Option (List ℕ)) → K → K → List ℕ → Type 0
Holds held old new bytes = held new ≡ append_known (held old) bytes

-- it holds the first of them behind those from before
abbrev pub HoldsPart : {K : Type 0} → (K → Option (List ℕ)) → K → K → List ℕ → Type 0
HoldsPart held old new bytes = (n : ℕ) × (n ≤ length bytes) × Holds held old new (take n bytes)
