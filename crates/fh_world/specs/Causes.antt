-- When a count of faults grows.
use Rattle.std.specs.Prelude.{◌≡◌, ℕ, ◌+◌, ◌-◌, ◌^◌, ◌≤◌, min, Result, OnOk, OnErr}

-- a count rose, or stands at the last value of its type
abbrev pub Rose : ℕ → ℕ → Type 0
Rose before now = min (before + 1) (2 ^ 64 - 1) ≤ now

-- the count doesn't fall, and an error comes only where it rose
pub record HasCause {T E : Type 0} (before now : ℕ) (result : Result T E) : Type 0 where
  pub later : before ≤ now
  pub failed : OnErr result (Rose before now)

-- one call counts one fault at most, and none where it doesn't fail
pub record CountsOnce {T E : Type 0} (before now : ℕ) (result : Result T E) : Type 0 where
  pub kept : OnOk result (now ≡ before)
  pub once : now ≤ before + 1
