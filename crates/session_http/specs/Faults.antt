-- What becomes of a count of faults in a call.
use Rattle.std.specs.Prelude.{◌≡◌, ◌≢◌, ℕ, Result, Ok, Err}

-- it stands as it was, unless this fault is answered
abbrev pub ChangesOnlyAt : {T E : Type 0} → Result T E → E → ℕ → ℕ → Type 0
ChangesOnlyAt (Ok value) fault before now = now ≡ before
ChangesOnlyAt (Err other) fault before now = other ≢ fault → now ≡ before
