-- The range of a clock.
use Rattle.std.specs.Prelude.{ℕ}

-- the second of 9999-12-31T23:59:59Z
abbrev pub last_second : ℕ
last_second = 253402300799
