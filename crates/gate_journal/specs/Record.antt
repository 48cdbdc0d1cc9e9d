-- The bytes that a record keeps.
use Rattle.std.specs.Prelude.{◌≡◌, ℕ, ◌-◌, List, [], ◌∷◌, ◌++◌, length, take, drop}
use Rattle.gate_journal.specs.Slot.{behind_gate}

-- the body in what stands behind a gate and ends in a closed one
abbrev pub body_in : List ℕ → List ℕ
body_in framed = take (length framed - 9) (drop 8 framed)

-- the length, the body and a closed gate
abbrev pub IsFramed : List ℕ → Type 0
IsFramed framed = framed ≡ behind_gate (body_in framed) ++ 0 ∷ []
