-- What reading the parts of a head comes to.
use Rattle.std.specs.Prelude.{◌≡◌, ℕ, List, None}
use Rattle.http_in.specs.declared.parts.Parts.{Parts}
use Rattle.http_in.specs.declared.parts.Parts.TheVariants.{Whole, Misframed, NoMemory}
use Rattle.http_in.specs.Framing.{framing_in, StatesFraming}
use Rattle.http_in.specs.Parts.{IsPartsOf}

-- the parts of the head, unless it frames no body, or it frames one and memory is out
abbrev pub IsPartsRead : List ℕ → List ℕ → ℕ → List (List ℕ × List ℕ) → Parts → Type 0
IsPartsRead method target minor fields (Whole head) = IsPartsOf method target minor fields head
IsPartsRead method target minor fields Misframed = framing_in fields ≡ None
IsPartsRead method target minor fields NoMemory = StatesFraming fields
