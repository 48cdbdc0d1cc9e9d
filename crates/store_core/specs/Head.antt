-- What the bytes of the head file say: the store isn't made yet, another program's file, or the slot that counts.
use Rattle.std.specs.Prelude.{◌≡◌, ◌≢◌, ◌⊎◌, ◌≤◌, ℕ, ◌+◌, ◌==◌, nat_lt, if◌then◌else◌, codes, List, [], ◌∷◌, ◌++◌, get_or, length, Option, None, Some}
use Rattle.fh_world.specs.declared.FileNo.{FileNo}
use Rattle.fh_world.specs.declared.FileNo.TheVariants as file
use Rattle.store_core.specs.declared.head.HeadRead.{HeadRead}
use Rattle.store_core.specs.declared.head.HeadRead.TheVariants.{New, NotAStore, Names}

-- what stands behind the gate, and before the slot's byte
abbrev pub store_text : List ℕ
store_text = codes "filehost store 1"

abbrev pub slot_named : ℕ → FileNo
slot_named byte = if byte == 2 then file.SlotB else file.SlotA

-- the place of the first byte that isn't the text's
abbrev pub first_other : ℕ → List ℕ → List ℕ → Option ℕ
first_other place [] bytes = None
first_other place (code ∷ text) [] = Some place
first_other place (code ∷ text) (byte ∷ bytes) = if byte == code then first_other (place + 1) text bytes else Some place

abbrev pub told_by : Option ℕ → ℕ → HeadRead
told_by None byte = Names (slot_named byte)
told_by (Some place) byte = NotAStore place

-- what eighteen bytes say: nothing where the gate isn't open
abbrev pub gated : List ℕ → HeadRead
gated [] = New
gated (gate ∷ bytes) = if gate == 165 then told_by (first_other 1 store_text bytes) (get_or bytes 16 0) else New

abbrev pub head_in : List ℕ → HeadRead
head_in bytes = if nat_lt 18 (length bytes) then NotAStore 18 else if nat_lt (length bytes) 18 then New else gated bytes

-- the bytes of a head whose gate is closed, but for the gate, and which names slot A
abbrev pub text_of_slot_a : List ℕ
text_of_slot_a = store_text ++ 1 ∷ []

-- a gate is there, and is closed
pub record IsShut (bytes : List ℕ) : Type 0 where
  pub closed : get_or bytes 0 165 ≢ 165
  pub short : length bytes ≤ 18

-- there is no head yet, or it names slot A
abbrev pub IsNewOrNames : List ℕ → Type 0
IsNewOrNames bytes = (head_in bytes ≡ New) ⊎ (head_in bytes ≡ Names file.SlotA)
