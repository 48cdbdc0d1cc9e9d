-- A reader in the code gives what the format's `read` gives, unless memory runs out.
use Rattle.std.specs.Prelude.{◌≡◌, ℕ, Result, Ok, Err}
use Rattle.byte_formats.specs.declared.stop.Stop.{Stop}
use Rattle.byte_formats.specs.declared.stop.Stop.TheVariants as stop

abbrev pub Fails : {Y : Type 0} → Stop → Result Y ℕ → Type 0
Fails stop.NoMemory read = Unit {0}
Fails (stop.Bad left) read = read ≡ Err left

abbrev pub Gives : {X Y : Type 0} → (X → Y) → Result X Stop → Result Y ℕ → Type 0
Gives view (Ok x) read = read ≡ Ok (view x)
Gives view (Err e) read = Fails e read
