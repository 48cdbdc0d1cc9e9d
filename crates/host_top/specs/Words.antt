-- The words of the command line.
use Rattle.std.specs.Prelude.{ℕ, ◌≡◌, ◌≤◌, ◌==◌, ◌||◌, Bool, codes, List, [], ◌∷◌, length}
use Rattle.std.specs.Char.{is_ascii_alphanumeric}
use Rattle.std.specs.List.{AllPass}
use Rattle.host_top.specs.declared.words.Plan.{Plan}
use Rattle.host_top.specs.declared.words.Plan.TheVariants.{Pipe}

abbrev pub is_token_byte : ℕ → Bool
is_token_byte b = is_ascii_alphanumeric b || (b == 95 || b == 45)

-- 8 to 64 letters, digits, underscores and dashes
pub record IsToken (token : List ℕ) : Type 0 where
  pub some : 8 ≤ length token
  pub few : length token ≤ 64
  pub each : AllPass is_token_byte token

-- pipe --store DIR --admin TOKEN
pub record IsPipe (words : List (List ℕ)) (store admin : List ℕ) : Type 0 where
  pub words_are : words ≡ codes "pipe" ∷ codes "--store" ∷ store ∷ codes "--admin" ∷ admin ∷ []
  pub token : IsToken admin

-- the plan is that of the words
abbrev pub IsPlan : List (List ℕ) → Plan → Type 0
IsPlan words (Pipe store admin) = IsPipe words store admin
