-- Formats: how the values of a type are spelled as bytes, and how formats are made of others.
use Rattle.std.specs.Prelude.{◌≡◌, ℕ, zero, suc, Bool, true, false, List, [], ◌∷◌, ◌++◌, length, Result, Ok, Err, ◌==◌, if◌then◌else◌}
use Rattle.std.specs.List.{flat_map, AllByRecursion}

-- A step that may fail, and the next one.
infixl 10 ◌>>=◌
abbrev pub ◌>>=◌ : {A B : Type 0} → Result A ℕ → (A → Result B ℕ) → Result B ℕ
(Ok x) >>= f = f x
(Err e) >>= f = Err e

-- A value and the bytes after it, or how many bytes are left from the first bad one on.
abbrev pub Reading : Type 0 → Type 0
Reading A = Result (A × List ℕ) ℕ

-- What a spelling is, `spell` and `fits` say. `read` is how it is read from the front of bytes, and proofs/ has the law that
-- it gives back just what is spelled.
pub record Format (A : Type 0) : Type 1 where
  -- the spelling of a value
  pub spell : A → List ℕ
  -- which values have a spelling
  pub fits : A → Type 0
  pub read : List ℕ → Reading A
  -- one value that has a spelling
  pub some : A

-- one field, and then another whose format may depend on the first
abbrev pub follows : {A B : Type 0} → Format A → (A → Format B) → Format (A × B)
follows f g = record {
  spell = λ x. f.spell x.0 ++ (g x.0).spell x.1;
  fits = λ x. f.fits x.0 × (g x.0).fits x.1;
  read = λ bytes. f.read bytes >>= λ x. (g x.0).read x.1 >>= λ y. Ok ((x.0, y.0), y.1);
  some = (f.some, (g f.some).some);
}

abbrev pub both : {A B : Type 0} → Format A → Format B → Format (A × B)
both f g = follows f (λ _. g)

-- the values that `to` makes of those of f
abbrev pub made : {A B : Type 0} → (A → B) → (B → A) → Format A → Format B
made to from f = record {
  spell = λ b. f.spell (from b);
  fits = λ b. f.fits (from b) × (to (from b) ≡ b);
  read = λ bytes. f.read bytes >>= λ x. Ok (to x.0, x.1);
  some = to f.some;
}

-- so many of one format, one after the other
abbrev pub times_at : {A : Type 0} → (List ℕ → Reading A) → ℕ → List ℕ → Reading (List A)
times_at read zero bytes = Ok ([], bytes)
times_at read (suc n) bytes = read bytes >>= λ x. times_at read n x.1 >>= λ xs. Ok (x.0 ∷ xs.0, xs.1)

abbrev pub copies : {A : Type 0} → ℕ → A → List A
copies zero a = []
copies (suc n) a = a ∷ copies n a

abbrev pub times : {A : Type 0} → Format A → ℕ → Format (List A)
times f n = record {
  spell = flat_map f.spell;
  fits = λ xs. (length xs ≡ n) × AllByRecursion f.fits xs;
  read = times_at f.read n;
  some = copies n f.some;
}

-- a byte that names the kind, and the fields of that kind
abbrev pub only_kind_at : {A : Type 0} → ℕ → (List ℕ → Reading A) → List ℕ → Reading A
only_kind_at k read [] = Err 0
only_kind_at k read (b ∷ rest) = if b == k then read rest else Err (length (b ∷ rest))

abbrev pub only_kind : {A : Type 0} → ℕ → Format A → Format A
only_kind k f = record {
  spell = λ a. k ∷ f.spell a;
  fits = f.fits;
  read = only_kind_at k f.read;
  some = f.some;
}

abbrev pub or_kind_at : {A : Type 0} → ℕ → (List ℕ → Reading A) → (List ℕ → Reading A) → List ℕ → Reading A
or_kind_at k read others [] = Err 0
or_kind_at k read others (b ∷ rest) = if b == k then read rest else others (b ∷ rest)

-- one of two facts
abbrev pub Choose : Bool → Type 0 → Type 0 → Type 0
Choose true P Q = P
Choose false P Q = Q

-- this kind, or one of the others
abbrev pub or_kind : {A : Type 0} → (A → ℕ) → ℕ → Format A → Format A → Format A
or_kind tag k f others = record {
  spell = λ a. if tag a == k then k ∷ f.spell a else others.spell a;
  fits = λ a. Choose (tag a == k) (f.fits a) (others.fits a);
  read = or_kind_at k f.read others.read;
  some = f.some;
}

-- one byte that passes a test
abbrev pub byte_where_at : (ℕ → Bool) → List ℕ → Reading ℕ
byte_where_at test [] = Err 0
byte_where_at test (b ∷ rest) = if test b then Ok (b, rest) else Err (length (b ∷ rest))

abbrev pub byte_where : (ℕ → Bool) → ℕ → Format ℕ
byte_where test some = record { spell = λ b. b ∷ []; fits = λ b. test b ≡ true; read = byte_where_at test; some = some }

-- one of two formats
abbrev pub pick : {A : Type 0} → Bool → Format A → Format A → Format A
pick true f g = f
pick false f g = g
