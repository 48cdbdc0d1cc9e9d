-- The folded text of a name, by which names are compared.
use Rattle.std.specs.Prelude.{ℕ, List, chars, encode_utf8_all}
use Rattle.caseless.specs.Caseless.{default_case_fold}

-- Unicode's full default case folding of each character in turn
abbrev pub folded : List ℕ → List ℕ
folded text = encode_utf8_all (default_case_fold (chars text))
