-- What an argument says, where its bytes are not none.
use Rattle.std.proofs.Common.{◌≡◌, ℕ, ◌<◌, Bool, true, false, if◌then◌else◌, List, [], ◌∷◌, length, Option, None, Some, refl, ap, ◌∙◌, arith}
use Rattle.std.proofs.lemmas.Str.{IsUtf8-from_is_utf8, is_utf8-from_IsUtf8}
use Rattle.std.specs.Str.{IsUtf8, is_utf8}
use Rattle.serde_json.specs.Data.{Data}
use Rattle.serde_json.specs.Read as json
use Rattle.api_json.specs.Arguments.{argument_of}

written : (bytes : List ℕ) → 0 < length bytes → argument_of bytes ≡ (if is_utf8 bytes then json.read bytes else None)
written [] some = absurd (omega arith)
written (first ∷ bytes) some = refl

neither : (test : Bool) (found : Option Data) → (test ≡ true → found ≡ None) → (if test then found else None) ≡ None
neither true found h = h refl
neither false found h = refl

pub argument_said : (bytes : List ℕ) (d : Data) → 0 < length bytes → IsUtf8 bytes → json.read bytes ≡ Some d → argument_of bytes ≡ Some d
argument_said bytes d some text said =
    written bytes some ∙ ap (λ test. if test then json.read bytes else None) (is_utf8-from_IsUtf8 bytes text) ∙ said

pub argument_unsaid : (bytes : List ℕ) → 0 < length bytes → (IsUtf8 bytes → json.read bytes ≡ None) → argument_of bytes ≡ None
argument_unsaid bytes some unsaid = written bytes some ∙ neither (is_utf8 bytes) (json.read bytes) (λ text. unsaid (IsUtf8-from_is_utf8 bytes text))
