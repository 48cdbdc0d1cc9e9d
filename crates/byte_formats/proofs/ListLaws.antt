-- The laws of what stands behind its length.
use Rattle.std.proofs.Common.{◌≡◌, ℕ, List, length, ap}
use Rattle.byte_formats.specs.Formats.{Format, follows, times}
use Rattle.byte_formats.specs.Fields.{n32}
use Rattle.byte_formats.specs.Texts.{characters}
use Rattle.byte_formats.specs.Lists.{with_length, text, many}
use Rattle.byte_formats.proofs.Laws.{Lawful, follows_lawful, made_lawful, times_lawful}
use Rattle.byte_formats.proofs.FieldLaws.{n32_lawful}
use Rattle.byte_formats.proofs.Utf8.{characters_lawful}

pub with_length_lawful : {A : Type 0} (f : ℕ → Format (List A)) → ((n : ℕ) → Lawful (f n)) → ((n : ℕ) (xs : List A) → (f n).fits xs → length xs ≡ n) → Lawful (with_length f)
with_length_lawful {A = A} f F len =
    made_lawful (λ (x : ℕ × List A). x.1) (λ xs. (length xs, xs)) (follows n32 f)
    (λ a h. ap (λ (k : ℕ). (k, a.1)) (len a.0 a.1 h.1))
    (follows_lawful n32 f n32_lawful (λ n _. F n))

pub many_lawful : {A : Type 0} (f : Format A) → Lawful f → Lawful (many f)
many_lawful f F = with_length_lawful (times f) (times_lawful f F) (λ n xs h. h.0)

pub text_lawful : Lawful text
text_lawful = with_length_lawful characters characters_lawful (λ n xs h. h.0)
