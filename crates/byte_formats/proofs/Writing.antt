-- What several writes leave, one after the other. A writer of five fields or more cites `puts5`, with the spellings written out.
use Rattle.std.proofs.Common.{◌≡◌, ℕ, List, ◌++◌, Result, Ok, Err, ap, ◌∙◌, append_assoc}
use Rattle.std.specs.Prelude.{OnOk}

put_on : (o0 o1 o2 a b : List ℕ) → o1 ≡ o0 ++ a → o2 ≡ o1 ++ b → o2 ≡ o0 ++ (a ++ b)
put_on o0 o1 o2 a b e d = d ∙ ap (λ (o : List ℕ). o ++ b) e ∙ append_assoc o0 a b

pub puts5 : {X E : Type 0} (last : Result X E) (o0 o1 o2 o3 o4 o5 a b c d e : List ℕ) → o1 ≡ o0 ++ a → o2 ≡ o1 ++ b → o3 ≡ o2 ++ c → o4 ≡ o3 ++ d
    → OnOk last (o5 ≡ o4 ++ e) → OnOk last (o5 ≡ o0 ++ (a ++ (b ++ (c ++ (d ++ e)))))
puts5 (Ok x) o0 o1 o2 o3 o4 o5 a b c d e h1 h2 h3 h4 h5 =
    put_on o0 o1 o5 a (b ++ (c ++ (d ++ e))) h1 (put_on o1 o2 o5 b (c ++ (d ++ e)) h2 (put_on o2 o3 o5 c (d ++ e) h3 (put_on o3 o4 o5 d e h4 h5)))
puts5 (Err stop) o0 o1 o2 o3 o4 o5 a b c d e h1 h2 h3 h4 h5 = tt
