-- Tokens put at the end, some after others, and the text of all.
use Rattle.std.proofs.Common.{◌≡◌, ℕ, List, [], ◌∷◌, ◌++◌, append_assoc, ap, ◌∙◌}
use Rattle.json.specs.Print.{print}
use Rattle.json.specs.Token.{Token, key, string}
use Rattle.json.specs.Tree.{json_tokens}
use Rattle.serde_json.proofs.Texts.{print-outline}
use Rattle.serde_json.specs.Data.{Data}
use Rattle.serde_json.specs.Written.{compact_text, outline}
use Rattle.api_json.specs.Tokens.{tokens_of}

joined : (old mid new first second : List Token) → mid ≡ old ++ first → new ≡ mid ++ second → new ≡ old ++ (first ++ second)
joined old mid new first second e f = f ∙ ap (λ tokens. tokens ++ second) e ∙ append_assoc old first second

-- a token, a field that holds a text, and a value, each before what follows
pub token_then : (old mid new : List Token) (token : Token) (rest : List Token)
    → mid ≡ old ++ token ∷ [] → new ≡ mid ++ rest → new ≡ old ++ token ∷ rest
token_then old mid new token rest e f = joined old mid new (token ∷ []) rest e f

pub text_then : (old mid new : List Token) (name text : List ℕ) (rest : List Token)
    → mid ≡ old ++ key name ∷ string text ∷ [] → new ≡ mid ++ rest → new ≡ old ++ key name ∷ string text ∷ rest
text_then old mid new name text rest e f = joined old mid new (key name ∷ string text ∷ []) rest e f

pub value_then : (old mid new : List Token) (value : Data) (rest : List Token)
    → mid ≡ old ++ tokens_of value → new ≡ mid ++ rest → new ≡ old ++ (tokens_of value ++ rest)
value_then old mid new value rest e f = joined old mid new (tokens_of value) rest e f

-- a field whose text is another one's equal
pub told_as : (old new : List Token) (name text other : List ℕ) → new ≡ old ++ key name ∷ string text ∷ [] → text ≡ other
    → new ≡ old ++ key name ∷ string other ∷ []
told_as old new name text other e f = e ∙ ap (λ told. old ++ key name ∷ string told ∷ []) f

pub printed : (before : List ℕ) (tokens : List Token) (value : Data) → before ≡ [] → tokens ≡ json_tokens (outline value)
    → before ++ print tokens ≡ compact_text value
printed before tokens value e f = ap (λ text. text ++ print tokens) e ∙ ap print f ∙ print-outline value
