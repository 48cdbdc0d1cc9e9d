-- Where the argument of a request stands.
use Rattle.std.proofs.Common.{◌≡◌, ℕ, Bool, true, false, List, Option, None, Some, refl, ap}
use Rattle.api_types.specs.declared.route.Route.{Route}
use Rattle.api_types.specs.Routes.{has_content}
use Rattle.session_rules.specs.Decisions.{argued, argued_by}
use Rattle.session_rules.specs.Judged.{IsBody}
use Rattle.session_rules.proofs.Choices.{chosen, passed}

pub argued_in_header : (route : Route) (user : ℕ) (arg : Option (List ℕ)) (content : List ℕ) → has_content route ≡ true
    → argued route user arg content ≡ argued_by route user content arg
argued_in_header route user arg content is = ap (λ argument. argued_by route user content argument) (chosen (has_content route) arg (Some content) is)

pub argued_in_body : (route : Route) (user : ℕ) (arg : Option (List ℕ)) (content : List ℕ) → has_content route ≡ false
    → argued route user arg content ≡ argued_by route user content (Some content)
argued_in_body route user arg content is = ap (λ argument. argued_by route user content argument) (passed (has_content route) arg (Some content) is)

-- a body of a route without content is at hand
pub body_there : (body : Option (List ℕ)) (content : List ℕ) (test : Bool) → IsBody body content → (body ≡ None → test ≡ true) → test ≡ false → Some content ≡ body
body_there None content test is there not = absurd (cc (there refl))
body_there (Some bytes) content test is there not = ap (λ (b : List ℕ). Some b) is
