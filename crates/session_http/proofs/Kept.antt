-- What is kept of a body that has not begun.
use Rattle.std.proofs.Common.{◌≡◌, ⊎_elim, ℕ, ◌+◌, ◌≤◌, Bool, false, List, [], ◌++◌, length, refl, sym, ap, subst, arith, length-append}
use Rattle.fh_model.specs.declared.limits.TheConstants.{BLOCK_BYTES}
use Rattle.session_http.specs.Bodies.{GoneOnlyFor, Holds, LosesOnly}
use Rattle.session_http.specs.declared.bodies.Body.{Body}
use Rattle.session_http.specs.declared.bodies.Body.TheVariants.{Whole, Large, Gone}

-- all of it, where the buffer is empty
pub holds_whole : (body : Body) (kept : List ℕ) → body ≡ Whole → kept ≡ [] → Holds body kept []
holds_whole body kept is empty = subst (λ (b : Body). Holds b kept []) (sym is) empty

pub holds_gone : (body : Body) (kept : List ℕ) → body ≡ Gone → Holds body kept []
holds_gone body kept is = subst (λ (b : Body). Holds b kept []) (sym is) tt

pub few_none : (kept : List ℕ) → kept ≡ [] → length kept ≤ BLOCK_BYTES
few_none kept empty = omega (arith, ap length empty)

-- it is not gone, or was not to be kept
pub gone_whole : (keeps : Bool) (room : ℕ) (body : Body) → body ≡ Whole → GoneOnlyFor keeps room body []
gone_whole keeps room body is = subst (λ (b : Body). GoneOnlyFor keeps room b []) (sym is) tt

pub gone_unkept : (keeps : Bool) (room : ℕ) (body : Body) → body ≡ Gone → keeps ≡ false → GoneOnlyFor keeps room body []
gone_unkept keeps room body is not = subst (λ (b : Body). GoneOnlyFor keeps room b []) (sym is) (λ kept. absurd (cc))

-- and by one portion more
pub gone_on : (keeps : Bool) (room now : ℕ) (before after : Body) (kept content portion : List ℕ) → room ≤ now → Holds before kept content
    → GoneOnlyFor keeps room before content → LosesOnly before now (length kept + length portion) after → GoneOnlyFor keeps room after (content ++ portion)
gone_on keeps room now before Whole kept content portion grown holds gone loses = tt
gone_on keeps room now before Large kept content portion grown holds gone loses = tt
gone_on keeps room now before Gone kept content portion grown holds gone loses = λ is.
    ⊎_elim
    (λ was. let gone_before : GoneOnlyFor keeps room Gone content = subst (λ (b : Body). GoneOnlyFor keeps room b content) was gone in
    omega (arith, gone_before is, length-append content portion))
    (λ was. let same : kept ≡ content = subst (λ (b : Body). Holds b kept content) was.0 holds in
    omega (arith, grown, was.1, ap length same, length-append content portion))
    (loses refl)
