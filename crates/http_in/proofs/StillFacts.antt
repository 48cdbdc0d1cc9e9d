-- Where the bytes at hand say how a body ends, no more are asked for.
use Rattle.std.proofs.Common.{◌≡◌, ℕ, ◌<◌, List, [], ◌∷◌, length, arith, refl}
use Rattle.std.specs.Prelude.{None}
use Rattle.http_in.specs.declared.place.Place.{Place}
use Rattle.http_in.specs.Bodies.{cut, BodyStep, Runs, here, EndsAt, BodyFrom}
use Rattle.http_in.specs.BodySteps.{EndsHere}
use Rattle.http_in.specs.Advance.{due}
use Rattle.http_in.specs.Reading.{IsStillAt}
use Rattle.http_in.proofs.BodyRuns.{runs_on, one_step, due_cut}
use Rattle.http_in.proofs.OneBody.{one_body_holds}

pub still_none : {S : Type 0} (s : S) (held : List ℕ) (place : Place) → IsStillAt s s held held place place
still_none s held place = record { source_is = refl; runs = here place held }

pub still_moves : {S : Type 0} (old now : S) (held kept new : List ℕ) (place stand next : Place) → IsStillAt old now held kept place stand
    → BodyStep stand kept None next new → IsStillAt old now held new place next
still_moves old now held kept new place stand next still step = record {
  source_is = still.source_is;
  runs = runs_on place stand next held kept new [] [] still.runs (one_step stand next kept new step);
}

-- bytes are wanted only where those at hand don't say it
pub not_cut : (place stand : Place) (held kept : List ℕ) → EndsHere place held → Runs place held [] stand kept → EndsAt stand kept cut → ⊥
not_cut place stand held kept ends runs is_cut =
    let body : BodyFrom place held [] cut = record { last = stand; left = kept; runs = runs; ends = is_cut } in
    ends.2 (one_body_holds place held [] [] ends.0 cut ends.1 body).1

-- and content comes from the source only where no byte is at hand
pub given_still : {S : Type 0} (now later : S) (place stand : Place) (held kept : List ℕ) → EndsHere place held
    → Runs place held [] stand kept → 0 < due stand → (0 < length kept → later ≡ now) → later ≡ now
given_still now later place stand held [] ends runs some still = absurd (not_cut place stand held [] ends runs (due_cut stand some))
given_still now later place stand held (b ∷ kept) ends runs some still = still (omega arith)
