-- What bytes begin with, said of longer ones.
use Rattle.std.proofs.Common.{ℕ, List, [], ◌∷◌, ◌++◌}
use Rattle.http_in.specs.Bodies.{done}
use Rattle.http_in.specs.Requests.{Request, BeginsWithBody, Requests, more, Final}
use Rattle.http_in.proofs.MoreBytes.{done_request}
use Rattle.session_http.specs.Begun.{Begins, stay, step}

pub begins_more : (bytes rest m : List ℕ) (rs : List Request) → Begins bytes rs rest → Begins (bytes ++ m) rs (rest ++ m)
begins_more _ _ m _ (stay bytes) = stay (bytes ++ m)
begins_more _ _ m _ (step bytes after rest r rs begins later) =
    step (bytes ++ m) (after ++ m) (rest ++ m) r rs (done_request bytes m after r begins) (begins_more after rest m rs later)

-- more requests behind these
pub begins_on : (bytes rest after : List ℕ) (rs qs : List Request) → Begins bytes rs rest → Begins rest qs after → Begins bytes (rs ++ qs) after
begins_on _ _ after _ qs (stay bytes) later = later
begins_on _ _ after _ qs (step bytes mid rest r rs begins next) later =
    step bytes mid after r (rs ++ qs) begins (begins_on mid rest after rs qs next later)

pub begins_one : (bytes after : List ℕ) (r : Request) → BeginsWithBody bytes r (done after) → Begins bytes (r ∷ []) after
begins_one bytes after r begins = step bytes after after r [] begins (stay after)

-- what the rest splits into follows the requests
pub begins_requests : (bytes rest left : List ℕ) (rs qs : List Request) (e : Final) → Begins bytes rs rest → Requests rest qs left e
    → Requests bytes (rs ++ qs) left e
begins_requests _ _ left _ qs e (stay bytes) all = all
begins_requests _ _ left _ qs e (step bytes after rest r rs begins later) all =
    more bytes after left r (rs ++ qs) e begins (begins_requests after rest left rs qs e later all)
