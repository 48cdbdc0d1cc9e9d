use Rattle.std.proofs.Common.{◌≡◌, ℕ, List, ◌∷◌, drop, subst}
use Rattle.http_in.proofs.BodyMoves.{crlf_move}
use Rattle.http_in.proofs.chunks.at_end.Goals as goal

pub returns-in-Whole-clause-is : goal.returns-in-Whole-clause-is
returns-in-Whole-clause-is c =
    let P : List ℕ → Type 0 = λ b. b ≡ 13 ∷ 10 ∷ drop 2 b in
    let whole : P c.args.held.now = subst P c.as_slice.ensures.value c.in-Whole.ensures in
    crlf_move c.args.budget c.args.held.now c.drop_front.new.self whole c.drop_front.ensures
