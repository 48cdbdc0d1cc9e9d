use Rattle.std.proofs.Common.{ℕ, ◌<◌, List, arith, subst, refl}
use Rattle.http_in.specs.Lines.{IsBadLine}
use Rattle.http_in.specs.LineVerdicts.{IsWholeLine}
use Rattle.http_in.proofs.BodyMoves.{large_move, chunk_move, last_move}
use Rattle.http_in.proofs.chunks.at_line.Goals as goal

pub returns-then-size-budget-clause-is : goal.returns-then-size-budget-clause-is
returns-then-size-budget-clause-is c =
    let P : List ℕ → Type 0 = λ b. IsWholeLine b c.in-Whole.len c.in-Whole.size in
    let whole : P c.args.held.now = subst P c.as_slice.ensures.value c.in-Whole.ensures in
    large_move c.args.budget c.args.held.now c.in-Whole.len c.in-Whole.size whole c.if-size-budget.true

pub returns-else-size-eq0-clause-is : goal.returns-else-size-eq0-clause-is
returns-else-size-eq0-clause-is c =
    let P : List ℕ → Type 0 = λ b. IsWholeLine b c.in-Whole.len c.in-Whole.size in
    let whole : P c.args.held.now = subst P c.as_slice.ensures.value c.in-Whole.ensures in
    let some : 0 < c.in-Whole.size = omega arith in
    chunk_move c.args.budget c.args.held.now c.drop_front.new.self c.in-Whole.len c.in-Whole.size whole some c.if-size-budget.false c.drop_front.ensures

pub returns-then-size-eq0-clause-is : goal.returns-then-size-eq0-clause-is
returns-then-size-eq0-clause-is c =
    let P : List ℕ → Type 0 = λ b. IsWholeLine b c.in-Whole.len c.in-Whole.size in
    let whole : P c.args.held.now = subst P c.as_slice.ensures.value c.in-Whole.ensures in
    last_move c.args.budget c.args.held.now c.drop_front.new.self c.in-Whole.len c.in-Whole.size whole c.if-size-eq0.true c.drop_front.ensures

pub returns-in-Bad-clause-is : goal.returns-in-Bad-clause-is
returns-in-Bad-clause-is c = (refl, subst IsBadLine c.as_slice.ensures.value c.in-Bad.ensures)
