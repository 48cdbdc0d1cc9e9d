use Rattle.std.proofs.Common.{◌≤◌, ℕ, List, arith, length, drop, subst, sym, ap, ◌∙◌}
use Rattle.http_in.proofs.HeldFacts.{dropped}
use Rattle.http_in.proofs.held.Held.drop_front.Goals as goal

pub returns : goal.returns
returns c =
    let P : List ℕ → Type 0 = λ l. c.args.count ≤ length l in
    let few = subst P (sym c.self.view_is) c.requires in
    dropped c.self.inside.buffer.items c.self.inside.start c.self.inside.end c.args.count c.self.invariant.0
    (omega (arith, c.self.invariant.1)) few ∙ ap (λ (l : List ℕ). drop c.args.count l) c.self.view_is
