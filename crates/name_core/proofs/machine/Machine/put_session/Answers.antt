use Rattle.std.proofs.Common.{rules, ◌≡◌, ◌++◌, ◌∷◌, [], ap, ◌∙◌, arith}
use Rattle.fh_model.specs.declared.sessions.Session.{Session}
use Rattle.fh_model.specs.Pieces.{last_end, numbered}
use Rattle.name_core.proofs.PieceLemmas.{session_end}
use Rattle.name_core.proofs.machine.Machine.put_session.Goals as goal

pub invariant_of-self : goal.invariant_of-self
invariant_of-self c =
    let sessions : c.push.new.self.items ≡ c.self.inside.sessions.items = search rules in
    record {
      lengths = c.self.invariant.lengths;
      ends = rw sessions c.self.invariant.ends;
    }

pub invariant_of-self-2 : goal.invariant_of-self-2
invariant_of-self-2 c =
    let s = c.self.inside in
    let one = c.in_ok-session.session in
    let sessions : c.push.new.self.items ≡ s.sessions.items ++ one ∷ [] = search rules in
    let holds : one.pieces ≡ numbered 0 c.args.pieces.now = ap (λ (x : Session). x.pieces) c.in_ok-session.ensures ∙ c.requires.pieces in
    let pieces : c.as_slice.result.now ≡ c.args.pieces.now = search rules in
    record {
      lengths = c.self.invariant.lengths;
      ends = rw sessions (omega (arith, c.end_over-self-inside.ensures, ap last_end pieces, c.self.invariant.ends, session_end s.revisions s.sessions.items one c.args.pieces.now holds));
    }
