use Rattle.std.proofs.Common.{rules, ◌≡◌, ◌++◌, ◌∷◌, [], ap, arith}
use Rattle.fh_model.specs.Pieces.{last_end}
use Rattle.name_core.proofs.PieceLemmas.{revision_end}
use Rattle.name_core.proofs.machine.Machine.put_revision.Goals as goal

pub invariant_of-self : goal.invariant_of-self
invariant_of-self c =
    let s = c.self.inside in
    let one = c.args.revision in
    let pieces : c.as_slice.result.now ≡ one.file.pieces = search rules in
    let kept : c.in_ok-revision.revision ≡ one = search rules in
    let revisions : c.in_ok-self-inside.field-0 ≡ s.revisions ++ one ∷ [] = search rules in
    record {
      lengths = c.self.invariant.lengths;
      ends = rw revisions (omega (arith, c.end_over-end.ensures, ap last_end pieces, c.self.invariant.ends, revision_end s.revisions s.sessions.items one));
    }
