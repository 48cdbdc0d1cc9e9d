use Rattle.std.proofs.Common.{rules, ◌≡◌, false}
use Rattle.std.specs.List.{list_any}
use Rattle.fh_model.specs.State.{space_is_spent}
use Rattle.name_core.proofs.LengthLemmas.{lengths_grown}
use Rattle.name_core.proofs.machine.Machine.with_changes.Goals as goal

pub invariant_of-result : goal.invariant_of-result
invariant_of-result c =
    let spaces = c.deref-2.result.now in
    let some : list_any space_is_spent spaces ≡ false = search rules in
    let revisions : c.in_ok-copy.field-0 ≡ c.self.inside.revisions = search rules in
    let sessions : c.in_ok-sessions.sessions.items ≡ c.self.inside.sessions.items = search rules in
    record {
      lengths = rw c.in_ok-namespaces.ensures (lengths_grown c.args.number c.args.changes.now spaces c.requires.few some);
      ends = rw (revisions, sessions) c.self.invariant.ends;
    }
