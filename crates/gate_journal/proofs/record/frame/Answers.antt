use Rattle.std.proofs.Common.{◌≡◌, [], ◌∷◌, ◌++◌, rules}
use Rattle.gate_journal.specs.Slot.{behind_gate}
use Rattle.gate_journal.proofs.RecordLemmas.{framed_from}
use Rattle.gate_journal.proofs.record.frame.Goals as goal

pub invariant_of-result : goal.invariant_of-result
unfolding behind_gate
invariant_of-result c =
    let is : c.push.new.self.items ≡ behind_gate c.args.body.now ++ 0 ∷ [] = search rules in
    (framed_from c.args.body.now c.push.new.self.items is).1
