use Rattle.std.proofs.Common.{rules, ◌≡◌, IfOk, List, option_copied, subst}
use Rattle.fh_model.specs.declared.names.Name.{Name}
use Rattle.fh_model.specs.Commits.{write}
use Rattle.fh_model.specs.State.{tree_in}
use Rattle.fh_model.specs.Verdicts.{target_of}
use Rattle.fh_model.specs.WritePlaces.{missed_above}
use Rattle.name_core.specs.Committing.{committed_of}
use Rattle.name_core.proofs.machine.Machine.write.Goals as goal

pub returns : goal.returns
returns c =
    let s = c.args.self.now in
    let missed : c.deref.result.now ≡ missed_above (tree_in s c.args.number) c.args.names = search rules in
    subst (λ (places : List (List Name)). IfOk c.write_behind.result (λ done. committed_of done ≡ write s c.args.moment c.args.home c.args.number places c.args.names (target_of (option_copied c.args.item)) c.args.commit.now c.args.pieces.now)) missed c.write_behind.ensures
