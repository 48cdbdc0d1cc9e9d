use Rattle.std.proofs.Common.{rules, ◌≡◌, ◌∙◌, sym, subst, ap, [], List, Ok}
use Rattle.fh_model.proofs.KeptFileLaws.{rows_keep_files}
use Rattle.fh_model.specs.declared.commands.Cmd.{Cmd}
use Rattle.fh_model.specs.History.{state_after}
use Rattle.fh_model.specs.KeptFiles.{KeepsFiles}
use Rattle.fh_model.specs.Rows.{state_of_rows}
use Rattle.fh_model.specs.State.{State}
use Rattle.name_core.proofs.image.Image.from_rows.Goals as goal

pub invariant_of-result : goal.invariant_of-result
invariant_of-result c =
    let read : State = c.in_ok-from_rows.field-0 in
    let is : state_of_rows c.args.rows.now ≡ Ok read = search rules in
    let machine : c.in_ok-machine.machine ≡ read = search rules in
    let start : c.in_ok-start.start ≡ c.in_ok-machine.machine = search rules in
    let none : c.in_ok-history.history ≡ [] = search rules in
    record {
      now = sym start ∙ sym (ap (λ (list : List Cmd). state_after c.in_ok-start.start list) none);
      files = subst KeepsFiles (sym (start ∙ machine)) (rows_keep_files c.args.rows.now read is);
    }
