use Rattle.std.proofs.Common.{rules, ◌≡◌, ◌∙◌, sym, subst, ap, [], List}
use Rattle.fh_model.proofs.KeptFileLaws.{kept_keeps_files}
use Rattle.fh_model.specs.declared.commands.Cmd.{Cmd}
use Rattle.fh_model.specs.History.{Kept, state_of, state_after}
use Rattle.fh_model.specs.KeptFiles.{KeepsFiles}
use Rattle.name_core.proofs.image.Image.forget.Goals as goal

pub invariant_of-result : goal.invariant_of-result
invariant_of-result c =
    let kept : Kept = record { start = c.self.inside.start; history = c.self.inside.history } in
    let begins : c.in_ok-start.start ≡ state_of kept = c.in_ok-start.ensures ∙ c.self.invariant.now in
    let none : c.in_ok-history.history ≡ [] = search rules in
    let same : c.in_ok-machine.machine ≡ c.in_ok-start.start = c.in_ok-machine.ensures ∙ sym c.in_ok-start.ensures in
    record {
      now = same ∙ sym (ap (λ (list : List Cmd). state_after c.in_ok-start.start list) none);
      files = subst KeepsFiles (sym begins) (kept_keeps_files kept c.self.invariant.files);
    }
