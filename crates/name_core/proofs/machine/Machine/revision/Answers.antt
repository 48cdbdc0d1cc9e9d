use Rattle.std.proofs.Common.{◌==◌, ◌∙◌, Bool, Some, None}
use Rattle.fh_model.specs.declared.files.Revision.{Revision}
use Rattle.name_core.proofs.ChunkLemmas.{find_parts}
use Rattle.name_core.proofs.machine.Machine.revision.Goals as goal

pub returns-in-Some : goal.returns-in-Some
returns-in-Some c =
    let p : Revision → Bool = λ kept. kept.file.rev == c.args.rev in
    rw (← c.self.view_is)
    (find_parts p c.parts.result.0.now c.parts.result.1.now c.self.inside.revisions (Some c.in-Some.kept.now) c.parts.ensures c.in-Some.ensures)

pub returns-in-None : goal.returns-in-None
returns-in-None c =
    let p : Revision → Bool = λ kept. kept.file.rev == c.args.rev in
    rw (← c.self.view_is)
    (c.revision_in.ensures ∙ find_parts p c.parts.result.0.now c.parts.result.1.now c.self.inside.revisions None c.parts.ensures c.in-None.ensures)
