use Rattle.std.proofs.Common.{rules, ◌≡◌, IfOk, IsTrue, Some}
use Rattle.std.proofs.lemmas.Result.{IfOk-weaker}
use Rattle.fh_model.proofs.FoundFileLaws.{found_file}
use Rattle.fh_model.proofs.KeptFileLaws.{kept_keeps_files}
use Rattle.fh_model.specs.declared.changes.Node.TheVariants.{File}
use Rattle.fh_model.specs.declared.files.FileMeta.{FileMeta}
use Rattle.fh_model.specs.declared.paths.Found.{Found}
use Rattle.fh_model.specs.Files.{has_its_size}
use Rattle.fh_model.specs.History.{Kept, state_of}
use Rattle.fh_model.specs.KeptFiles.{IsKept, KeepsFiles}
use Rattle.fh_model.specs.Resolve.{resolve, found}
use Rattle.name_core.proofs.image.Image.resolve.Goals as goal

pub returns-clause-file : goal.returns-clause-file
returns-clause-file c =
    let s = state_of c.args.self.now in
    let user = c.args.user in
    let path = c.args.path.now in
    let kept : Kept = record { start = c.self.inside.start; history = c.self.inside.history } in
    let keeps : KeepsFiles s = rw (← c.self.view_is) (kept_keeps_files kept c.self.invariant.files) in
    let is : IfOk c.resolve.result (λ there. resolve s user path ≡ found there) = search rules in
    IfOk-weaker c.resolve.result (λ there. resolve s user path ≡ found there)
    (λ (there : Found). (meta : FileMeta) → there.node ≡ Some (File meta) → IsKept s meta × IsTrue (has_its_size meta))
    (λ there at meta node. found_file s user path there meta keeps at node) is
