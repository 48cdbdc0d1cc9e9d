-- Files are kept versions: each file that a change puts is the one that the state keeps under its rev, with its size.
use Rattle.std.specs.Prelude.{◌≡◌, ℕ, ◌<◌, IsTrue, All, Some}
use Rattle.fh_model.specs.declared.changes.Change.{Change}
use Rattle.fh_model.specs.declared.changes.Change.TheVariants.{Put, Gone}
use Rattle.fh_model.specs.declared.changes.Node.{Node}
use Rattle.fh_model.specs.declared.changes.Node.TheVariants.{File, Folder, Mount}
use Rattle.fh_model.specs.declared.files.FileMeta.{FileMeta}
use Rattle.fh_model.specs.declared.state.Namespace.{Namespace}
use Rattle.fh_model.specs.Files.{has_its_size}
use Rattle.fh_model.specs.State.{State, meta_of}
use Rattle.fh_model.specs.Trees.{Tree}

-- each version that the state keeps is kept by the later one, as it is
abbrev pub VersionsStay : State → State → Type 0
VersionsStay s later = (rev : ℕ) (meta : FileMeta) → meta_of s rev ≡ Some meta → meta_of later rev ≡ Some meta

-- ---- what stands somewhere, or is put there, is no file, or the version that the state keeps under its rev

abbrev pub IsKept : State → FileMeta → Type 0
IsKept s meta = meta_of s meta.rev ≡ Some meta

abbrev pub NodeIsKept : State → Node → Type 0
NodeIsKept s (File meta) = IsKept s meta
NodeIsKept s (Folder id) = Unit {0}
NodeIsKept s (Mount id ns) = Unit {0}

abbrev pub TreeIsKept : State → Tree → Type 0
TreeIsKept s tree = All (λ item. NodeIsKept s item.node) tree

abbrev pub ChangeIsKept : State → Change → Type 0
ChangeIsKept s (Put names node) = NodeIsKept s node
ChangeIsKept s (Gone names) = Unit {0}

abbrev pub SpaceIsKept : State → Namespace → Type 0
SpaceIsKept s space = All (ChangeIsKept s) space.changes

-- ---- a state

-- A tree is made of changes, so the files of all trees are kept where those of all changes are.
pub record KeepsFiles (s : State) : Type 0 where
  pub changes : All (SpaceIsKept s) s.namespaces
  pub sizes : All (λ kept. IsTrue (has_its_size kept.file)) s.revisions
  -- no version has the next rev yet, or one behind it
  pub below : All (λ kept. kept.file.rev < s.next.rev) s.revisions
