-- The verdict on a commit: by what stands at its place, its mode, whether it is strict, and its content.
use Rattle.std.specs.Prelude.{ℕ, ◌==◌, ◌&&◌, not, Bool, if◌then◌else◌, Option, None, Some}
use Rattle.std.specs.Str.{bytes_eq}
use Rattle.fh_model.specs.declared.changes.Item.{Item}
use Rattle.fh_model.specs.declared.changes.Node.{Node}
use Rattle.fh_model.specs.declared.changes.Node.TheVariants as node
use Rattle.fh_model.specs.declared.commands.Mode.{Mode}
use Rattle.fh_model.specs.declared.commands.Mode.TheVariants.{Add, Overwrite, Update}
use Rattle.fh_model.specs.declared.files.FileMeta.{FileMeta}
use Rattle.fh_model.specs.declared.pieces.Bytes32.{Bytes32}
use Rattle.fh_model.specs.declared.verdicts.Kind.TheVariants as kinds
use Rattle.fh_model.specs.declared.verdicts.Verdict.{Verdict}
use Rattle.fh_model.specs.declared.verdicts.Verdict.TheVariants.{Write, Same, Conflict}

-- ---- what stands at a place

pub data Target : Type 0 where
  absent : Target
  -- a folder or a mount point
  folder : Target
  file : FileMeta → Target

abbrev pub target_on : Node → Target
target_on (node.File meta) = file meta
target_on (node.Folder id) = folder
target_on (node.Mount id ns) = folder

abbrev pub target_of : Option Item → Target
target_of None = absent
target_of (Some item) = target_on item.node

-- ---- the table

-- the file has this size and this hash
abbrev pub is_identical : FileMeta → ℕ → Bytes32 → Bool
is_identical meta size hash = (meta.size == size) && bytes_eq meta.hash.bytes hash.bytes

-- Nothing stands there. A strict update asks for the file that it updates.
abbrev pub on_absent : Mode → Bool → Verdict
on_absent Add strict = Write
on_absent Overwrite strict = Write
on_absent (Update rev) strict = if strict then Conflict kinds.File else Write

-- A file with another content stands there. An update replaces the version that it names alone.
abbrev pub on_other : Mode → FileMeta → Verdict
on_other Add meta = Conflict kinds.File
on_other Overwrite meta = Write
on_other (Update rev) meta = if rev == meta.rev then Write else Conflict kinds.File

-- An identical file stays as it is, but under a strict commit it is as any other.
abbrev pub verdict : Target → Mode → Bool → ℕ → Bytes32 → Verdict
verdict absent mode strict size hash = on_absent mode strict
verdict folder mode strict size hash = Conflict kinds.Folder
verdict (file meta) mode strict size hash = if is_identical meta size hash && not strict then Same else on_other mode meta
