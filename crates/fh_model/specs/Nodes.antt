-- What a node says of itself.
use Rattle.std.specs.Prelude.{ℕ, ◌==◌, Bool, true, false, List, Option, None, Some, codes}
use Rattle.fh_model.specs.declared.changes.Node.{Node}
use Rattle.fh_model.specs.declared.changes.Node.TheVariants.{File, Folder, Mount}

abbrev pub id_of : Node → ℕ
id_of (File meta) = meta.id
id_of (Folder id) = id
id_of (Mount id ns) = id

-- the namespace that is mounted there
abbrev pub mounted_at : Node → Option ℕ
mounted_at (File meta) = None
mounted_at (Folder id) = None
mounted_at (Mount id ns) = Some ns

abbrev pub mounts : ℕ → Node → Bool
mounts number (File meta) = false
mounts number (Folder id) = false
mounts number (Mount id ns) = ns == number

abbrev pub is_file : Node → Bool
is_file (File meta) = true
is_file (Folder id) = false
is_file (Mount id ns) = false

-- the last tag of the refusal to write where it stands
abbrev pub kind_tag : Node → List ℕ
kind_tag (File meta) = codes "file"
kind_tag (Folder id) = codes "folder"
kind_tag (Mount id ns) = codes "folder"
