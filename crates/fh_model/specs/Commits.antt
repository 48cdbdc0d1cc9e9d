-- What a commit of pieces does at its path: it is refused, or the file is there.
use Rattle.std.specs.Prelude.{ℕ, ◌+◌, codes, if◌then◌else◌, List, [], ◌∷◌, ◌++◌, length, map, Option, None, Some}
use Rattle.fh_model.specs.declared.changes.Change.TheVariants.{Put}
use Rattle.fh_model.specs.declared.changes.Node.TheVariants as node
use Rattle.fh_model.specs.declared.commands.Commit.{Commit}
use Rattle.fh_model.specs.declared.files.FileMeta.{FileMeta}
use Rattle.fh_model.specs.declared.names.Name.{Name}
use Rattle.fh_model.specs.declared.paths.Place.{Place}
use Rattle.fh_model.specs.declared.pieces.Piece.{Piece}
use Rattle.fh_model.specs.declared.replies.Entry.{Entry}
use Rattle.fh_model.specs.declared.replies.Entry.TheVariants as entry
use Rattle.fh_model.specs.declared.verdicts.Kind.{Kind}
use Rattle.fh_model.specs.declared.verdicts.Kind.TheVariants as kinds
use Rattle.fh_model.specs.declared.verdicts.Verdict.{Verdict}
use Rattle.fh_model.specs.declared.verdicts.Verdict.TheVariants.{Write, Same, Conflict}
use Rattle.fh_model.specs.Content.{size_of}
use Rattle.fh_model.specs.Files.{file_of, hash_on, id_over, next_over}
use Rattle.fh_model.specs.Folders.{folders}
use Rattle.fh_model.specs.Keys.{key_of}
use Rattle.fh_model.specs.PathRule.{path_of}
use Rattle.fh_model.specs.Places.{is_below_file, names_in_view}
use Rattle.fh_model.specs.State.{State, grown, tree_in}
use Rattle.fh_model.specs.Trees.{item_at}
use Rattle.fh_model.specs.Verdicts.{Target, absent, folder, file, target_of, verdict}
use Rattle.fh_model.specs.WritePlaces.{missed_above, shown_in, write_place}

pub data Committed : Type 0 where
  -- the tags of the refusal
  turned_down : List (List ℕ) → Committed
  -- the state with the file, and the entry of the file
  written : State → Entry → Committed

abbrev pub clash : List ℕ → Committed
clash tag = turned_down (codes "path" ∷ codes "conflict" ∷ tag ∷ [])

abbrev pub tag_of : Kind → List ℕ
tag_of kinds.File = codes "file"
tag_of kinds.Folder = codes "folder"

-- Folders at the names that are missed, and then the file at the names, which is kept under its rev as well. Behind it
-- the next id is this one.
abbrev pub with_file : State → ℕ → ℕ → ℕ → List (List Name) → List Name → FileMeta → ℕ → Committed
with_file s moment home number missed names meta next = written
    (record s {
      namespaces = map (grown number (folders s.next.id missed ++ Put names (node.File meta) ∷ [])) s.namespaces;
      revisions = s.revisions ++ record { ns = number; names = names; file = meta } ∷ [];
      next = record s.next { rev = s.next.rev + 1; id = next };
      moment = moment;
    })
    (entry.File (names_in_view s home number names) meta)

-- the file behind the folders that are missed above it, with the next rev
abbrev pub write : State → ℕ → ℕ → ℕ → List (List Name) → List Name → Target → Commit → List Piece → Committed
write s moment home number missed names target commit pieces =
    with_file s moment home number missed names
    (file_of (id_over target (s.next.id + length missed)) s.next.rev moment commit pieces)
    (next_over target (s.next.id + length missed))

-- the file that stands there, as it is
abbrev pub keep : State → ℕ → ℕ → ℕ → List Name → FileMeta → Committed
keep s moment home number names meta = written (record s { moment = moment }) (entry.File (names_in_view s home number names) meta)

-- Same is the verdict on a file alone.
abbrev pub judged : State → ℕ → ℕ → ℕ → List Name → Target → Commit → List Piece → Verdict → Committed
judged s moment home number names target commit pieces Write =
    write s moment home number (missed_above (tree_in s number) names) names target commit pieces
judged s moment home number names absent commit pieces Same = clash (codes "file")
judged s moment home number names folder commit pieces Same = clash (codes "folder")
judged s moment home number names (file meta) commit pieces Same = keep s moment home number names meta
judged s moment home number names target commit pieces (Conflict kind) = clash (tag_of kind)

-- over what stands at the names, which are shown as the tree shows them
abbrev pub commit_over : State → ℕ → ℕ → ℕ → List Name → Target → Commit → List Piece → Committed
commit_over s moment home number names target commit pieces =
    judged s moment home number names target commit pieces
    (verdict target commit.mode commit.strict (size_of pieces) (hash_on pieces))

-- at names from the root of a namespace, which itself is a folder
abbrev pub commit_in : State → ℕ → ℕ → ℕ → List Name → Commit → List Piece → Committed
commit_in s moment home number [] commit pieces = clash (codes "folder")
commit_in s moment home number (name ∷ names) commit pieces =
    if is_below_file (tree_in s number) (name ∷ names) then clash (codes "file_ancestor")
    else commit_over s moment home number (shown_in (tree_in s number) (name ∷ names))
    (target_of (item_at (tree_in s number) (key_of (name ∷ names)))) commit pieces

abbrev pub commit_at : State → ℕ → ℕ → Option Place → Commit → List Piece → Committed
commit_at s moment home None commit pieces = turned_down (codes "path" ∷ codes "malformed_path" ∷ [])
commit_at s moment home (Some place) commit pieces = commit_in s moment home place.ns place.names commit pieces

-- for the user with this home
abbrev pub commit_for : State → ℕ → ℕ → Commit → List Piece → Committed
commit_for s moment home commit pieces = commit_at s moment home (write_place s home (path_of commit.path)) commit pieces
