-- How a folder is made.
use Rattle.std.specs.Prelude.{ℕ, ◌+◌, codes, true, if◌then◌else◌, List, [], ◌∷◌, ◌++◌, length, map, Option, None, Some}
use Rattle.fh_model.specs.declared.changes.Change.{Change}
use Rattle.fh_model.specs.declared.changes.Change.TheVariants.{Put}
use Rattle.fh_model.specs.declared.changes.Item.{Item}
use Rattle.fh_model.specs.declared.changes.Node.TheVariants as node
use Rattle.fh_model.specs.declared.names.Name.{Name}
use Rattle.fh_model.specs.declared.paths.Place.{Place}
use Rattle.fh_model.specs.declared.replies.Entry.TheVariants as entry
use Rattle.fh_model.specs.declared.replies.Reply.TheVariants as reply
use Rattle.fh_model.specs.declared.state.User.{User}
use Rattle.fh_model.specs.Keys.{key_of}
use Rattle.fh_model.specs.Nodes.{kind_tag}
use Rattle.fh_model.specs.PathRule.{path_of}
use Rattle.fh_model.specs.Places.{is_below_file, names_in_view}
use Rattle.fh_model.specs.State.{State, tree_in, grown}
use Rattle.fh_model.specs.Stepped.{Stepped, conflict, refused}
use Rattle.fh_model.specs.Trees.{item_at}
use Rattle.fh_model.specs.WritePlaces.{write_place, shown_in, missed_above}

-- a folder at each of these names, with the ids from this one on
abbrev pub folders : ℕ → List (List Name) → List Change
folders id [] = []
folders id (names ∷ others) = Put names (node.Folder id) ∷ folders (id + 1) others

-- folders at the names that are missed, and then one at the names, in a namespace of the view of the user with this home
abbrev pub with_folders : State → ℕ → ℕ → ℕ → List (List Name) → List Name → Stepped
with_folders s moment home number missed names = record {
  state = record s {
    namespaces = map (grown number (folders s.next.id (missed ++ names ∷ []))) s.namespaces;
    next = record s.next { id = s.next.id + length missed + 1 };
    moment = moment;
  };
  reply = reply.Entry (entry.Folder (names_in_view s home number names) (s.next.id + length missed));
  enters = true;
}

-- a new folder at the names, and those above it that are missed
abbrev pub with_folder : State → ℕ → ℕ → ℕ → List Name → Stepped
with_folder s moment home number names = with_folders s moment home number (missed_above (tree_in s number) names) names

-- a folder where nothing stands
abbrev pub unless_taken : State → ℕ → ℕ → ℕ → List Name → Option Item → Stepped
unless_taken s moment home number names None = with_folder s moment home number (shown_in (tree_in s number) names)
unless_taken s moment home number names (Some item) = conflict s (kind_tag item.node)

-- a folder at names from the root of a namespace, which stands there already
abbrev pub folder_in : State → ℕ → ℕ → ℕ → List Name → Stepped
folder_in s moment home number [] = conflict s (codes "folder")
folder_in s moment home number (name ∷ names) =
    if is_below_file (tree_in s number) (name ∷ names) then conflict s (codes "file_ancestor")
    else unless_taken s moment home number (name ∷ names) (item_at (tree_in s number) (key_of (name ∷ names)))

abbrev pub folder_at : State → ℕ → ℕ → Option Place → Stepped
folder_at s moment home None = refused s (codes "path" ∷ codes "malformed_path" ∷ [])
folder_at s moment home (Some place) = folder_in s moment home place.ns place.names

abbrev pub make_folder : State → ℕ → Option User → List ℕ → Stepped
make_folder s moment None path = refused s (codes "user" ∷ codes "not_found" ∷ [])
make_folder s moment (Some user) path = folder_at s moment user.home (write_place s user.home (path_of path))
