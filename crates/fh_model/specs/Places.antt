-- Places: what of the namespaces a user sees, and the place that a path gives.
use Rattle.std.specs.Prelude.{ℕ, ◌==◌, ◌&&◌, Bool, if◌then◌else◌, is_some, List, [], ◌∷◌, ◌++◌, drop, find, length, Option, None, Some, unwrap_or}
use Rattle.std.specs.List.{filter_map, list_any}
use Rattle.std.specs.Option.{option_map}
use Rattle.fh_model.specs.declared.changes.Item.{Item}
use Rattle.fh_model.specs.declared.changes.Node.{Node}
use Rattle.fh_model.specs.declared.changes.Node.TheVariants.{File, Folder, Mount}
use Rattle.fh_model.specs.declared.names.Name.{Name}
use Rattle.fh_model.specs.declared.paths.PathArg.{PathArg}
use Rattle.fh_model.specs.declared.paths.PathArg.TheVariants.{Names, Id, Rev, Ns}
use Rattle.fh_model.specs.declared.paths.Place.{Place}
use Rattle.fh_model.specs.KeyOrder.{is_under}
use Rattle.fh_model.specs.Keys.{key_of}
use Rattle.fh_model.specs.Nodes.{id_of, is_file, mounted_at, mounts}
use Rattle.fh_model.specs.State.{State, tree_in}
use Rattle.fh_model.specs.Trees.{Tree}

-- ---- what the user with this home sees

-- the names at which a namespace stands in the user's view, where the user sees it: the home is the view, and a
-- mounted namespace stands at its mount point
abbrev pub view_of : State → ℕ → ℕ → Option (List Name)
view_of s home number =
    if number == home then Some [] else option_map (λ item. item.names) (find (λ item. mounts number item.node) (tree_in s home))

-- the numbers of all namespaces that the user sees
abbrev pub seen_from : State → ℕ → List ℕ
seen_from s home = home ∷ filter_map (λ item. mounted_at item.node) (tree_in s home)

-- the names of a place in the user's view
abbrev pub names_in_view : State → ℕ → ℕ → List Name → List Name
names_in_view s home number names = unwrap_or (view_of s home number) [] ++ names

-- ---- names that lead through a mount point or a file

-- the mount point at a proper prefix of the names
abbrev pub mount_above : Tree → List Name → Option Item
mount_above tree names = find (λ item. is_some (mounted_at item.node) && is_under (key_of names) (key_of item.names)) tree

-- a proper prefix of the names is a file
abbrev pub is_below_file : Tree → List Name → Bool
is_below_file tree names = list_any (λ item. is_file item.node && is_under (key_of names) (key_of item.names)) tree

-- names from the root of a namespace that lead over a node there, whose own names are these
abbrev pub place_over : ℕ → List Name → List Name → Node → Place
place_over number names above (File meta) = record { ns = number; names = names }
place_over number names above (Folder id) = record { ns = number; names = names }
place_over number names above (Mount id ns) = record { ns = ns; names = drop (length above) names }

abbrev pub place_behind : ℕ → List Name → Option Item → Place
place_behind number names None = record { ns = number; names = names }
place_behind number names (Some item) = place_over number names item.names item.node

-- the place of names from the root of a namespace: behind a mount point they go on in the mounted namespace
abbrev pub place_from : State → ℕ → List Name → Place
place_from s number names = place_behind number names (mount_above (tree_in s number) names)

-- ---- the place of an item

abbrev pub or_else : Option Place → Option Place → Option Place
or_else None other = other
or_else (Some place) other = Some place

-- where the live item with this id stands, in the first of these namespaces that has it
abbrev pub place_of_id : State → ℕ → List ℕ → Option Place
place_of_id s id [] = None
place_of_id s id (number ∷ numbers) =
    or_else (option_map (λ item. record { ns = number; names = item.names }) (find (λ item. id_of item.node == id) (tree_in s number)))
    (place_of_id s id numbers)

-- ---- the place that a path gives to the user with this home, if it gives one

-- The number 0 is of no item, and a revision is no place.
abbrev pub place_of : State → ℕ → PathArg → Option Place
place_of s home (Names names) = Some (place_from s home names)
place_of s home (Id id) = if id == 0 then None else place_of_id s id (seen_from s home)
place_of s home (Rev rev) = None
place_of s home (Ns number names) = if is_some (view_of s home number) then Some (place_from s number names) else None
