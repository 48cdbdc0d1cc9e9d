-- Where a path writes: the place, its names as the tree shows them, and the folders that are missed above it.
use Rattle.std.specs.Prelude.{ℕ, ◌-◌, is_none, List, [], ◌∷◌, ◌++◌, filter, length, map, slice_get, take, Option, None, Some, unwrap_or}
use Rattle.std.specs.List.{range_with_len}
use Rattle.fh_model.specs.declared.changes.Item.{Item}
use Rattle.fh_model.specs.declared.names.Name.{Name}
use Rattle.fh_model.specs.declared.paths.PathArg.{PathArg}
use Rattle.fh_model.specs.declared.paths.PathArg.TheVariants.{Names, Id, Rev, Ns}
use Rattle.fh_model.specs.declared.paths.Place.{Place}
use Rattle.fh_model.specs.Keys.{key_of}
use Rattle.fh_model.specs.Places.{place_of}
use Rattle.fh_model.specs.State.{State}
use Rattle.fh_model.specs.Trees.{Tree, item_at}

-- the place that a path gives for writing, if it gives one: the root of the view, which is the empty text, is none
abbrev pub write_place : State → ℕ → Option PathArg → Option Place
write_place s home None = None
write_place s home (Some (Names [])) = None
write_place s home (Some (Names (name ∷ names))) = place_of s home (Names (name ∷ names))
write_place s home (Some (Id id)) = place_of s home (Id id)
write_place s home (Some (Rev rev)) = place_of s home (Rev rev)
write_place s home (Some (Ns number names)) = place_of s home (Ns number names)

-- a name, or the last name of the item that stands there
abbrev pub name_at : Option Item → Name → Name
name_at None name = name
name_at (Some item) name = unwrap_or (slice_get item.names (length item.names - 1)) name

-- The names behind those in front, each as the tree shows it where the tree holds it, and else as it was asked for.
abbrev pub shown_behind : Tree → List Name → List Name → List Name
shown_behind tree front [] = []
shown_behind tree front (name ∷ names) =
    name_at (item_at tree (key_of (front ++ name ∷ []))) name ∷ shown_behind tree (front ++ name ∷ []) names

abbrev pub shown_in : Tree → List Name → List Name
shown_in tree names = shown_behind tree [] names

-- the proper prefixes of the names at which the tree holds nothing, from the top
abbrev pub missed_above : Tree → List Name → List (List Name)
missed_above tree names =
    filter (λ prefix. is_none (item_at tree (key_of prefix))) (map (λ count. take count names) (range_with_len 1 (length names - 1)))
