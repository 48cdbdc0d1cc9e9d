-- What a user's path leads to.
use Rattle.std.specs.Prelude.{ℕ, ◌==◌, if◌then◌else◌, is_some, List, [], ◌∷◌, Option, None, Some}
use Rattle.fh_model.specs.declared.changes.Item.{Item}
use Rattle.fh_model.specs.declared.changes.Node.TheVariants.{File}
use Rattle.fh_model.specs.declared.files.Revision.{Revision}
use Rattle.fh_model.specs.declared.names.Name.{Name}
use Rattle.fh_model.specs.declared.paths.Found.{Found}
use Rattle.fh_model.specs.declared.paths.PathArg.{PathArg}
use Rattle.fh_model.specs.declared.paths.PathArg.TheVariants.{Names, Id, Rev, Ns}
use Rattle.fh_model.specs.declared.paths.Place.{Place}
use Rattle.fh_model.specs.declared.state.User.{User}
use Rattle.fh_model.specs.Keys.{key_of}
use Rattle.fh_model.specs.PathRule.{path_of}
use Rattle.fh_model.specs.Places.{is_below_file, names_in_view, place_of, view_of}
use Rattle.fh_model.specs.State.{State, revision_of, tree_in, user_of}
use Rattle.fh_model.specs.Trees.{item_at}

pub data Look : Type 0 where
  malformed : Look
  not_found : Look
  found : Found → Look

-- an item is shown by the names that it has in its tree
abbrev pub look_of_item : State → ℕ → ℕ → Option Item → Look
look_of_item s home number None = not_found
look_of_item s home number (Some item) = found (record {
  place = record { ns = number; names = item.names };
  node = Some item.node;
  names = names_in_view s home number item.names;
})

-- names from the root of a namespace, which itself is no node; what is below a file is not found
abbrev pub look_in : State → ℕ → ℕ → List Name → Look
look_in s home number [] = found (record {
  place = record { ns = number; names = [] };
  node = None;
  names = names_in_view s home number [];
})
look_in s home number (name ∷ names) =
    if is_below_file (tree_in s number) (name ∷ names) then not_found
    else look_of_item s home number (item_at (tree_in s number) (key_of (name ∷ names)))

abbrev pub look_at : State → ℕ → Option Place → Look
look_at s home None = not_found
look_at s home (Some place) = look_in s home place.ns place.names

-- A revision is found at the place at which it was put, whatever stands there now, where the user sees its namespace.
abbrev pub look_of_revision : State → ℕ → Option Revision → Look
look_of_revision s home None = not_found
look_of_revision s home (Some kept) =
    if is_some (view_of s home kept.ns) then found (record {
      place = record { ns = kept.ns; names = kept.names };
      node = Some (File kept.file);
      names = names_in_view s home kept.ns kept.names;
    }) else not_found

-- The number 0 is of no revision.
abbrev pub look_from : State → ℕ → PathArg → Look
look_from s home (Names names) = look_at s home (place_of s home (Names names))
look_from s home (Id id) = look_at s home (place_of s home (Id id))
look_from s home (Rev rev) = if rev == 0 then not_found else look_of_revision s home (revision_of s rev)
look_from s home (Ns number names) = look_at s home (place_of s home (Ns number names))

abbrev pub look_for : State → Option User → Option PathArg → Look
look_for s user None = malformed
look_for s None (Some arg) = not_found
look_for s (Some user) (Some arg) = look_from s user.home arg

-- what the text of a path leads to, for the user with this number
unfoldable pub resolve : State → ℕ → List ℕ → Look
resolve s user text = look_for s (user_of s user) (path_of text)
