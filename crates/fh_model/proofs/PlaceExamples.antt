-- Places with a mounted namespace, worked out: user 1 has home 1, where namespace 2 is mounted at `/M/Shared`.
use Rattle.std.proofs.Common.{◌≡◌, [], ◌∷◌, None, Some, true, false, codes, refl}
use Rattle.fh_model.specs.declared.changes.Change.TheVariants.{Put, Gone}
use Rattle.fh_model.specs.declared.changes.Node.TheVariants.{Folder, Mount}
use Rattle.fh_model.specs.declared.names.Name.{Name}
use Rattle.fh_model.specs.declared.paths.PathArg.TheVariants.{Names, Id, Ns}
use Rattle.fh_model.specs.Places.{place_of}
use Rattle.fh_model.specs.Resolve.{look_at, found}
use Rattle.fh_model.specs.State.{State, tree_in}
use Rattle.fh_model.specs.Trees.{tree_after}
use Rattle.fh_model.specs.WritePlaces.{missed_above, shown_in}

abbrev m : Name
m = record { shown = codes "M"; folded = codes "m" }

abbrev loud_m : Name
loud_m = record { shown = codes "m"; folded = codes "m" }

abbrev shared : Name
shared = record { shown = codes "Shared"; folded = codes "shared" }

abbrev doc : Name
doc = record { shown = codes "Doc"; folded = codes "doc" }

abbrev loud_doc : Name
loud_doc = record { shown = codes "DOC"; folded = codes "doc" }

abbrev new : Name
new = record { shown = codes "New"; folded = codes "new" }

abbrev s : State
s = record {
  users = record { number = 1; home = 1; token = None } ∷ [];
  namespaces =
      record {
        number = 1;
        shared = false;
        floor = 0;
        members = [];
        changes = Put (m ∷ []) (Folder 1) ∷ Put (m ∷ shared ∷ []) (Mount 2 2) ∷ [];
      }
      ∷ record { number = 2; shared = true; floor = 0; members = 1 ∷ []; changes = Put (doc ∷ []) (Folder 3) ∷ [] }
      ∷ record { number = 3; shared = true; floor = 0; members = 1 ∷ []; changes = Put (doc ∷ []) (Folder 4) ∷ [] }
      ∷ [];
  revisions = [];
  sessions = [];
  next = record { rev = 1; id = 5; session = 1; user = 2; namespace = 4 };
  moment = 0;
}

-- a name that is cased otherwise, behind the mount point
through : look_at s 1 (place_of s 1 (Names (loud_m ∷ shared ∷ loud_doc ∷ [])))
    ≡ found (record { place = record { ns = 2; names = doc ∷ [] }; node = Some (Folder 3); names = m ∷ shared ∷ doc ∷ [] })
through = refl

-- a path that ends at the mount point
point : look_at s 1 (place_of s 1 (Names (loud_m ∷ shared ∷ [])))
    ≡ found (record { place = record { ns = 1; names = m ∷ shared ∷ [] }; node = Some (Mount 2 2); names = m ∷ shared ∷ [] })
point = refl

-- the root of the mounted namespace
root : look_at s 1 (place_of s 1 (Ns 2 [])) ≡ found (record { place = record { ns = 2; names = [] }; node = None; names = m ∷ shared ∷ [] })
root = refl

-- an item of the mounted namespace, and one of a namespace that isn't mounted
item : look_at s 1 (place_of s 1 (Id 3))
    ≡ found (record { place = record { ns = 2; names = doc ∷ [] }; node = Some (Folder 3); names = m ∷ shared ∷ doc ∷ [] })
item = refl

unseen : place_of s 1 (Id 4) ≡ None
unseen = refl

unmounted : place_of s 1 (Ns 3 (doc ∷ [])) ≡ None
unmounted = refl

-- what is missed above a new place, with the names of the tree
missed : missed_above (tree_in s 1) (shown_in (tree_in s 1) (loud_m ∷ new ∷ loud_doc ∷ [])) ≡ (m ∷ new ∷ []) ∷ []
missed = refl

-- Gone takes what stands under it
gone : tree_after (tree_in s 1) (Gone (loud_m ∷ []) ∷ []) ≡ []
gone = refl

-- the items are in the order of their keys, each key once
order : tree_after [] (Put (new ∷ []) (Folder 1) ∷ Put (doc ∷ []) (Folder 2) ∷ Put (new ∷ []) (Folder 3) ∷ [])
    ≡ record { names = doc ∷ []; node = Folder 2 } ∷ record { names = new ∷ []; node = Folder 3 } ∷ []
order = refl
