-- A file that a path leads to is a version that is kept, with its size.
use Rattle.std.proofs.Common.{◌≡◌, ℕ, ◌==◌, Bool, true, false, cond, if◌then◌else◌, is_some, IfSome, IsTrue, List, [], ◌∷◌, All, find, take, ◌-◌, Option, Some, None, refl, sym, ap, subst, ◌∙◌}
use Rattle.std.proofs.lemmas.Bool.{eqb-true}
use Rattle.std.proofs.lemmas.List.Elements.{All-nil, All-cons, All-head, All-tail, All-append, All-filter, All-take}
use Rattle.std.specs.Option.{option_map}
use Rattle.fh_model.specs.declared.changes.Change.{Change}
use Rattle.fh_model.specs.declared.changes.Change.TheVariants.{Put, Gone}
use Rattle.fh_model.specs.declared.changes.Item.{Item}
use Rattle.fh_model.specs.declared.changes.Node.{Node}
use Rattle.fh_model.specs.declared.changes.Node.TheVariants.{File, Folder, Mount}
use Rattle.fh_model.specs.declared.files.FileMeta.{FileMeta}
use Rattle.fh_model.specs.declared.files.Revision.{Revision}
use Rattle.fh_model.specs.declared.names.Name.{Name}
use Rattle.fh_model.specs.declared.paths.Found.{Found}
use Rattle.fh_model.specs.declared.paths.PathArg.{PathArg}
use Rattle.fh_model.specs.declared.paths.PathArg.TheVariants.{Names, Id, Rev, Ns}
use Rattle.fh_model.specs.declared.paths.Place.{Place}
use Rattle.fh_model.specs.declared.state.Namespace.{Namespace}
use Rattle.fh_model.specs.declared.state.User.{User}
use Rattle.fh_model.specs.Files.{has_its_size}
use Rattle.fh_model.specs.KeptFiles.{IsKept, NodeIsKept, TreeIsKept, ChangeIsKept, SpaceIsKept, KeepsFiles}
use Rattle.fh_model.specs.Keys.{key_of, has_key}
use Rattle.fh_model.specs.PathRule.{path_of}
use Rattle.fh_model.specs.Places.{is_below_file, place_of, view_of}
use Rattle.fh_model.specs.Resolve.{Look, malformed, not_found, found, look_of_item, look_in, look_at, look_of_revision, look_from, look_for, resolve}
use Rattle.fh_model.specs.State.{State, revision_of, meta_of, tree_or_none, tree_in, user_of}
use Rattle.fh_model.specs.Trees.{Tree, item_at, before, behind, with_node, without, changed, tree_after, tree_at, tree_of}

-- ---- what is found in a list

found_has : {A : Type 0} (P : A → Type 0) (test : A → Bool) (list : List A) (one : A) → All P list → find test list ≡ Some one → P one
found_has P test [] one all is = cc
found_has {A} P test (first ∷ list) one all is = here (test first) (found_has P test list one (All-tail P first list all)) is
  where
    here : (b : Bool) → (find test list ≡ Some one → P one) → cond b (Some first) (find test list) ≡ Some one → P one
    here true rest is = let e : first ≡ one = cc in subst P e (All-head P first list all)
    here false rest is = rest is

found_passes : {A : Type 0} (test : A → Bool) (list : List A) (one : A) → find test list ≡ Some one → test one ≡ true
found_passes test [] one is = cc
found_passes {A} test (first ∷ list) one is = here (test first) refl (found_passes test list one) is
  where
    here : (b : Bool) → test first ≡ b → (find test list ≡ Some one → test one ≡ true) → cond b (Some first) (find test list) ≡ Some one → test one ≡ true
    here true passes rest is = let e : first ≡ one = cc in ap test (sym e) ∙ passes
    here false passes rest is = rest is

-- ---- trees

with_node_kept : (s : State) (names : List Name) (node : Node) (tree : Tree) → NodeIsKept s node → TreeIsKept s tree → TreeIsKept s (with_node names node tree)
with_node_kept s names node tree one kept =
    let Kept : Item → Type 0 = λ item. NodeIsKept s item.node in
    All-append Kept (before (key_of names) tree) (record { names = names; node = node } ∷ behind (key_of names) tree) (All-filter _ Kept tree kept)
    (All-cons Kept (record { names = names; node = node }) (behind (key_of names) tree) one (All-filter _ Kept tree kept))

without_kept : (s : State) (names : List Name) (tree : Tree) → TreeIsKept s tree → TreeIsKept s (without (key_of names) tree)
without_kept s names tree kept = All-filter _ (λ (item : Item). NodeIsKept s item.node) tree kept

changed_kept : (s : State) (change : Change) (tree : Tree) → ChangeIsKept s change → TreeIsKept s tree → TreeIsKept s (changed change tree)
changed_kept s (Put names (File meta)) tree one kept = with_node_kept s names (File meta) (without (key_of names) tree) one (without_kept s names tree kept)
changed_kept s (Put names (Folder id)) tree one kept = with_node_kept s names (Folder id) tree one kept
changed_kept s (Put names (Mount id ns)) tree one kept = with_node_kept s names (Mount id ns) tree one kept
changed_kept s (Gone names) tree one kept = without_kept s names tree kept

tree_after_kept : (s : State) (tree : Tree) (changes : List Change) → All (ChangeIsKept s) changes → TreeIsKept s tree → TreeIsKept s (tree_after tree changes)
tree_after_kept s tree [] all kept = kept
tree_after_kept s tree (change ∷ changes) all kept =
    tree_after_kept s (changed change tree) changes (All-tail (ChangeIsKept s) change changes all)
    (changed_kept s change tree (All-head (ChangeIsKept s) change changes all) kept)

-- the files of a namespace's tree, now and at each position
pub tree_of_kept : (s : State) (space : Namespace) → SpaceIsKept s space → TreeIsKept s (tree_of space)
tree_of_kept s space kept = tree_after_kept s [] space.changes kept (All-nil (λ (item : Item). NodeIsKept s item.node))

pub tree_at_kept : (s : State) (space : Namespace) (position : ℕ) → SpaceIsKept s space → TreeIsKept s (tree_at space position)
tree_at_kept s space position kept =
    tree_after_kept s [] (take (position - space.floor) space.changes) (All-take (ChangeIsKept s) (position - space.floor) space.changes kept)
    (All-nil (λ (item : Item). NodeIsKept s item.node))

-- Each file of each tree is the version that is kept under its rev.
pub tree_in_kept : (s : State) (number : ℕ) → KeepsFiles s → TreeIsKept s (tree_in s number)
tree_in_kept s number keeps = of_space (find (λ space. space.number == number) s.namespaces) refl
  where
    of_space : (space : Option Namespace) → find (λ one. one.number == number) s.namespaces ≡ space → TreeIsKept s (tree_or_none space)
    of_space None is = All-nil (λ (item : Item). NodeIsKept s item.node)
    of_space (Some space) is = tree_of_kept s space (found_has (SpaceIsKept s) (λ one. one.number == number) s.namespaces space keeps.changes is)

pub item_kept : (s : State) (number : ℕ) (names : List Name) (item : Item) → KeepsFiles s → item_at (tree_in s number) (key_of names) ≡ Some item → NodeIsKept s item.node
item_kept s number names item keeps is =
    found_has (λ (one : Item). NodeIsKept s one.node) (λ one. has_key one.names (key_of names)) (tree_in s number) item (tree_in_kept s number keeps) is

-- ---- versions

-- a version that is found is the one under its own rev
pub revision_kept : (s : State) (rev : ℕ) (kept : Revision) → revision_of s rev ≡ Some kept → IsKept s kept.file
revision_kept s rev kept is =
    let same : kept.file.rev ≡ rev = eqb-true kept.file.rev rev (found_passes (λ (one : Revision). one.file.rev == rev) s.revisions kept is) in
    ap (meta_of s) same ∙ ap (option_map (λ (one : Revision). one.file)) is

revision_size : (s : State) (meta : FileMeta) (found : Option Revision) → KeepsFiles s → revision_of s meta.rev ≡ found → option_map (λ kept. kept.file) found ≡ Some meta → IsTrue (has_its_size meta)
revision_size s meta None keeps at is = cc
revision_size s meta (Some kept) keeps at is =
    let e : kept.file ≡ meta = cc in
    subst (λ (one : FileMeta). IsTrue (has_its_size one)) e
    (found_has (λ (one : Revision). IsTrue (has_its_size one.file)) (λ one. one.file.rev == meta.rev) s.revisions kept keeps.sizes at)

-- and it has its size
pub kept_size : (s : State) (meta : FileMeta) → KeepsFiles s → IsKept s meta → IsTrue (has_its_size meta)
kept_size s meta keeps is = revision_size s meta (revision_of s meta.rev) keeps refl is

-- ---- paths

abbrev LookIsKept : State → Look → Type 0
LookIsKept s malformed = Unit {0}
LookIsKept s not_found = Unit {0}
LookIsKept s (found there) = IfSome there.node (NodeIsKept s)

unless_missed : (b : Bool) (s : State) (look : Look) → LookIsKept s look → LookIsKept s (if b then not_found else look)
unless_missed true s look kept = tt
unless_missed false s look kept = kept

if_seen : (b : Bool) (s : State) (look : Look) → LookIsKept s look → LookIsKept s (if b then look else not_found)
if_seen true s look kept = kept
if_seen false s look kept = tt

look_of_item_kept : (s : State) (home number : ℕ) (names : List Name) (item : Option Item) → KeepsFiles s → item_at (tree_in s number) (key_of names) ≡ item → LookIsKept s (look_of_item s home number item)
look_of_item_kept s home number names None keeps is = tt
look_of_item_kept s home number names (Some item) keeps is = item_kept s number names item keeps is

look_in_kept : (s : State) (home number : ℕ) (names : List Name) → KeepsFiles s → LookIsKept s (look_in s home number names)
look_in_kept s home number [] keeps = tt
look_in_kept s home number (name ∷ names) keeps =
    let item = item_at (tree_in s number) (key_of (name ∷ names)) in
    unless_missed (is_below_file (tree_in s number) (name ∷ names)) s (look_of_item s home number item) (look_of_item_kept s home number (name ∷ names) item keeps refl)

look_at_kept : (s : State) (home : ℕ) (place : Option Place) → KeepsFiles s → LookIsKept s (look_at s home place)
look_at_kept s home None keeps = tt
look_at_kept s home (Some place) keeps = look_in_kept s home place.ns place.names keeps

look_of_revision_kept : (s : State) (home rev : ℕ) (kept : Option Revision) → revision_of s rev ≡ kept → LookIsKept s (look_of_revision s home kept)
look_of_revision_kept s home rev None is = tt
look_of_revision_kept s home rev (Some kept) is = if_seen (is_some (view_of s home kept.ns)) s _ (revision_kept s rev kept is)

look_from_kept : (s : State) (home : ℕ) (arg : PathArg) → KeepsFiles s → LookIsKept s (look_from s home arg)
look_from_kept s home (Names names) keeps = look_at_kept s home (place_of s home (Names names)) keeps
look_from_kept s home (Id id) keeps = look_at_kept s home (place_of s home (Id id)) keeps
look_from_kept s home (Rev rev) keeps =
    unless_missed (rev == 0) s (look_of_revision s home (revision_of s rev)) (look_of_revision_kept s home rev (revision_of s rev) refl)
look_from_kept s home (Ns number names) keeps = look_at_kept s home (place_of s home (Ns number names)) keeps

look_for_kept : (s : State) (user : Option User) (arg : Option PathArg) → KeepsFiles s → LookIsKept s (look_for s user arg)
look_for_kept s None None keeps = tt
look_for_kept s (Some user) None keeps = tt
look_for_kept s None (Some arg) keeps = tt
look_for_kept s (Some user) (Some arg) keeps = look_from_kept s user.home arg keeps

resolve_kept : (s : State) (user : ℕ) (path : List ℕ) → KeepsFiles s → LookIsKept s (resolve s user path)
unfolding resolve
resolve_kept s user path keeps = look_for_kept s (user_of s user) (path_of path) keeps

-- A file that a path leads to is the version that is kept under its rev, with its size.
pub found_file : (s : State) (user : ℕ) (path : List ℕ) (there : Found) (meta : FileMeta) → KeepsFiles s → resolve s user path ≡ found there → there.node ≡ Some (File meta)
    → IsKept s meta × IsTrue (has_its_size meta)
found_file s user path there meta keeps is node =
    let look : IfSome there.node (NodeIsKept s) = subst (LookIsKept s) is (resolve_kept s user path keeps) in
    let kept : IsKept s meta = subst (λ (one : Option Node). IfSome one (NodeIsKept s)) node look in
    (kept, kept_size s meta keeps kept)
