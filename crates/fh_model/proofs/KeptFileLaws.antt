-- Each file of a state is the version that it keeps under its rev: it is so at the start, and stays so at each step.
use Rattle.std.proofs.Common.{◌≡◌, ℕ, ◌+◌, ◌<◌, ◌==◌, max, Bool, true, false, if◌then◌else◌, IsTrue, List, [], ◌∷◌, ◌++◌, All, length, map, Option, Some, None, Result, Ok, refl, subst, arith}
use Rattle.std.proofs.lemmas.Bool.{eq-eqb}
use Rattle.std.proofs.lemmas.List.Elements.{All-nil, All-cons, All-same, All-push, All-append, All-map, All-weaker, recursion_from_All}
use Rattle.std.specs.Option.{option_to_list}
use Rattle.fh_model.specs.declared.changes.Change.{Change}
use Rattle.fh_model.specs.declared.changes.Change.TheVariants.{Put, Gone}
use Rattle.fh_model.specs.declared.changes.Item.{Item}
use Rattle.fh_model.specs.declared.changes.Node.TheVariants.{File, Folder, Mount}
use Rattle.fh_model.specs.declared.commands.Act.{Act}
use Rattle.fh_model.specs.declared.commands.Act.TheVariants.{MakeFolder, Upload}
use Rattle.fh_model.specs.declared.commands.Cmd.{Cmd}
use Rattle.fh_model.specs.declared.commands.Commit.{Commit}
use Rattle.fh_model.specs.declared.files.FileMeta.{FileMeta}
use Rattle.fh_model.specs.declared.files.Revision.{Revision}
use Rattle.fh_model.specs.declared.names.Name.{Name}
use Rattle.fh_model.specs.declared.paths.Place.{Place}
use Rattle.fh_model.specs.declared.pieces.Piece.{Piece}
use Rattle.fh_model.specs.declared.rows.Row.{Row}
use Rattle.fh_model.specs.declared.rows.Row.TheVariants as row
use Rattle.fh_model.specs.declared.state.Namespace.{Namespace}
use Rattle.fh_model.specs.declared.state.Next.{Next}
use Rattle.fh_model.specs.declared.state.User.{User}
use Rattle.fh_model.specs.declared.verdicts.Verdict.{Verdict}
use Rattle.fh_model.specs.declared.verdicts.Verdict.TheVariants.{Write, Same, Conflict}
use Rattle.fh_model.specs.Commits.{Committed, turned_down, written, clash, with_file, judged, commit_over, commit_in, commit_at, commit_for}
use Rattle.fh_model.specs.Content.{size_of}
use Rattle.fh_model.specs.Files.{file_of, has_its_size, hash_on, id_over, next_over}
use Rattle.fh_model.specs.Folders.{folders, with_folders, unless_taken, folder_in, folder_at, make_folder}
use Rattle.fh_model.specs.History.{Kept, state_of, state_after}
use Rattle.fh_model.specs.KeptFiles.{VersionsStay, IsKept, ChangeIsKept, SpaceIsKept, KeepsFiles}
use Rattle.fh_model.specs.Keys.{key_of}
use Rattle.fh_model.specs.PathRule.{path_of}
use Rattle.fh_model.specs.Places.{is_below_file}
use Rattle.fh_model.specs.RowRules.{counters_in, first_bad}
use Rattle.fh_model.specs.Rows.{rows_of, state_of_rows, users_in, namespaces_in, counted, unless_bad}
use Rattle.fh_model.specs.State.{State, opening, user_of, tree_in, grown, is_spent}
use Rattle.fh_model.specs.Step.{act_on, step}
use Rattle.fh_model.specs.Stepped.{Stepped, refused}
use Rattle.fh_model.specs.Trees.{item_at}
use Rattle.fh_model.specs.Uploads.{has_gap, uploaded, upload_pieces, upload}
use Rattle.fh_model.specs.Verdicts.{Target, absent, folder, file, target_of, verdict}
use Rattle.fh_model.specs.WritePlaces.{missed_above, shown_in, write_place}
use Rattle.fh_model.proofs.RowLemmas.{opening_rows}
use Rattle.fh_model.proofs.VersionLaws.{push_stays, push_found}

-- ---- states without files

-- a state that keeps no version, and none of whose namespaces has changed
pub nothing_kept : (s : State) → s.revisions ≡ [] → All (λ space. space.changes ≡ []) s.namespaces → KeepsFiles s
nothing_kept s none unchanged = record {
  changes = All-weaker (λ (space : Namespace). space.changes ≡ []) (SpaceIsKept s)
      (λ space e. All-same (ChangeIsKept s) space.changes [] e (All-nil (ChangeIsKept s))) s.namespaces unchanged;
  sizes = All-same (λ (kept : Revision). IsTrue (has_its_size kept.file)) s.revisions [] none (All-nil (λ (kept : Revision). IsTrue (has_its_size kept.file)));
  below = All-same (λ (kept : Revision). kept.file.rev < s.next.rev) s.revisions [] none (All-nil (λ (kept : Revision). kept.file.rev < s.next.rev));
}

rows_change_nothing : (rows : List Row) → All (λ space. space.changes ≡ []) (namespaces_in rows)
rows_change_nothing [] = All-nil (λ (space : Namespace). space.changes ≡ [])
rows_change_nothing (row.Counters rev id session user namespace moment ∷ rows) = rows_change_nothing rows
rows_change_nothing (row.User number home token ∷ rows) = rows_change_nothing rows
rows_change_nothing (row.Namespace number shared floor len members ∷ rows) =
    All-cons (λ (space : Namespace). space.changes ≡ []) (record { number = number; shared = shared; floor = floor; changes = []; members = members })
    (namespaces_in rows) refl (rows_change_nothing rows)

counted_keep : (rows : List Row) (counters : Option (Next × ℕ)) (s : State) → counted rows counters ≡ Ok s → KeepsFiles s
counted_keep rows None s is = cc
counted_keep rows (Some counters) s is =
    let read : State = record { users = users_in rows; namespaces = namespaces_in rows; revisions = []; sessions = []; next = counters.0; moment = counters.1 } in
    let e : read ≡ s = cc in
    subst KeepsFiles e (nothing_kept read refl (rows_change_nothing rows))

good_rows : (bad : Option ℕ) (read : Result State ℕ) (s : State) → unless_bad bad read ≡ Ok s → read ≡ Ok s
good_rows None read s is = is
good_rows (Some place) read s is = cc

-- no row names a file yet
pub rows_keep_files : (rows : List Row) (s : State) → state_of_rows rows ≡ Ok s → KeepsFiles s
rows_keep_files rows s is = counted_keep rows (counters_in rows) s (good_rows (first_bad rows) (counted rows (counters_in rows)) s is)

pub opening_keeps_files : KeepsFiles opening
opening_keeps_files = rows_keep_files (rows_of opening) opening opening_rows

-- ---- changes that were kept, in a state that keeps the same versions

stays_kept : (s t : State) → VersionsStay s t → (change : Change) → ChangeIsKept s change → ChangeIsKept t change
stays_kept s t stay (Put names (File meta)) is = stay meta.rev meta is
stays_kept s t stay (Put names (Folder id)) is = tt
stays_kept s t stay (Put names (Mount id ns)) is = tt
stays_kept s t stay (Gone names) is = tt

space_stays : (s t : State) → VersionsStay s t → (space : Namespace) → SpaceIsKept s space → SpaceIsKept t space
space_stays s t stay space kept = All-weaker (ChangeIsKept s) (ChangeIsKept t) (stays_kept s t stay) space.changes kept

spaces_stay : (s t : State) → VersionsStay s t → (spaces : List Namespace) → All (SpaceIsKept s) spaces → All (SpaceIsKept t) spaces
spaces_stay s t stay spaces kept = All-weaker (SpaceIsKept s) (SpaceIsKept t) (space_stays s t stay) spaces kept

grown_if : (t : State) (b : Bool) (changes : List Change) (space : Namespace) → All (ChangeIsKept t) changes → SpaceIsKept t space
    → SpaceIsKept t (if b then record space { changes = space.changes ++ changes } else space)
grown_if t true changes space more kept = All-append (ChangeIsKept t) space.changes changes kept more
grown_if t false changes space more kept = kept

-- one namespace has changed
grown_kept : (s t : State) (number : ℕ) (changes : List Change) (spaces : List Namespace) → VersionsStay s t → All (ChangeIsKept t) changes
    → All (SpaceIsKept s) spaces → All (SpaceIsKept t) (map (grown number changes) spaces)
grown_kept s t number changes spaces stay more kept =
    All-map (SpaceIsKept t) (grown number changes) spaces
    (All-weaker (SpaceIsKept s) (λ (space : Namespace). SpaceIsKept t (grown number changes space))
    (λ space one. grown_if t (space.number == number) changes space more (space_stays s t stay space one)) spaces kept)

folders_kept : (t : State) (id : ℕ) (others : List (List Name)) → All (ChangeIsKept t) (folders id others)
folders_kept t id [] = All-nil (ChangeIsKept t)
folders_kept t id (names ∷ others) = All-cons (ChangeIsKept t) (Put names (Folder id)) (folders (id + 1) others) tt (folders_kept t (id + 1) others)

-- ---- folders

with_folders_keeps : (s : State) (moment home number : ℕ) (missed : List (List Name)) (names : List Name) → KeepsFiles s
    → KeepsFiles (with_folders s moment home number missed names).state
with_folders_keeps s moment home number missed names keeps =
    let t = (with_folders s moment home number missed names).state in
    record {
      changes = grown_kept s t number (folders s.next.id (missed ++ names ∷ [])) s.namespaces (λ rev meta is. is)
          (folders_kept t s.next.id (missed ++ names ∷ [])) keeps.changes;
      sizes = keeps.sizes;
      below = keeps.below;
    }

unless_keeps : (b : Bool) (s : State) (tags : List (List ℕ)) (done : Stepped) → KeepsFiles s → KeepsFiles done.state → KeepsFiles (if b then refused s tags else done).state
unless_keeps true s tags done keeps after = keeps
unless_keeps false s tags done keeps after = after

untaken_keeps : (s : State) (moment home number : ℕ) (names : List Name) (item : Option Item) → KeepsFiles s → KeepsFiles (unless_taken s moment home number names item).state
untaken_keeps s moment home number names None keeps =
    let shown = shown_in (tree_in s number) names in
    with_folders_keeps s moment home number (missed_above (tree_in s number) shown) shown keeps
untaken_keeps s moment home number names (Some item) keeps = keeps

folder_keeps : (s : State) (moment home number : ℕ) (names : List Name) → KeepsFiles s → KeepsFiles (folder_in s moment home number names).state
folder_keeps s moment home number [] keeps = keeps
folder_keeps s moment home number (name ∷ names) keeps =
    unless_keeps (is_below_file (tree_in s number) (name ∷ names)) s _
    (unless_taken s moment home number (name ∷ names) (item_at (tree_in s number) (key_of (name ∷ names)))) keeps
    (untaken_keeps s moment home number (name ∷ names) (item_at (tree_in s number) (key_of (name ∷ names))) keeps)

folder_at_keeps : (s : State) (moment home : ℕ) (place : Option Place) → KeepsFiles s → KeepsFiles (folder_at s moment home place).state
folder_at_keeps s moment home None keeps = keeps
folder_at_keeps s moment home (Some place) keeps = folder_keeps s moment home place.ns place.names keeps

make_keeps : (s : State) (moment : ℕ) (user : Option User) (path : List ℕ) → KeepsFiles s → KeepsFiles (make_folder s moment user path).state
make_keeps s moment None path keeps = keeps
make_keeps s moment (Some user) path keeps = folder_at_keeps s moment user.home (write_place s user.home (path_of path)) keeps

-- ---- files

abbrev CommitKeeps : Committed → Type 0
CommitKeeps (turned_down tags) = Unit {0}
CommitKeeps (written after entry) = KeepsFiles after

-- a file with the next rev, which no version had
with_file_keeps : (s : State) (moment home number : ℕ) (missed : List (List Name)) (names : List Name) (meta : FileMeta) (next : ℕ) → meta.rev ≡ s.next.rev
    → IsTrue (has_its_size meta) → KeepsFiles s → CommitKeeps (with_file s moment home number missed names meta next)
with_file_keeps s moment home number missed names meta next drawn size keeps =
    let new : Revision = record { ns = number; names = names; file = meta } in
    let t : State = record s {
      namespaces = map (grown number (folders s.next.id missed ++ Put names (File meta) ∷ [])) s.namespaces;
      revisions = s.revisions ++ new ∷ [];
      next = record s.next { rev = s.next.rev + 1; id = next };
      moment = moment;
    } in
    let before : All (λ (kept : Revision). kept.file.rev < meta.rev) s.revisions =
    All-weaker (λ (kept : Revision). kept.file.rev < s.next.rev) (λ (kept : Revision). kept.file.rev < meta.rev) (λ kept lt. omega (arith, lt, drawn)) s.revisions keeps.below in
    let found : IsKept t meta = push_found s.revisions new (recursion_from_All (λ (kept : Revision). kept.file.rev < meta.rev) s.revisions before) in
    record {
      changes = grown_kept s t number (folders s.next.id missed ++ Put names (File meta) ∷ []) s.namespaces (push_stays s.revisions new)
          (All-push (ChangeIsKept t) (folders s.next.id missed) (Put names (File meta)) (folders_kept t s.next.id missed) found) keeps.changes;
      sizes = All-push (λ (kept : Revision). IsTrue (has_its_size kept.file)) s.revisions new keeps.sizes size;
      below = All-push (λ (kept : Revision). kept.file.rev < s.next.rev + 1) s.revisions new
          (All-weaker (λ (kept : Revision). kept.file.rev < s.next.rev) (λ (kept : Revision). kept.file.rev < s.next.rev + 1) (λ kept lt. omega (arith, lt)) s.revisions keeps.below)
          (omega (arith, drawn));
    }

judged_keeps : (s : State) (moment home number : ℕ) (names : List Name) (target : Target) (commit : Commit) (pieces : List Piece) (v : Verdict) → KeepsFiles s
    → CommitKeeps (judged s moment home number names target commit pieces v)
judged_keeps s moment home number names target commit pieces Write keeps =
    let missed = missed_above (tree_in s number) names in
    with_file_keeps s moment home number missed names (file_of (id_over target (s.next.id + length missed)) s.next.rev moment commit pieces)
    (next_over target (s.next.id + length missed)) refl (eq-eqb (size_of pieces) (size_of pieces) refl) keeps
judged_keeps s moment home number names absent commit pieces Same keeps = tt
judged_keeps s moment home number names folder commit pieces Same keeps = tt
judged_keeps s moment home number names (file meta) commit pieces Same keeps =
    let t : State = record s { moment = moment } in
    record { changes = spaces_stay s t (λ rev meta is. is) s.namespaces keeps.changes; sizes = keeps.sizes; below = keeps.below }
judged_keeps s moment home number names target commit pieces (Conflict kind) keeps = tt

unless_clash : (b : Bool) (tag : List ℕ) (done : Committed) → CommitKeeps done → CommitKeeps (if b then clash tag else done)
unless_clash true tag done keeps = tt
unless_clash false tag done keeps = keeps

commit_in_keeps : (s : State) (moment home number : ℕ) (names : List Name) (commit : Commit) (pieces : List Piece) → KeepsFiles s
    → CommitKeeps (commit_in s moment home number names commit pieces)
commit_in_keeps s moment home number [] commit pieces keeps = tt
commit_in_keeps s moment home number (name ∷ names) commit pieces keeps =
    let target = target_of (item_at (tree_in s number) (key_of (name ∷ names))) in
    let shown = shown_in (tree_in s number) (name ∷ names) in
    unless_clash (is_below_file (tree_in s number) (name ∷ names)) _ (commit_over s moment home number shown target commit pieces)
    (judged_keeps s moment home number shown target commit pieces (verdict target commit.mode commit.strict (size_of pieces) (hash_on pieces)) keeps)

commit_at_keeps : (s : State) (moment home : ℕ) (place : Option Place) (commit : Commit) (pieces : List Piece) → KeepsFiles s
    → CommitKeeps (commit_at s moment home place commit pieces)
commit_at_keeps s moment home None commit pieces keeps = tt
commit_at_keeps s moment home (Some place) commit pieces keeps = commit_in_keeps s moment home place.ns place.names commit pieces keeps

-- ---- uploads

uploaded_keeps : (s : State) (moment user : ℕ) (pieces : List Piece) (committed : Committed) → KeepsFiles s → CommitKeeps committed
    → KeepsFiles (uploaded s moment user pieces committed).state
uploaded_keeps s moment user pieces (turned_down tags) keeps after =
    let t = (uploaded s moment user pieces (turned_down tags)).state in
    record { changes = spaces_stay s t (λ rev meta is. is) s.namespaces keeps.changes; sizes = keeps.sizes; below = keeps.below }
uploaded_keeps s moment user pieces (written after entry) keeps kept = kept

upload_pieces_keep : (s : State) (moment : ℕ) (user : User) (commit : Commit) (drafted : ℕ) (pieces : List Piece) → KeepsFiles s
    → KeepsFiles (upload_pieces s moment user commit drafted pieces).state
upload_pieces_keep s moment user commit drafted pieces keeps =
    let committed = commit_for s moment user.home commit pieces in
    unless_keeps (has_gap drafted pieces) s _ (uploaded s moment user.number pieces committed) keeps
    (uploaded_keeps s moment user.number pieces committed keeps (commit_at_keeps s moment user.home (write_place s user.home (path_of commit.path)) commit pieces keeps))

upload_keeps : (s : State) (moment : ℕ) (user : Option User) (commit : Commit) (drafted : ℕ) (last : Option Piece) → KeepsFiles s
    → KeepsFiles (upload s moment user commit drafted last).state
upload_keeps s moment None commit drafted last keeps = keeps
upload_keeps s moment (Some user) commit drafted last keeps = upload_pieces_keep s moment user commit drafted (option_to_list last) keeps

-- ---- steps

act_keeps : (s : State) (moment : ℕ) (act : Act) → KeepsFiles s → KeepsFiles (act_on s moment act).state
unfolding act_on
act_keeps s moment (MakeFolder user path rename) keeps = make_keeps s moment (user_of s user) path keeps
act_keeps s moment (Upload user commit drafted last) keeps = upload_keeps s moment (user_of s user) commit drafted last keeps

pub step_keeps_files : (s : State) (cmd : Cmd) → KeepsFiles s → KeepsFiles (step s cmd).state
step_keeps_files s cmd keeps =
    unless_keeps (is_spent s) s _ (act_on s (max cmd.at s.moment) cmd.act) keeps (act_keeps s (max cmd.at s.moment) cmd.act keeps)

pub history_keeps_files : (s : State) (history : List Cmd) → KeepsFiles s → KeepsFiles (state_after s history)
history_keeps_files s [] keeps = keeps
history_keeps_files s (cmd ∷ history) keeps = history_keeps_files (step s cmd).state history (step_keeps_files s cmd keeps)

-- the machine of a store whose state was opened so
pub kept_keeps_files : (kept : Kept) → KeepsFiles kept.start → KeepsFiles (state_of kept)
kept_keeps_files kept keeps = history_keeps_files kept.start kept.history keeps
