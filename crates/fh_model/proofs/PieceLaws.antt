-- The pieces of a state: those of the state before, and those that the command names.
use Rattle.std.proofs.Common.{◌≡◌, ◌⊎◌, inl, inr, ℕ, ◌+◌, ◌≤◌, max, Bool, true, false, if◌then◌else◌, List, [], ◌∷◌, ◌++◌, flat_map, map, Option, Some, None, refl, sym, ap, ◌∙◌, arith}
use Rattle.std.proofs.lemmas.Grind.{flat_map-append}
use Rattle.std.specs.Option.{option_to_list}
use Rattle.fh_model.specs.declared.changes.Item.{Item}
use Rattle.fh_model.specs.declared.commands.Act.{Act}
use Rattle.fh_model.specs.declared.commands.Act.TheVariants.{MakeFolder, Upload}
use Rattle.fh_model.specs.declared.commands.Cmd.{Cmd}
use Rattle.fh_model.specs.declared.commands.Commit.{Commit}
use Rattle.fh_model.specs.declared.files.Revision.{Revision}
use Rattle.fh_model.specs.declared.names.Name.{Name}
use Rattle.fh_model.specs.declared.paths.Place.{Place}
use Rattle.fh_model.specs.declared.pieces.Piece.{Piece}
use Rattle.fh_model.specs.declared.sessions.Session.{Session}
use Rattle.fh_model.specs.declared.state.User.{User}
use Rattle.fh_model.specs.declared.verdicts.Verdict.{Verdict}
use Rattle.fh_model.specs.declared.verdicts.Verdict.TheVariants.{Write, Same, Conflict}
use Rattle.fh_model.specs.Commits.{Committed, turned_down, written, clash, judged, commit_over, commit_in, commit_at, commit_for}
use Rattle.fh_model.specs.Content.{size_of}
use Rattle.fh_model.specs.Files.{hash_on}
use Rattle.fh_model.specs.Folders.{unless_taken, folder_in, folder_at, make_folder}
use Rattle.fh_model.specs.Keys.{key_of}
use Rattle.fh_model.specs.PathRule.{path_of}
use Rattle.fh_model.specs.Pieces.{numbered, last_end, session_pieces, end_in, named_in}
use Rattle.fh_model.specs.Places.{is_below_file}
use Rattle.fh_model.specs.State.{State, user_of, tree_in, is_spent}
use Rattle.fh_model.specs.Step.{act_on, step}
use Rattle.fh_model.specs.Stepped.{Stepped, refused}
use Rattle.fh_model.specs.Trees.{item_at}
use Rattle.fh_model.specs.Uploads.{has_gap, session_of, uploaded, upload_pieces, upload}
use Rattle.fh_model.specs.Verdicts.{Target, absent, folder, file, target_of, verdict}
use Rattle.fh_model.specs.WritePlaces.{shown_in, write_place}

-- ---- what a step adds

pub record AddsRevision (old new : State) (pieces : List Piece) : Type 0 where
  pub added : Revision
  pub revisions : new.revisions ≡ old.revisions ++ added ∷ []
  pub sessions : new.sessions ≡ old.sessions
  pub holds : added.file.pieces ≡ pieces

pub record AddsSession (old new : State) (pieces : List Piece) : Type 0 where
  pub added : Session
  pub revisions : new.revisions ≡ old.revisions
  pub sessions : new.sessions ≡ old.sessions ++ added ∷ []
  pub holds : session_pieces added ≡ pieces

-- nothing, or the pieces in one file or session
abbrev pub Adds : State → State → List Piece → Type 0
Adds old new pieces = ((new.revisions ≡ old.revisions) × (new.sessions ≡ old.sessions)) ⊎ (AddsRevision old new pieces ⊎ AddsSession old new pieces)

nothing : (s t : State) (pieces : List Piece) → t.revisions ≡ s.revisions → t.sessions ≡ s.sessions → Adds s t pieces
nothing s t pieces revisions sessions = inl (revisions, sessions)

unless_adds : (b : Bool) (s : State) (tags : List (List ℕ)) (done : Stepped) (pieces : List Piece) → Adds s done.state pieces → Adds s (if b then refused s tags else done).state pieces
unless_adds true s tags done pieces adds = nothing s s pieces refl refl
unless_adds false s tags done pieces adds = adds

-- ---- folders

untaken_adds : (s : State) (moment home number : ℕ) (names : List Name) (item : Option Item) (pieces : List Piece) → Adds s (unless_taken s moment home number names item).state pieces
untaken_adds s moment home number names None pieces = inl (refl, refl)
untaken_adds s moment home number names (Some item) pieces = inl (refl, refl)

folder_adds : (s : State) (moment home number : ℕ) (names : List Name) (pieces : List Piece) → Adds s (folder_in s moment home number names).state pieces
folder_adds s moment home number [] pieces = inl (refl, refl)
folder_adds s moment home number (name ∷ names) pieces =
    unless_adds (is_below_file (tree_in s number) (name ∷ names)) s _
    (unless_taken s moment home number (name ∷ names) (item_at (tree_in s number) (key_of (name ∷ names)))) pieces
    (untaken_adds s moment home number (name ∷ names) (item_at (tree_in s number) (key_of (name ∷ names))) pieces)

placed_adds : (s : State) (moment home : ℕ) (place : Option Place) (pieces : List Piece) → Adds s (folder_at s moment home place).state pieces
placed_adds s moment home None pieces = inl (refl, refl)
placed_adds s moment home (Some place) pieces = folder_adds s moment home place.ns place.names pieces

make_adds : (s : State) (moment : ℕ) (user : Option User) (path : List ℕ) (pieces : List Piece) → Adds s (make_folder s moment user path).state pieces
make_adds s moment None path pieces = inl (refl, refl)
make_adds s moment (Some user) path pieces = placed_adds s moment user.home (write_place s user.home (path_of path)) pieces

-- ---- files

abbrev CommitAdds : State → List Piece → Committed → Type 0
CommitAdds s pieces (turned_down tags) = Unit {0}
CommitAdds s pieces (written after entry) = Adds s after pieces

judged_adds : (s : State) (moment home number : ℕ) (names : List Name) (target : Target) (commit : Commit) (pieces : List Piece) (v : Verdict)
    → CommitAdds s pieces (judged s moment home number names target commit pieces v)
judged_adds s moment home number names target commit pieces Write = inr (inl (record { added = _; revisions = refl; sessions = refl; holds = refl }))
judged_adds s moment home number names absent commit pieces Same = tt
judged_adds s moment home number names folder commit pieces Same = tt
judged_adds s moment home number names (file meta) commit pieces Same = inl (refl, refl)
judged_adds s moment home number names target commit pieces (Conflict kind) = tt

unless_clash : (b : Bool) (s : State) (tag : List ℕ) (done : Committed) (pieces : List Piece) → CommitAdds s pieces done → CommitAdds s pieces (if b then clash tag else done)
unless_clash true s tag done pieces adds = tt
unless_clash false s tag done pieces adds = adds

commit_in_adds : (s : State) (moment home number : ℕ) (names : List Name) (commit : Commit) (pieces : List Piece) → CommitAdds s pieces (commit_in s moment home number names commit pieces)
commit_in_adds s moment home number [] commit pieces = tt
commit_in_adds s moment home number (name ∷ names) commit pieces =
    let target = target_of (item_at (tree_in s number) (key_of (name ∷ names))) in
    let shown = shown_in (tree_in s number) (name ∷ names) in
    unless_clash (is_below_file (tree_in s number) (name ∷ names)) s _ (commit_over s moment home number shown target commit pieces) pieces
    (judged_adds s moment home number shown target commit pieces (verdict target commit.mode commit.strict (size_of pieces) (hash_on pieces)))

commit_at_adds : (s : State) (moment home : ℕ) (place : Option Place) (commit : Commit) (pieces : List Piece) → CommitAdds s pieces (commit_at s moment home place commit pieces)
commit_at_adds s moment home None commit pieces = tt
commit_at_adds s moment home (Some place) commit pieces = commit_in_adds s moment home place.ns place.names commit pieces

-- ---- uploads

numbered_pieces : (block : ℕ) (pieces : List Piece) → map (λ held. held.piece) (numbered block pieces) ≡ pieces
numbered_pieces block [] = refl
numbered_pieces block (piece ∷ pieces) = ap (λ (l : List Piece). piece ∷ l) (numbered_pieces (block + 1) pieces)

uploaded_adds : (s : State) (moment user : ℕ) (pieces : List Piece) (committed : Committed) → CommitAdds s pieces committed → Adds s (uploaded s moment user pieces committed).state pieces
uploaded_adds s moment user pieces (turned_down tags) adds =
    inr (inr (record { added = session_of s.next.session user moment pieces; revisions = refl; sessions = refl; holds = numbered_pieces 0 pieces }))
uploaded_adds s moment user pieces (written after entry) adds = adds

upload_pieces_adds : (s : State) (moment : ℕ) (user : User) (commit : Commit) (drafted : ℕ) (pieces : List Piece) → Adds s (upload_pieces s moment user commit drafted pieces).state pieces
upload_pieces_adds s moment user commit drafted pieces =
    let committed = commit_for s moment user.home commit pieces in
    unless_adds (has_gap drafted pieces) s _ (uploaded s moment user.number pieces committed) pieces
    (uploaded_adds s moment user.number pieces committed (commit_at_adds s moment user.home (write_place s user.home (path_of commit.path)) commit pieces))

upload_adds : (s : State) (moment : ℕ) (user : Option User) (commit : Commit) (drafted : ℕ) (last : Option Piece) → Adds s (upload s moment user commit drafted last).state (option_to_list last)
upload_adds s moment None commit drafted last = inl (refl, refl)
upload_adds s moment (Some user) commit drafted last = upload_pieces_adds s moment user commit drafted (option_to_list last)

act_adds : (s : State) (moment : ℕ) (act : Act) → Adds s (act_on s moment act).state (named_in act)
unfolding act_on
act_adds s moment (MakeFolder user path rename) = make_adds s moment (user_of s user) path []
act_adds s moment (Upload user commit drafted last) = upload_adds s moment (user_of s user) commit drafted last

pub step_adds : (s : State) (cmd : Cmd) → Adds s (step s cmd).state (named_in cmd.act)
step_adds s cmd = unless_adds (is_spent s) s _ (act_on s (max cmd.at s.moment) cmd.act) (named_in cmd.act) (act_adds s (max cmd.at s.moment) cmd.act)

-- ---- the end

-- the last end of pieces and of more pieces
pub last_end-append : (pieces more : List Piece) → last_end (pieces ++ more) ≡ max (last_end pieces) (last_end more)
last_end-append [] more = omega arith
last_end-append (piece ∷ pieces) more = omega (arith, last_end-append pieces more)

end_of_state : (s : State) → end_in s ≡ max (last_end (flat_map (λ kept. kept.file.pieces) s.revisions)) (last_end (flat_map session_pieces s.sessions))
end_of_state s = last_end-append (flat_map (λ kept. kept.file.pieces) s.revisions) (flat_map session_pieces s.sessions)

-- one member more
end_push : {A : Type 0} (of : A → List Piece) (list : List A) (one : A) → last_end (flat_map of (list ++ one ∷ [])) ≡ max (last_end (flat_map of list)) (last_end (of one))
end_push of list one =
    ap last_end (flat_map-append of list (one ∷ []))
    ∙ last_end-append (flat_map of list) (flat_map of (one ∷ []))
    ∙ ap (λ n. max (last_end (flat_map of list)) n) (last_end-append (of one) [] ∙ omega arith)

-- the state's end is as before, or that of the pieces where these end later
pub adds_end : (s t : State) (pieces : List Piece) → Adds s t pieces → (end_in s ≤ end_in t) × (end_in t ≤ max (end_in s) (last_end pieces))
adds_end s t pieces (inl same) =
    let e : end_in t ≡ end_in s = end_of_state t ∙ ap (λ l. max (last_end (flat_map (λ (kept : Revision). kept.file.pieces) l)) (last_end (flat_map session_pieces t.sessions))) same.0
    ∙ ap (λ l. max (last_end (flat_map (λ (kept : Revision). kept.file.pieces) s.revisions)) (last_end (flat_map session_pieces l))) same.1 ∙ sym (end_of_state s) in
    (omega (arith, e), omega (arith, e))
adds_end s t pieces (inr (inl adds)) =
    let r : last_end (flat_map (λ (kept : Revision). kept.file.pieces) t.revisions) ≡ max (last_end (flat_map (λ (kept : Revision). kept.file.pieces) s.revisions)) (last_end pieces) =
    ap (λ l. last_end (flat_map (λ (kept : Revision). kept.file.pieces) l)) adds.revisions ∙ end_push (λ (kept : Revision). kept.file.pieces) s.revisions adds.added
    ∙ ap (λ l. max (last_end (flat_map (λ (kept : Revision). kept.file.pieces) s.revisions)) (last_end l)) adds.holds in
    let h : last_end (flat_map session_pieces t.sessions) ≡ last_end (flat_map session_pieces s.sessions) = ap (λ l. last_end (flat_map session_pieces l)) adds.sessions in
    (omega (arith, end_of_state s, end_of_state t, r, h), omega (arith, end_of_state s, end_of_state t, r, h))
adds_end s t pieces (inr (inr adds)) =
    let r : last_end (flat_map (λ (kept : Revision). kept.file.pieces) t.revisions) ≡ last_end (flat_map (λ (kept : Revision). kept.file.pieces) s.revisions) =
    ap (λ l. last_end (flat_map (λ (kept : Revision). kept.file.pieces) l)) adds.revisions in
    let h : last_end (flat_map session_pieces t.sessions) ≡ max (last_end (flat_map session_pieces s.sessions)) (last_end pieces) =
    ap (λ l. last_end (flat_map session_pieces l)) adds.sessions ∙ end_push session_pieces s.sessions adds.added
    ∙ ap (λ l. max (last_end (flat_map session_pieces s.sessions)) (last_end l)) adds.holds in
    (omega (arith, end_of_state s, end_of_state t, r, h), omega (arith, end_of_state s, end_of_state t, r, h))

pub step_end : (s : State) (cmd : Cmd) → (end_in s ≤ end_in (step s cmd).state) × (end_in (step s cmd).state ≤ max (end_in s) (last_end (named_in cmd.act)))
step_end s cmd = adds_end s (step s cmd).state (named_in cmd.act) (step_adds s cmd)
