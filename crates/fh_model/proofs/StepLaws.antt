-- A command that doesn't enter changes nothing.
use Rattle.std.proofs.Common.{◌≡◌, ℕ, Bool, true, false, if◌then◌else◌, List, [], ◌∷◌, max, Option, Some, None, refl}
use Rattle.std.specs.Option.{option_to_list}
use Rattle.fh_model.specs.declared.changes.Item.{Item}
use Rattle.fh_model.specs.declared.commands.Act.{Act}
use Rattle.fh_model.specs.declared.commands.Act.TheVariants.{MakeFolder, Upload}
use Rattle.fh_model.specs.declared.commands.Cmd.{Cmd}
use Rattle.fh_model.specs.declared.commands.Commit.{Commit}
use Rattle.fh_model.specs.declared.names.Name.{Name}
use Rattle.fh_model.specs.declared.paths.Place.{Place}
use Rattle.fh_model.specs.declared.pieces.Piece.{Piece}
use Rattle.fh_model.specs.declared.state.User.{User}
use Rattle.fh_model.specs.Commits.{Committed, turned_down, written, commit_for}
use Rattle.fh_model.specs.Folders.{unless_taken, folder_in, folder_at, make_folder}
use Rattle.fh_model.specs.Keys.{key_of}
use Rattle.fh_model.specs.PathRule.{path_of}
use Rattle.fh_model.specs.Places.{is_below_file}
use Rattle.fh_model.specs.State.{State, user_of, tree_in, is_spent}
use Rattle.fh_model.specs.Step.{act_on, step}
use Rattle.fh_model.specs.Stepped.{Stepped, refused}
use Rattle.fh_model.specs.Trees.{item_at}
use Rattle.fh_model.specs.Uploads.{has_gap, uploaded, upload_pieces, upload}
use Rattle.fh_model.specs.WritePlaces.{write_place}

unless_refused : (b : Bool) (s : State) (tags : List (List ℕ)) (done : Stepped) → (done.enters ≡ false → done.state ≡ s)
    → (if b then refused s tags else done).enters ≡ false → (if b then refused s tags else done).state ≡ s
unless_refused true s tags done alone stays = refl
unless_refused false s tags done alone stays = alone stays

untaken_stays : (s : State) (moment home number : ℕ) (names : List Name) (item : Option Item)
    → (unless_taken s moment home number names item).enters ≡ false → (unless_taken s moment home number names item).state ≡ s
untaken_stays s moment home number names None stays = let both : true ≡ false = stays in cc
untaken_stays s moment home number names (Some item) stays = refl

folder_stays : (s : State) (moment home number : ℕ) (names : List Name)
    → (folder_in s moment home number names).enters ≡ false → (folder_in s moment home number names).state ≡ s
folder_stays s moment home number [] stays = refl
folder_stays s moment home number (name ∷ names) stays =
    unless_refused (is_below_file (tree_in s number) (name ∷ names)) s _
    (unless_taken s moment home number (name ∷ names) (item_at (tree_in s number) (key_of (name ∷ names))))
    (untaken_stays s moment home number (name ∷ names) (item_at (tree_in s number) (key_of (name ∷ names)))) stays

placed_stays : (s : State) (moment home : ℕ) (place : Option Place)
    → (folder_at s moment home place).enters ≡ false → (folder_at s moment home place).state ≡ s
placed_stays s moment home None stays = refl
placed_stays s moment home (Some place) stays = folder_stays s moment home place.ns place.names stays

make_stays : (s : State) (moment : ℕ) (user : Option User) (path : List ℕ)
    → (make_folder s moment user path).enters ≡ false → (make_folder s moment user path).state ≡ s
make_stays s moment None path stays = refl
make_stays s moment (Some user) path stays = placed_stays s moment user.home (write_place s user.home (path_of path)) stays

uploaded_stays : (s : State) (moment user : ℕ) (pieces : List Piece) (committed : Committed)
    → (uploaded s moment user pieces committed).enters ≡ false → (uploaded s moment user pieces committed).state ≡ s
uploaded_stays s moment user pieces (turned_down tags) stays = let both : true ≡ false = stays in cc
uploaded_stays s moment user pieces (written after entry) stays = let both : true ≡ false = stays in cc

pieces_stay : (s : State) (moment : ℕ) (user : User) (commit : Commit) (drafted : ℕ) (pieces : List Piece)
    → (upload_pieces s moment user commit drafted pieces).enters ≡ false → (upload_pieces s moment user commit drafted pieces).state ≡ s
pieces_stay s moment user commit drafted pieces stays =
    unless_refused (has_gap drafted pieces) s _ (uploaded s moment user.number pieces (commit_for s moment user.home commit pieces))
    (uploaded_stays s moment user.number pieces (commit_for s moment user.home commit pieces)) stays

upload_stays : (s : State) (moment : ℕ) (user : Option User) (commit : Commit) (drafted : ℕ) (last : Option Piece)
    → (upload s moment user commit drafted last).enters ≡ false → (upload s moment user commit drafted last).state ≡ s
upload_stays s moment None commit drafted last stays = refl
upload_stays s moment (Some user) commit drafted last stays = pieces_stay s moment user commit drafted (option_to_list last) stays

act_stays : (s : State) (moment : ℕ) (act : Act) → (act_on s moment act).enters ≡ false → (act_on s moment act).state ≡ s
unfolding act_on
act_stays s moment (MakeFolder user path rename) stays = make_stays s moment (user_of s user) path stays
act_stays s moment (Upload user commit drafted last) stays = upload_stays s moment (user_of s user) commit drafted last stays

pub step_stays : (s : State) (cmd : Cmd) → (step s cmd).enters ≡ false → (step s cmd).state ≡ s
step_stays s cmd stays =
    unless_refused (is_spent s) s _ (act_on s (max cmd.at s.moment) cmd.act) (act_stays s (max cmd.at s.moment) cmd.act) stays
