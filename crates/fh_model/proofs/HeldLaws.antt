-- Which pieces a block file holds, and how it goes on with new data.
use Rattle.std.proofs.Common.{◌≡◌, ◌⊎◌, inl, inr, ⊎_elim, ℕ, zero, suc, ◌≤◌, ◌==◌, Bool, true, false, if◌then◌else◌, List, [], ◌∷◌, ◌++◌, All, find, flat_map, length, slice_get, take, drop, Option, Some, None, refl, sym, ap, subst, ◌∙◌, arith, length-append}
use Rattle.std.proofs.lemmas.Grind.{flat_map-append}
use Rattle.std.proofs.lemmas.List.{append-nil, drop-take, take-take, take-append-le, length-take, length-take-le, drop_at}
use Rattle.std.proofs.lemmas.List.Elements.{All-from_recursion, recursion_from_All}
use Rattle.std.proofs.Math.Seq.{take-length}
use Rattle.std.specs.List.{AllByRecursion as ByRecursion}
use Rattle.std.specs.Option.{option_map, option_to_list}
use Rattle.sha2.specs.Sha256.{sha256}
use Rattle.fh_model.specs.declared.commands.Act.{Act}
use Rattle.fh_model.specs.declared.commands.Act.TheVariants.{MakeFolder, Upload}
use Rattle.fh_model.specs.declared.commands.Cmd.{Cmd}
use Rattle.fh_model.specs.declared.files.FileMeta.{FileMeta}
use Rattle.fh_model.specs.declared.files.Revision.{Revision}
use Rattle.fh_model.specs.declared.pieces.Piece.{Piece}
use Rattle.fh_model.specs.declared.sessions.Session.{Session}
use Rattle.fh_model.specs.Content.{IsHeld, slice_of}
use Rattle.fh_model.specs.Pieces.{end_of, last_end, session_pieces, pieces_in, end_in, blocks_with, SamePieces, AreHeld, block_in, named_in, data_of, piece_of, with_piece, placed}
use Rattle.fh_model.specs.State.{State, meta_of}
use Rattle.fh_model.specs.Step.{step}
use Rattle.fh_model.proofs.PieceLaws.{Adds, step_adds, last_end-append}

-- ---- a piece that is found lies in front of the state's end

piece_ends : (pieces : List Piece) (i : ℕ) (piece : Piece) → slice_get pieces i ≡ Some piece → end_of piece ≤ last_end pieces
piece_ends [] zero piece is = cc
piece_ends [] (suc i) piece is = cc
piece_ends (first ∷ pieces) zero piece is = let e : first ≡ piece = cc in rw (← e) (omega arith)
piece_ends (first ∷ pieces) (suc i) piece is = omega (arith, piece_ends pieces i piece is)

-- which of two versions is found
found_here : (b : Bool) (rest : Option Revision) (first : Revision) (meta : FileMeta) → option_map (λ kept. kept.file) (if b then Some first else rest) ≡ Some meta
    → ((b ≡ true) × (first.file ≡ meta)) ⊎ (option_map (λ kept. kept.file) rest ≡ Some meta)
found_here true rest first meta is = inl (refl, cc)
found_here false rest first meta is = inr is

meta_ends : (kept : List Revision) (rev : ℕ) (meta : FileMeta) → option_map (λ one. one.file) (find (λ one. one.file.rev == rev) kept) ≡ Some meta
    → last_end meta.pieces ≤ last_end (flat_map (λ one. one.file.pieces) kept)
meta_ends [] rev meta is = cc
meta_ends (first ∷ kept) rev meta is =
    let both = last_end-append first.file.pieces (flat_map (λ (one : Revision). one.file.pieces) kept) in
    ⊎_elim
    (λ here. rw (← here.1) (omega (arith, both)))
    (λ there. omega (arith, both, meta_ends kept rev meta there))
    (found_here (first.file.rev == rev) (find (λ (one : Revision). one.file.rev == rev) kept) first meta is)

block_meta : (found : Option FileMeta) (block : ℕ) (piece : Piece) → option_map (λ meta. slice_get meta.pieces block) found ≡ Some (Some piece) → (meta : FileMeta) × (found ≡ Some meta) × (slice_get meta.pieces block ≡ Some piece)
block_meta None block piece is = cc
block_meta (Some meta) block piece is = (meta, refl, cc)

pub block_ends : (s : State) (rev block : ℕ) (piece : Piece) → block_in s rev block ≡ Some (Some piece) → end_of piece ≤ end_in s
block_ends s rev block piece is =
    let found = block_meta (meta_of s rev) block piece is in
    omega (
      arith,
      piece_ends found.0.pieces block piece found.2,
      meta_ends s.revisions rev found.0 found.1,
      last_end-append (flat_map (λ (one : Revision). one.file.pieces) s.revisions) (flat_map session_pieces s.sessions),
    )

-- ---- the bytes of a piece are among the first of the file

slice_front : (blocks : List ℕ) (piece : Piece) (end : ℕ) → end_of piece ≤ end → slice_of blocks piece ≡ drop piece.place (take (end_of piece) (take end blocks))
slice_front blocks piece end below = sym (ap (drop piece.place) (take-take (end_of piece) end blocks below) ∙ drop-take piece.place piece.len blocks)

pub same_slice : (blocks others : List ℕ) (piece : Piece) (end : ℕ) → end_of piece ≤ end → take end blocks ≡ take end others → slice_of blocks piece ≡ slice_of others piece
same_slice blocks others piece end below same =
    slice_front blocks piece end below ∙ ap (λ front. drop piece.place (take (end_of piece) front)) same ∙ sym (slice_front others piece end below)

one_held : (blocks others : List ℕ) (end : ℕ) (piece : Piece) → take end blocks ≡ take end others → end_of piece ≤ end → IsHeld blocks piece → IsHeld others piece
one_held blocks others end piece same below held = record {
  lies = omega (arith, below, held.lies, ap length same, length-take end blocks, length-take end others);
  digest = held.digest ∙ ap sha256 (same_slice blocks others piece end below same);
}

all_held : (blocks others : List ℕ) (end : ℕ) (pieces : List Piece) → take end blocks ≡ take end others → last_end pieces ≤ end → ByRecursion (IsHeld blocks) pieces → ByRecursion (IsHeld others) pieces
all_held blocks others end [] same below held = held
all_held blocks others end (piece ∷ pieces) same below held =
    (one_held blocks others end piece same (omega (arith, below)) held.0, all_held blocks others end pieces same (omega (arith, below)) held.1)

front_held : (blocks others : List ℕ) (end : ℕ) (pieces : List Piece) → take end blocks ≡ take end others → last_end pieces ≤ end → All (IsHeld blocks) pieces → All (IsHeld others) pieces
front_held blocks others end pieces same below held = All-from_recursion (IsHeld others) pieces (all_held blocks others end pieces same below (recursion_from_All (IsHeld blocks) pieces held))

-- a block file with the same bytes of the pieces holds them too
pub held_same : (s : State) (blocks others : List ℕ) → SamePieces s blocks others → AreHeld s blocks → AreHeld s others
held_same s blocks others same held = front_held blocks others (end_in s) (pieces_in s) same (omega arith) held

-- ---- the pieces behind a step

join : (P : Piece → Type 0) (xs ys : List Piece) → ByRecursion P xs → ByRecursion P ys → ByRecursion P (xs ++ ys)
join P [] ys front back = back
join P (x ∷ xs) ys front back = (front.0, join P xs ys front.1 back)

split : (P : Piece → Type 0) (xs ys : List Piece) → ByRecursion P (xs ++ ys) → ByRecursion P xs × ByRecursion P ys
split P [] ys all = (tt, all)
split P (x ∷ xs) ys all = let rest = split P xs ys all.1 in ((all.0, rest.0), rest.1)

abbrev in_files : List Revision → List Piece
in_files kept = flat_map (λ one. one.file.pieces) kept

abbrev in_sessions : List Session → List Piece
in_sessions held = flat_map session_pieces held

push_flat : {A : Type 0} (of : A → List Piece) (list : List A) (one : A) → flat_map of (list ++ one ∷ []) ≡ flat_map of list ++ of one
push_flat of list one = flat_map-append of list (one ∷ []) ∙ ap (λ (l : List Piece). flat_map of list ++ l) (append-nil (of one))

added : (P : Piece → Type 0) (s t : State) (new : List Piece) → Adds s t new → ByRecursion P (pieces_in s) → ByRecursion P new → ByRecursion P (pieces_in t)
added P s t new (inl same) old more =
    subst (λ (l : List Piece). ByRecursion P l)
    (sym (ap (λ (l : List Revision). in_files l ++ in_sessions t.sessions) same.0 ∙ ap (λ (l : List Session). in_files s.revisions ++ in_sessions l) same.1)) old
added P s t new (inr (inl adds)) old more =
    let parts = split P (in_files s.revisions) (in_sessions s.sessions) old in
    let files : in_files t.revisions ≡ in_files s.revisions ++ new =
    ap in_files adds.revisions ∙ push_flat (λ (one : Revision). one.file.pieces) s.revisions adds.added ∙ ap (λ (l : List Piece). in_files s.revisions ++ l) adds.holds in
    subst (λ (l : List Piece). ByRecursion P l)
    (sym (ap (λ (l : List Piece). l ++ in_sessions t.sessions) files ∙ ap (λ (l : List Session). (in_files s.revisions ++ new) ++ in_sessions l) adds.sessions))
    (join P (in_files s.revisions ++ new) (in_sessions s.sessions) (join P (in_files s.revisions) new parts.0 more) parts.1)
added P s t new (inr (inr adds)) old more =
    let parts = split P (in_files s.revisions) (in_sessions s.sessions) old in
    let sessions : in_sessions t.sessions ≡ in_sessions s.sessions ++ new =
    ap in_sessions adds.sessions ∙ push_flat session_pieces s.sessions adds.added ∙ ap (λ (l : List Piece). in_sessions s.sessions ++ l) adds.holds in
    subst (λ (l : List Piece). ByRecursion P l)
    (sym (ap (λ (l : List Revision). in_files l ++ in_sessions t.sessions) adds.revisions ∙ ap (λ (l : List Piece). in_files s.revisions ++ l) sessions))
    (join P (in_files s.revisions) (in_sessions s.sessions ++ new) parts.0 (join P (in_sessions s.sessions) new parts.1 more))

-- the new piece has the new bytes
data_held : (s : State) (bytes blocks : List ℕ) → end_in s ≤ length blocks → ByRecursion (IsHeld (blocks_with s bytes blocks)) (option_to_list (piece_of (end_in s) bytes))
data_held s [] blocks within = tt
data_held s (byte ∷ bytes) blocks within =
    let front = take (end_in s) blocks in
    let size : length front ≡ end_in s = length-take-le (end_in s) blocks within in
    let slice : take (length (byte ∷ bytes)) (drop (end_in s) (front ++ byte ∷ bytes)) ≡ byte ∷ bytes =
    ap (take (length (byte ∷ bytes))) (drop_at front (byte ∷ bytes) (end_in s) size) ∙ take-length (byte ∷ bytes) in
    (record { lies = omega (arith, size, length-append front (byte ∷ bytes)); digest = ap sha256 (sym slice) }, tt)

named_held : (s : State) (act : Act) (bytes blocks : List ℕ) → end_in s ≤ length blocks
    → ByRecursion (IsHeld (blocks_with s (data_of act bytes) blocks)) (named_in (with_piece (piece_of (end_in s) bytes) act))
named_held s (MakeFolder user path rename) bytes blocks within = tt
named_held s (Upload user commit drafted last) bytes blocks within = data_held s bytes blocks within

same_front : (s : State) (new blocks : List ℕ) → end_in s ≤ length blocks → take (end_in s) blocks ≡ take (end_in s) (blocks_with s new blocks)
same_front s new blocks within =
    let front = take (end_in s) blocks in
    let size : length front ≡ end_in s = length-take-le (end_in s) blocks within in
    sym (take-append-le (end_in s) front new (omega (arith, size)) ∙ take-take (end_in s) (end_in s) blocks (omega arith))

-- The block file with a command's data holds the pieces of the state behind the command.
pub held_next : (s : State) (bytes blocks : List ℕ) (cmd : Cmd) → end_in s ≤ length blocks → AreHeld s blocks → AreHeld (step s (placed s bytes cmd)).state (blocks_with s (data_of cmd.act bytes) blocks)
held_next s bytes blocks cmd within held =
    let more = blocks_with s (data_of cmd.act bytes) blocks in
    let next = placed s bytes cmd in
    let old = recursion_from_All (IsHeld more) (pieces_in s) (held_same s blocks more (same_front s (data_of cmd.act bytes) blocks within) held) in
    All-from_recursion (IsHeld more) (pieces_in (step s next).state)
    (added (IsHeld more) s (step s next).state (named_in next.act) (step_adds s next) old (named_held s cmd.act bytes blocks within))
