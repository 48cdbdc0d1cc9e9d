-- The blocks of a version that is kept: each is found under its rev in each later state, and they have its size together.
use Rattle.std.proofs.Common.{◌≡◌, ℕ, ◌==◌, Bool, true, false, cond, List, [], ◌∷◌, ◌++◌, All, find, flat_map, length, drop, slice_get, Option, Some, refl, ap, subst, sym, ◌∙◌, arith, length-append, length-drop, length-take}
use Rattle.std.proofs.lemmas.Bool.{eqb-true}
use Rattle.std.proofs.lemmas.List.Elements.{All-from_recursion, recursion_from_All}
use Rattle.std.specs.List.{AllByRecursion as ByRecursion}
use Rattle.std.specs.Option.{option_map}
use Rattle.fh_model.specs.declared.commands.Cmd.{Cmd}
use Rattle.fh_model.specs.declared.files.FileMeta.{FileMeta}
use Rattle.fh_model.specs.declared.files.Revision.{Revision}
use Rattle.fh_model.specs.declared.pieces.Piece.{Piece}
use Rattle.fh_model.specs.Content.{IsHeld, slice_of, content_of, size_of}
use Rattle.fh_model.specs.History.{state_after}
use Rattle.fh_model.specs.KeptFiles.{IsKept, KeepsFiles}
use Rattle.fh_model.specs.Pieces.{session_pieces, pieces_in, AreHeld, block_in}
use Rattle.fh_model.specs.State.{State}
use Rattle.fh_model.proofs.FoundFileLaws.{kept_size}
use Rattle.fh_model.proofs.VersionLaws.{version_in, versions_stay}

-- ---- each block

pub kept_block : (s : State) (meta : FileMeta) (block : ℕ) → IsKept s meta → block_in s meta.rev block ≡ Some (slice_get meta.pieces block)
kept_block s meta block is = ap (option_map (λ (one : FileMeta). slice_get one.pieces block)) is

-- Who learned of a version finds its blocks, and no others, in each later state.
pub later_block : (s : State) (history : List Cmd) (meta : FileMeta) (block : ℕ) → IsKept s meta
    → block_in (state_after s history) meta.rev block ≡ Some (slice_get meta.pieces block)
later_block s history meta block is = kept_block (state_after s history) meta block (versions_stay s history meta.rev meta is)

-- ---- all of them

in_front : (P : Piece → Type 0) (xs ys : List Piece) → ByRecursion P (xs ++ ys) → ByRecursion P xs
in_front P [] ys all = tt
in_front P (x ∷ xs) ys all = (all.0, in_front P xs ys all.1)

behind : (P : Piece → Type 0) (xs ys : List Piece) → ByRecursion P (xs ++ ys) → ByRecursion P ys
behind P [] ys all = all
behind P (x ∷ xs) ys all = behind P xs ys all.1

first_or : (P : Piece → Type 0) (b : Bool) (first : Revision) (rest : Option Revision) (meta : FileMeta) → ByRecursion P first.file.pieces
    → (option_map (λ one. one.file) rest ≡ Some meta → ByRecursion P meta.pieces) → option_map (λ one. one.file) (cond b (Some first) rest) ≡ Some meta → ByRecursion P meta.pieces
first_or P true first rest meta here there is = let e : first.file ≡ meta = cc in subst (λ (one : FileMeta). ByRecursion P one.pieces) e here
first_or P false first rest meta here there is = there is

version_pieces : (P : Piece → Type 0) (kept : List Revision) (rev : ℕ) (meta : FileMeta) → version_in kept rev ≡ Some meta
    → ByRecursion P (flat_map (λ one. one.file.pieces) kept) → ByRecursion P meta.pieces
version_pieces P [] rev meta is all = cc
version_pieces P (first ∷ kept) rev meta is all =
    let others = flat_map (λ (one : Revision). one.file.pieces) kept in
    first_or P (first.file.rev == rev) first (find (λ (one : Revision). one.file.rev == rev) kept) meta (in_front P first.file.pieces others all)
    (λ found. version_pieces P kept rev meta found (behind P first.file.pieces others all)) is

-- what each piece of a state has, each piece of a kept version has
pub kept_pieces : (P : Piece → Type 0) (s : State) (meta : FileMeta) → IsKept s meta → All P (pieces_in s) → All P meta.pieces
kept_pieces P s meta is all =
    All-from_recursion P meta.pieces
    (version_pieces P s.revisions meta.rev meta is
    (in_front P (flat_map (λ (one : Revision). one.file.pieces) s.revisions) (flat_map session_pieces s.sessions) (recursion_from_All P (pieces_in s) all)))

held_length : (blocks : List ℕ) (pieces : List Piece) → ByRecursion (IsHeld blocks) pieces → length (content_of blocks pieces) ≡ size_of pieces
held_length blocks [] held = refl
held_length blocks (piece ∷ pieces) held =
    omega (
      arith,
      held.0.lies,
      length-append (slice_of blocks piece) (content_of blocks pieces),
      length-take piece.len (drop piece.place blocks),
      length-drop piece.place blocks,
      held_length blocks pieces held.1,
    )

-- The content of a kept version has its size, where the block file holds the pieces of the state.
pub kept_length : (s : State) (blocks : List ℕ) (meta : FileMeta) → KeepsFiles s → AreHeld s blocks → IsKept s meta → length (content_of blocks meta.pieces) ≡ meta.size
kept_length s blocks meta keeps held is =
    held_length blocks meta.pieces (recursion_from_All (IsHeld blocks) meta.pieces (kept_pieces (IsHeld blocks) s meta is held))
    ∙ sym (eqb-true meta.size (size_of meta.pieces) (kept_size s meta keeps is))
