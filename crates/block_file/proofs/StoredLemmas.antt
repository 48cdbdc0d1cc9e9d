-- Pieces are stored by a write that is synced, and stay where what is written lies behind them.
use Rattle.std.proofs.Common.{◌≡◌, ℕ, ◌+◌, ◌≤◌, List, ◌++◌, length, take, drop, refl, sym, ◌∙◌, ap, subst, arith, append_assoc, length-append}
use Rattle.std.proofs.lemmas.List.{drop-take, take-take, drop_at, take_at, length-take-le}
use Rattle.fh_model.specs.declared.Piece.{Piece}
use Rattle.fh_model.specs.Content.{slice_of}
use Rattle.fh_world.specs.declared.FileNo.{FileNo}
use Rattle.fh_world.specs.declared.FileNo.TheVariants.{Blocks}
use Rattle.fh_world.specs.Disk.{Files, Overwritten, Only, Torn, Writes}
use Rattle.block_file.specs.Stored.{Holds, IsStored}

-- the file holds what was written over it
holds_written : (end : ℕ) (old new : List ℕ) (piece : Piece) (bytes : List ℕ) → piece.place ≡ end → piece.len ≡ length bytes → end ≤ length old → Overwritten end bytes old new → Holds new piece bytes
holds_written end old new piece bytes place len within written =
    let front = take end old in
    let back = drop (end + length bytes) old in
    let is : new ≡ front ++ (bytes ++ back) = written ∙ append_assoc front bytes back in
    let size : length front ≡ end = length-take-le end old within in
    let behind : drop end new ≡ bytes ++ back = ap (drop end) is ∙ drop_at front (bytes ++ back) end size in
    record {
      lies = omega (arith, place, len, size, ap length is, length-append front (bytes ++ back), length-append bytes back);
      slice =
          ap (λ at. take piece.len (drop at new)) place ∙ ap (λ n. take n (drop end new)) len
          ∙ ap (take (length bytes)) behind ∙ take_at bytes back (length bytes) refl;
    }

pub stored_now : (end : ℕ) (seen_old seen_new : Files) (may_new : FileNo → List ℕ → Type 0) (piece : Piece) (bytes : List ℕ)
    → piece.place ≡ end → piece.len ≡ length bytes → end ≤ length (seen_old Blocks) → Overwritten end bytes (seen_old Blocks) (seen_new Blocks) → Only (seen_new Blocks) (may_new Blocks)
    → IsStored seen_new may_new piece bytes
stored_now end seen_old seen_new may_new piece bytes place len within written durable =
    let here : Holds (seen_new Blocks) piece bytes = holds_written end _ _ piece bytes place len within written in
    record { now = here; left = λ c may. subst (λ (blocks : List ℕ). Holds blocks piece bytes) (sym (durable c may)) here }

-- the bytes of a piece are among the first of the file
slice_front : (blocks : List ℕ) (piece : Piece) (end : ℕ) → piece.place + piece.len ≤ end → slice_of blocks piece ≡ drop piece.place (take (piece.place + piece.len) (take end blocks))
slice_front blocks piece end below = sym (ap (drop piece.place) (take-take (piece.place + piece.len) end blocks below) ∙ drop-take piece.place piece.len blocks)

holds_torn : (end n : ℕ) (old new : List ℕ) (piece : Piece) (bytes : List ℕ) → Torn end n old new → piece.place + piece.len ≤ end → Holds old piece bytes → Holds new piece bytes
holds_torn end n old new piece bytes torn below holds = record {
  lies = omega (arith, holds.lies, torn.no_shorter);
  slice =
      slice_front new piece end below ∙ ap (λ front. drop piece.place (take (piece.place + piece.len) front)) torn.before
      ∙ sym (slice_front old piece end below) ∙ holds.slice;
}

pub stored_stays : (end n : ℕ) (seen_old seen_new : Files) (may_old may_new : FileNo → List ℕ → Type 0) (piece : Piece) (bytes : List ℕ)
    → Writes Blocks end n seen_old seen_new may_old may_new → piece.place + piece.len ≤ end → IsStored seen_old may_old piece bytes → IsStored seen_new may_new piece bytes
stored_stays end n seen_old seen_new may_old may_new piece bytes writes below stored = record {
  now = holds_torn end n _ _ piece bytes writes.seen below stored.now;
  left = λ c may. let before = writes.crash c may in holds_torn end n before.0 c piece bytes before.2 below (stored.left before.0 before.1);
}
