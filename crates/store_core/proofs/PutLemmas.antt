-- What putting a command's data makes of a store.
use Rattle.std.proofs.Common.{◌≡◌, ◌≢◌, ℕ, ◌+◌, ◌≤◌, ◌<◌, ◌^◌, List, [], ◌∷◌, ◌++◌, length, take, drop, Option, sym, ◌∙◌, ap, arith, length-append, take-append-drop}
use Rattle.std.proofs.lemmas.List.{drop-take, take-take, length-take-le}
use Rattle.std.specs.Option.{option_to_list}
use Rattle.block_file.specs.Stored.{IsPieceOf, Stored}
use Rattle.fh_model.specs.declared.commands.Cmd.{Cmd}
use Rattle.fh_model.specs.declared.pieces.Piece.{Piece}
use Rattle.fh_model.specs.Pieces.{last_end, end_in, named_in, piece_of, blocks_with, SamePieces}
use Rattle.fh_model.specs.State.{State}
use Rattle.fh_model.specs.Step.{step}
use Rattle.fh_model.proofs.PieceLaws.{step_end}
use Rattle.fh_world.specs.declared.FileNo.TheVariants as file
use Rattle.fh_world.specs.declared.Disk as disk
use Rattle.fh_world.specs.Disk.{Writes, LeavesOnly, LeavesTorn}
use Rattle.fh_world.proofs.Moments.{weaker}
use Rattle.gate_journal.specs.Journal.{slot_of, Keeps}
use Rattle.gate_journal.specs.declared.Journal.{Journal}
use Rattle.gate_journal.proofs.StateLemmas.{settled_left, settled_beside}
use Rattle.store_core.specs.Commit.{BeginsWith}
use Rattle.store_core.specs.Files.{Stands}
use Rattle.store_core.specs.Head.{head_in}
use Rattle.store_core.specs.Store.{HoldsBlocks, IsSettledStore, IsReady}
use Rattle.store_core.proofs.BlockLemmas.{end_lies}
use Rattle.store_core.proofs.BodyLemmas.{stand_end}
use Rattle.store_core.proofs.StateLemmas.{head_is_no_blocks, blocks_apart, stands_by}

-- ---- a file that is torn behind its first bytes

-- the first bytes of both parts
take-both : (n m : ℕ) (xs : List ℕ) → take (n + m) xs ≡ take n xs ++ take m (drop n xs)
take-both n m xs =
    sym (take-append-drop n (take (n + m) xs))
    ∙ ap (λ (front : List ℕ). front ++ drop n (take (n + m) xs)) (take-take n (n + m) xs (omega arith))
    ∙ ap (λ (back : List ℕ). take n xs ++ back) (drop-take n m xs)

-- ---- the call that puts

module _ {D : Type 0} (d : disk.Ghosts D) (at : D) where
  -- where it was put
  module _ (new : D) (end : ℕ) (bytes : List ℕ) (piece : Piece) (is : IsPieceOf piece end bytes) (stored : Stored d new piece bytes) where
    pub put_bytes : {n : ℕ} → Writes file.Blocks end n (d.seen at) (d.seen new) (d.may_leave at) (d.may_leave new)
        → take (end + length bytes) (d.seen new file.Blocks) ≡ take end (d.seen at file.Blocks) ++ bytes
    put_bytes writes =
        let slice : take (length bytes) (drop end (d.seen new file.Blocks)) ≡ bytes =
        ap (λ n. take (length bytes) (drop n (d.seen new file.Blocks))) (sym is.at) ∙ ap (λ n. take n (drop piece.place (d.seen new file.Blocks))) (sym is.len) ∙ stored.now.slice in
        take-both end (length bytes) (d.seen new file.Blocks)
        ∙ ap (λ (front : List ℕ). front ++ take (length bytes) (drop end (d.seen new file.Blocks))) writes.seen.before
        ∙ ap (λ (back : List ℕ). take end (d.seen at file.Blocks) ++ back) slice

-- ---- a store after it

module _ {D : Type 0} (d : disk.Ghosts D) (at : D) (j : Journal) (state : State) (is : IsSettledStore d at j state) (new : D) (n : ℕ)
    (writes : Writes file.Blocks (end_in state) n (d.seen at) (d.seen new) (d.may_leave at) (d.may_leave new)) where
  slot_is_no_blocks : slot_of j ≢ file.Blocks
  slot_is_no_blocks same = blocks_apart (d.seen at file.Head) (slot_of j) is.named.now (sym same)

  keeps : Keeps d file.Blocks at new
  keeps = record { seen = writes.others_seen; crash = writes.others_crash }

  -- the pieces of the state keep their bytes
  pub put_below : SamePieces state (d.seen new file.Blocks) (d.seen at file.Blocks)
  put_below = writes.seen.before

  pub put_within : end_in state ≤ length (d.seen at file.Blocks)
  put_within = omega (arith, stand_end is.len is.bodies state is.stand, is.blocks.now)

  pub put_settled : IsSettledStore d new j state
  put_settled = record {
    named = record {
      now = ap head_in (writes.others_seen file.Head head_is_no_blocks) ∙ is.named.now;
      left = λ c may. is.named.left c (writes.others_crash file.Head head_is_no_blocks c may);
    };
    bodies = is.bodies;
    slot = settled_beside file.Blocks (d.seen at) (d.seen new) (d.may_leave at) (d.may_leave new) keeps j slot_is_no_blocks is.bodies is.slot;
    len = is.len;
    stand = is.stand;
    blocks = record {
      now = omega (arith, is.blocks.now, writes.seen.no_shorter);
      left = λ c may.
          let from = writes.crash c may in
          let old = is.blocks.left from.0 from.1 in
          (omega (arith, old.0, from.2.no_shorter), from.2.before ∙ old.1 ∙ sym writes.seen.before);
    };
  }

  -- at every moment of it
  pub put_run : LeavesOnly d.moment d.left_since at new (LeavesTorn file.Blocks (end_in state) n (d.may_leave at)) → LeavesOnly d.moment d.left_since at new (λ files. Stands files state (d.seen new file.Blocks))
  put_run run = weaker d.moment d.left_since at new _ _ run (λ files left.
      let torn = left.torn in
      let old = is.blocks.left torn.0 torn.1 in
      stands_by files (slot_of j) is.bodies state is.len (d.seen new file.Blocks) (is.named.left (files file.Head) (left.others file.Head head_is_no_blocks))
      (settled_left (d.seen at) (d.may_leave at) j is.bodies is.slot (files (slot_of j)) (left.others (slot_of j) slot_is_no_blocks)) is.stand
      (omega (arith, old.0, torn.2.no_shorter)) (torn.2.before ∙ old.1 ∙ sym writes.seen.before))

-- the block file begins with the state's pieces and the data
pub put_begins : (state : State) (bytes old new : List ℕ) → end_in state ≤ length old → take (end_in state + length bytes) new ≡ take (end_in state) old ++ bytes → BeginsWith (blocks_with state bytes old) new
put_begins state bytes old new within is =
    let size : length (blocks_with state bytes old) ≡ end_in state + length bytes =
    length-append (take (end_in state) old) bytes ∙ ap (λ n. n + length bytes) (length-take-le (end_in state) old within) in
    ap (λ n. take n new) size ∙ is

-- ---- what a command names

piece_end : (place : ℕ) (bytes : List ℕ) → last_end (option_to_list (piece_of place bytes)) ≤ place + length bytes
piece_end place [] = omega arith
piece_end place (byte ∷ bytes) = omega arith

pub named_end : (place : ℕ) (bytes : List ℕ) (cmd : Cmd) (piece : Option Piece) → named_in cmd.act ≡ option_to_list piece → piece ≡ piece_of place bytes → last_end (named_in cmd.act) ≤ place + length bytes
named_end place bytes cmd piece named is =
    omega (arith, ap last_end (named ∙ ap option_to_list is), piece_end place bytes)

-- the next state's end is one that a file can have
pub next_limit : (state : State) (bytes : List ℕ) (cmd : Cmd) (piece : Option Piece) → named_in cmd.act ≡ option_to_list piece → piece ≡ piece_of (end_in state) bytes
    → end_in state ≤ 2 ^ 62 → (0 < length bytes → end_in state + length bytes ≤ 2 ^ 62) → end_in (step state cmd).state ≤ 2 ^ 62
next_limit state [] cmd piece named is old new =
    omega (arith, (step_end state cmd).1, named_end (end_in state) [] cmd piece named is, old)
next_limit state (byte ∷ bytes) cmd piece named is old new =
    let limit = new (omega arith) in
    omega (arith, (step_end state cmd).1, named_end (end_in state) (byte ∷ bytes) cmd piece named is, limit)

-- the block file holds what the command names
module _ {D : Type 0} (d : disk.Ghosts D) (at : D) (j : Journal) (state : State) (is : IsSettledStore d at j state) where
  pub put_ready : (bytes : List ℕ) (cmd : Cmd) (piece : Option Piece) → named_in cmd.act ≡ option_to_list piece → piece ≡ piece_of (end_in state) bytes
      → (0 < length bytes → HoldsBlocks d at (end_in state + length bytes) (end_in state + length bytes)) → IsReady d at state cmd
  put_ready [] cmd piece named is_piece held = record {
    len = end_in state;
    within = omega arith;
    lies = end_lies (end_in state) cmd (omega (arith, named_end (end_in state) [] cmd piece named is_piece));
    blocks = record {
      now = omega (arith, stand_end is.len is.bodies state is.stand, is.blocks.now);
      left = λ c may. let both = is.blocks.left c may in (omega (arith, stand_end is.len is.bodies state is.stand, both.0), both.1);
    };
  }
  put_ready (byte ∷ bytes) cmd piece named is_piece held = record {
    len = end_in state + length (byte ∷ bytes);
    within = omega arith;
    lies = end_lies (end_in state + length (byte ∷ bytes)) cmd (named_end (end_in state) (byte ∷ bytes) cmd piece named is_piece);
    blocks = held (omega arith);
  }
