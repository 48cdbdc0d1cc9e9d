-- A store of which a block is read.
use Rattle.std.proofs.Common.{◌≡◌, ℕ, ◌≤◌, List, [], ◌∷◌, length, take, Option, Some, None, IsTrue, refl, sym, ◌∙◌, ap, subst, arith}
use Rattle.fh_model.specs.declared.commands.Cmd.{Cmd}
use Rattle.fh_model.specs.declared.pieces.Piece.{Piece}
use Rattle.fh_model.specs.Content.{LiesIn}
use Rattle.fh_model.specs.History.{Kept, state_of}
use Rattle.fh_model.specs.Pieces.{block_in, end_in}
use Rattle.fh_model.specs.State.{State}
use Rattle.fh_model.proofs.HeldLaws.{block_ends}
use Rattle.fh_world.specs.declared.FileNo.{FileNo}
use Rattle.fh_world.specs.declared.FileNo.TheVariants as file
use Rattle.fh_world.specs.declared.Disk as disk
use Rattle.fh_world.specs.Disk.{Rests, LeavesOnly}
use Rattle.fh_world.proofs.Moments.{weaker}
use Rattle.gate_journal.specs.Journal.{slot_of}
use Rattle.gate_journal.specs.declared.Journal.{Journal}
use Rattle.gate_journal.proofs.StateLemmas.{settled_kept, waiting_kept}
use Rattle.store_core.specs.Head.{head_in}
use Rattle.store_core.specs.Store.{NamesSlot, HoldsBlocks, IsSettledStore, IsWaitingStore, IsSound, StandsFor}
use Rattle.store_core.proofs.BodyLemmas.{stand_end}
use Rattle.store_core.proofs.StateLemmas.{sound_kept}

-- the pieces of the state lie in the block file
pub sound_lies : {D : Type 0} (d : disk.Ghosts D) (at : D) (j : Journal) (image : Kept) (waiting : Option Cmd) → IsSound d at j image waiting → IsTrue d.tells → end_in (state_of image) ≤ length (d.seen at file.Blocks)
sound_lies d at j image None sound told =
    let is = sound.1.1 told in
    omega (arith, stand_end is.len is.bodies (state_of image) is.stand, is.blocks.now)
sound_lies d at j image (Some cmd) sound told =
    let is = sound.1.1 told in
    omega (arith, stand_end is.len is.bodies (state_of image) is.stand, is.blocks.now)

-- so does each that is fetched
pub piece_lies : {D : Type 0} (d : disk.Ghosts D) (at : D) (j : Journal) (image : Kept) (waiting : Option Cmd) → IsSound d at j image waiting → (rev block : ℕ) (piece : Piece)
    → block_in (state_of image) rev block ≡ Some (Some piece) → IsTrue d.tells → LiesIn (d.seen at file.Blocks) piece
piece_lies d at j image waiting sound rev block piece there told =
    omega (arith, sound_lies d at j image waiting sound told, block_ends (state_of image) rev block piece there)

-- ---- what is only read stays

pub rests_same : {D : Type 0} (d : disk.Ghosts D) (at : D) → Rests (d.seen at) (d.seen at) (d.may_leave at) (d.may_leave at)
rests_same d at = record { seen = λ g. refl; crash = λ g c may. may }

module _ {D : Type 0} (d : disk.Ghosts D) (at new : D) (rests : Rests (d.seen at) (d.seen new) (d.may_leave at) (d.may_leave new)) where
  named_rests : (slot : FileNo) → NamesSlot d at slot → NamesSlot d new slot
  named_rests slot is = record {
    now = ap head_in (rests.seen file.Head) ∙ is.now;
    left = λ c may. is.left c (rests.crash file.Head c may);
  }

  holds_rests : (len end : ℕ) → HoldsBlocks d at len end → HoldsBlocks d new len end
  holds_rests len end is = record {
    now = omega (arith, is.now, ap length (rests.seen file.Blocks));
    left = λ c may. let both = is.left c (rests.crash file.Blocks c may) in (both.0, both.1 ∙ ap (take end) (sym (rests.seen file.Blocks)));
  }

  settled_rests : (j : Journal) (state : State) → IsSettledStore d at j state → IsSettledStore d new j state
  settled_rests j state is = record {
    named = named_rests (slot_of j) is.named;
    bodies = is.bodies;
    slot = settled_kept (d.seen at) (d.seen new) (d.may_leave at) (d.may_leave new) j is.bodies (rests.seen (slot_of j)) (rests.crash (slot_of j)) is.slot;
    len = is.len;
    stand = is.stand;
    blocks = holds_rests is.len (end_in state) is.blocks;
  }

  waiting_rests : (j : Journal) (state : State) (cmd : Cmd) → IsWaitingStore d at j state cmd → IsWaitingStore d new j state cmd
  waiting_rests j state cmd is = record {
    named = named_rests (slot_of j) is.named;
    bodies = is.bodies;
    body = is.body;
    slot = waiting_kept (d.seen at) (d.seen new) (d.may_leave at) (d.may_leave new) j is.bodies (is.body ∷ []) (rests.seen (slot_of j)) (rests.crash (slot_of j)) is.slot;
    len = is.len;
    stand = is.stand;
    spelled = is.spelled;
    lies = is.lies;
    blocks = holds_rests is.len _ is.blocks;
  }

  pub sound_rests : (j : Journal) (image : Kept) (waiting : Option Cmd) → IsSound d at j image waiting → IsSound d new j image waiting
  sound_rests j image None sound = (sound.0, (sound.1.0, λ told. settled_rests j (state_of image) (sound.1.1 told)))
  sound_rests j image (Some cmd) sound = (sound.0, (sound.1.0, λ told. waiting_rests j (state_of image) cmd (sound.1.1 told)))

  pub rests_run : (j : Journal) (image : Kept) (waiting : Option Cmd) → IsSound d at j image waiting → LeavesOnly d.moment d.left_since at new (λ files. (g : FileNo) → d.may_leave at g (files g)) → IsTrue d.tells
      → LeavesOnly d.moment d.left_since at new (λ files. StandsFor files image waiting (d.seen new file.Blocks))
  rests_run j image waiting sound run told = weaker d.moment d.left_since at new _ _ run (λ files left.
      subst (λ (b : List ℕ). StandsFor files image waiting b) (sym (rests.seen file.Blocks)) (sound_kept d at j image waiting told sound files left))
