-- A command that enters a store, with its data.
use Rattle.std.proofs.Common.{◌≡◌, inl, inr, ⊎_elim, ℕ, ◌+◌, ◌≤◌, ◌<◌, ◌^◌, List, [], ◌∷◌, ◌++◌, MatchBool, is_some, length, take, Option, Some, None, true, false, IsTrue, sym, ◌∙◌, ap, subst}
use Rattle.std.specs.Option.{option_to_list}
use Rattle.byte_formats.specs.Spelling.{Spells}
use Rattle.cmd_codec.specs.Commands.{command}
use Rattle.fh_model.specs.declared.commands.Cmd.{Cmd}
use Rattle.fh_model.specs.declared.pieces.Piece.{Piece}
use Rattle.fh_model.specs.History.{Kept, state_of, next_of}
use Rattle.fh_model.specs.Pieces.{SamePieces, blocks_with, end_in, named_in, piece_of}
use Rattle.fh_model.specs.Step.{step}
use Rattle.fh_world.specs.declared.FileNo.TheVariants as file
use Rattle.fh_world.specs.declared.Disk as disk
use Rattle.fh_world.specs.Disk.{Writes, LeavesOnly, LeavesTorn}
use Rattle.fh_world.proofs.Moments.{joined, weaker}
use Rattle.gate_journal.specs.Journal.{slot_of, is_pending, Settled, Waiting, AnyMoment, Keeps}
use Rattle.gate_journal.specs.Slot.{IsBefore, IsBeforeOrAfter}
use Rattle.gate_journal.specs.declared.Journal.{Journal}
use Rattle.store_core.specs.Commit.{BeginsWith, StandsAround}
use Rattle.store_core.specs.Store.{HoldsBlocks, IsSettledStore, IsReady, IsSound, StandsFor}
use Rattle.store_core.proofs.PutLemmas.{put_below, put_within, put_settled, put_run, put_begins, put_ready, next_limit}
use Rattle.store_core.proofs.StateLemmas.{around_run, blocks_kept, idle_end, settled, sound_entered, sound_faulted, sound_waiting, unopened_run}

-- nothing waits
pub idle_waits : (waiting : Option Cmd) → waiting ≡ None → is_some waiting ≡ true → ⊥
idle_waits None idle waits = cc
idle_waits (Some cmd) idle waits = cc

module _ {D : Type 0} {n : ℕ} (d : disk.Ghosts D) (at : D) (j : Journal) (image : Kept) (waiting : Option Cmd) (sound : IsSound d at j image waiting) (idle : waiting ≡ None)
    (mid : D) (bytes : List ℕ) (end : ℕ) (end_is : end ≡ end_in (state_of image)) (writes : IsTrue d.tells → Writes file.Blocks end n (d.seen at) (d.seen mid) (d.may_leave at) (d.may_leave mid))
    (run : IsTrue d.tells → LeavesOnly d.moment d.left_since at mid (LeavesTorn file.Blocks end n (d.may_leave at))) where
  writes_on : IsTrue d.tells → Writes file.Blocks (end_in (state_of image)) n (d.seen at) (d.seen mid) (d.may_leave at) (d.may_leave mid)
  writes_on told = subst (λ place. Writes file.Blocks place n (d.seen at) (d.seen mid) (d.may_leave at) (d.may_leave mid)) end_is (writes told)

  run_torn : IsTrue d.tells → LeavesOnly d.moment d.left_since at mid (LeavesTorn file.Blocks (end_in (state_of image)) n (d.may_leave at))
  run_torn told = subst (λ place. LeavesOnly d.moment d.left_since at mid (LeavesTorn file.Blocks place n (d.may_leave at))) end_is (run told)

  before : IsTrue d.tells → IsSettledStore d at j (state_of image)
  before told = settled d at j image waiting sound idle told

  -- where the data was put, or not
  pub sound_put : IsSound d mid j image waiting
  sound_put =
      let done = (subst (λ (w : Option Cmd). IsSound d at j image w) idle sound).0 in
      let left : IsTrue d.tells → IsSettledStore d mid j (state_of image) = λ told. put_settled d at j (state_of image) (before told) mid n (writes_on told) in
      subst (λ (w : Option Cmd). IsSound d mid j image w) (sym idle) (done, (idle_end d at j image waiting sound idle, left))

  pub same_put : IsTrue d.tells → SamePieces (state_of image) (d.seen mid file.Blocks) (d.seen at file.Blocks)
  same_put told = put_below d at j (state_of image) (before told) mid n (writes_on told)

  pub run_put : IsTrue d.tells → LeavesOnly d.moment d.left_since at mid (λ files. StandsFor files image waiting (d.seen mid file.Blocks))
  run_put told = weaker d.moment d.left_since at mid _ _ (put_run d at j (state_of image) (before told) mid n (writes_on told) (run_torn told)) (λ files stands. inl stands)

  pub around_put : (cmd : Cmd) → IsTrue d.tells → LeavesOnly d.moment d.left_since at mid (StandsAround (record { disk = at; image = image; waiting = waiting }) cmd (d.seen mid file.Blocks))
  around_put cmd told = weaker d.moment d.left_since at mid _ _ (run_put told) (λ files stands. ⊎_elim inl (λ s. inr (inl s)) stands)

  module _ (new : D) (others : IsTrue d.tells → Keeps d (slot_of j) mid new) where
    same_blocks : IsTrue d.tells → d.seen new file.Blocks ≡ d.seen mid file.Blocks
    same_blocks told = blocks_kept d mid j (state_of image) new (settled d mid j image waiting sound_put idle told) (others told)

    -- behind the append the pieces of the state are as they were
    pub same_after : IsTrue d.tells → SamePieces (state_of image) (d.seen new file.Blocks) (d.seen at file.Blocks)
    same_after told = ap (take (end_in (state_of image))) (same_blocks told) ∙ same_put told

    run_on : IsTrue d.tells → LeavesOnly d.moment d.left_since at mid (λ files. StandsFor files image waiting (d.seen new file.Blocks))
    run_on told = subst (λ (b : List ℕ). LeavesOnly d.moment d.left_since at mid (λ files. StandsFor files image waiting b)) (sym (same_blocks told)) (run_put told)

    -- where its record was not let in
    pub unopened_after : (told : IsTrue d.tells) → ((bodies : List (List ℕ)) → Settled d mid j bodies → AnyMoment d mid new (slot_of j) (IsBefore bodies))
        → LeavesOnly d.moment d.left_since at new (λ files. StandsFor files image waiting (d.seen new file.Blocks))
    unopened_after told appended =
        joined d.moment d.left_since at mid new (λ files. StandsFor files image waiting (d.seen new file.Blocks)) (run_on told)
        (unopened_run d mid j image waiting sound_put idle new told (others told) appended)

    module _ (put : IsTrue d.tells → take (end + length bytes) (d.seen mid file.Blocks) ≡ take end (d.seen at file.Blocks) ++ bytes) where
      -- the data stands behind the pieces of the state
      pub begins_after : IsTrue d.tells → BeginsWith (blocks_with (state_of image) bytes (d.seen at file.Blocks)) (d.seen new file.Blocks)
      begins_after told =
          put_begins (state_of image) bytes (d.seen at file.Blocks) (d.seen new file.Blocks) (put_within d at j (state_of image) (before told) mid n (writes_on told))
          (ap (take (end_in (state_of image) + length bytes)) (same_blocks told)
          ∙ subst (λ n. take (n + length bytes) (d.seen mid file.Blocks) ≡ take n (d.seen at file.Blocks) ++ bytes) end_is (put told))

    module _ (cmd : Cmd) (enters : (step (state_of image) cmd).enters ≡ true) (piece : Option Piece) (named : named_in cmd.act ≡ option_to_list piece) (is : piece ≡ piece_of (end_in (state_of image)) bytes)
        (held : 0 < length bytes → IsTrue d.tells → HoldsBlocks d mid (end + length bytes) (end + length bytes)) where
      ready : IsTrue d.tells → IsReady d mid (state_of image) cmd
      ready told = put_ready d mid j (state_of image) (settled d mid j image waiting sound_put idle told) bytes cmd piece named is
          (λ some. subst (λ n. HoldsBlocks d mid (n + length bytes) (n + length bytes)) end_is (held some told))

      -- at every moment of both
      pub around_after : (body : List ℕ) → Spells command body cmd → (told : IsTrue d.tells) → ((bodies : List (List ℕ)) → Settled d mid j bodies → AnyMoment d mid new (slot_of j) (IsBeforeOrAfter bodies (body ∷ [])))
          → LeavesOnly d.moment d.left_since at new (StandsAround (record { disk = at; image = image; waiting = waiting }) cmd (d.seen new file.Blocks))
      around_after body spelling told appended =
          joined d.moment d.left_since at mid new (StandsAround (record { disk = at; image = image; waiting = waiting }) cmd (d.seen new file.Blocks))
          (weaker d.moment d.left_since at mid _ _ (run_on told) (λ files stands. ⊎_elim inl (λ s. inr (inl s)) stands))
          (around_run d mid j image waiting sound_put idle cmd enters ready new body spelling told (others told) appended)

      module _ (k : Journal) (body : List ℕ) (spelling : Spells command body cmd) (same : slot_of k ≡ slot_of j) where
        pub entered_after : (limit : 0 < length bytes → end + length bytes ≤ 2 ^ 62) (next : Kept) → next ≡ next_of image cmd → is_pending k ≡ false
            → (IsTrue d.tells → (bodies : List (List ℕ)) → Settled d mid j bodies → Settled d new k (bodies ++ body ∷ [])) → IsSound d new k next waiting
        entered_after limit next next_is done acknowledged =
            sound_entered d mid j image waiting sound_put idle cmd enters ready new k body spelling others same next next_is
            (next_limit (state_of image) bytes cmd piece named is (idle_end d at j image waiting sound idle)
            (λ some. subst (λ n. n + length bytes ≤ 2 ^ 62) end_is (limit some))) done acknowledged

        pub waiting_after : is_pending k ≡ true → (IsTrue d.tells → (bodies : List (List ℕ)) → Settled d mid j bodies → MatchBool (is_pending k) (Waiting d new k bodies (body ∷ [])) (Settled d new k bodies)) → IsSound d new k image (Some cmd)
        waiting_after waits fault = sound_waiting d mid j image waiting sound_put idle cmd enters ready new k body spelling others same waits fault

        pub faulted_after : is_pending k ≡ false → (IsTrue d.tells → (bodies : List (List ℕ)) → Settled d mid j bodies → MatchBool (is_pending k) (Waiting d new k bodies (body ∷ [])) (Settled d new k bodies)) → IsSound d new k image waiting
        faulted_after done fault = sound_faulted d mid j image waiting sound_put idle cmd enters ready new k body spelling others same done fault
