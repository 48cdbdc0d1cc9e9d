-- Which pieces the block file of a store holds after a command.
use Rattle.std.proofs.Common.{◌≡◌, inl, inr, ℕ, ◌+◌, ◌≤◌, List, true, false, length, take, None, Result, Ok, Err, OnOk, OnErr, IsTrue, refl, sym, ◌∙◌, ap, subst, arith, length-append}
use Rattle.std.proofs.lemmas.Bool.{cases_Bool}
use Rattle.std.proofs.lemmas.List.{length-take-le}
use Rattle.std.proofs.Math.Seq.{take-length}
use Rattle.fh_model.specs.declared.commands.Cmd.{Cmd}
use Rattle.fh_model.specs.History.{state_of, next_of}
use Rattle.fh_model.specs.Pieces.{AreHeld, SamePieces, blocks_with, data_of, end_in, placed}
use Rattle.fh_model.specs.State.{State}
use Rattle.fh_model.specs.Step.{step}
use Rattle.fh_model.proofs.HeldLaws.{held_next, held_same}
use Rattle.fh_model.proofs.PieceLaws.{step_end}
use Rattle.fh_world.specs.declared.FileNo.TheVariants as file
use Rattle.fh_world.specs.declared.Disk as disk
use Rattle.store_core.specs.Commit.{BeginsWith, IsFaulted, placed_in}
use Rattle.store_core.specs.Store.{Opened, finished, with_waiting}
use Rattle.store_core.proofs.BlockLemmas.{fewer_same}
use Rattle.store_core.proofs.CommitLemmas.{data_named}
use Rattle.store_core.proofs.PutLemmas.{named_end}
use Rattle.store_core.proofs.StateLemmas.{state_of_next}

-- those of the next state, with bytes of their digests, where it held those of the state
pub entered_held : (s : State) (bytes blocks new : List ℕ) (cmd : Cmd) → end_in s ≤ length blocks → BeginsWith (blocks_with s (data_of cmd.act bytes) blocks) new → AreHeld s blocks → AreHeld (step s (placed s bytes cmd)).state new
entered_held s bytes blocks new cmd within begins held =
    let content = data_of cmd.act bytes in
    let more = blocks_with s content blocks in
    let next = placed s bytes cmd in
    let size : length more ≡ end_in s + length content = length-append (take (end_in s) blocks) content ∙ ap (λ n. n + length content) (length-take-le (end_in s) blocks within) in
    let end : end_in (step s next).state ≤ length more = omega (arith, size, (step_end s next).1, named_end (end_in s) content next _ (data_named (end_in s) cmd.act bytes) refl) in
    let same : take (end_in (step s next).state) more ≡ take (end_in (step s next).state) new =
    sym (fewer_same (end_in (step s next).state) (length more) new more end (begins ∙ sym (take-length more))) in
    held_same (step s next).state more new same (held_next s bytes blocks cmd within held)

-- where it didn't enter, the image is as it was
pub faulted_image : {D : Type 0} (old new : Opened D) (cmd : Cmd) → old.waiting ≡ None → IsFaulted old cmd new → new.image ≡ old.image
faulted_image old new cmd idle (inl before) = before.0
faulted_image old new cmd idle (inr (inl done)) = done.0 ∙ ap (with_waiting old.image) idle
faulted_image old new cmd idle (inr (inr left)) = left.0 ∙ ap (with_waiting old.image) idle

-- behind a commit
pub commit_held : {D T E : Type 0} (d : disk.Ghosts D) (old new : Opened D) (r : Result T E) (bytes : List ℕ) (cmd : Cmd) → old.waiting ≡ None → end_in (state_of old.image) ≤ length (d.seen old.disk file.Blocks)
    → OnOk r ((new.image ≡ next_of (finished old) (placed_in old bytes cmd)) × (new.waiting ≡ None)) → OnErr r (IsFaulted old (placed_in old bytes cmd) new)
    → ((step (state_of old.image) (placed_in old bytes cmd)).enters ≡ false → new ≡ old) → IsTrue d.tells
    → OnOk r ((step (state_of old.image) (placed_in old bytes cmd)).enters ≡ true → IsTrue d.tells → BeginsWith (blocks_with (state_of old.image) (data_of cmd.act bytes) (d.seen old.disk file.Blocks)) (d.seen new.disk file.Blocks))
    → SamePieces (state_of old.image) (d.seen new.disk file.Blocks) (d.seen old.disk file.Blocks) → AreHeld (state_of old.image) (d.seen old.disk file.Blocks)
    → AreHeld (state_of new.image) (d.seen new.disk file.Blocks)
commit_held d old new (Ok reply) bytes cmd idle within image fault refused told stored below held =
    let s = state_of old.image in
    let blocks = d.seen old.disk file.Blocks in
    let next = placed s bytes cmd in
    let same : state_of (finished old) ≡ s = ap (λ w. state_of (with_waiting old.image w)) idle in
    let put : placed_in old bytes cmd ≡ next = ap (λ z. placed z bytes cmd) same in
    let done : finished old ≡ old.image = ap (with_waiting old.image) idle in
    elim (cases_Bool (step s next).enters) [
      | inl enters ↦
          let began = stored (ap (λ k. (step s k).enters) put ∙ enters) told in
          let state : state_of new.image ≡ (step s next).state = ap state_of (image.0 ∙ ap (λ k. next_of (finished old) k) put ∙ ap (λ k. next_of k next) done) ∙ state_of_next old.image next enters in
          subst (λ z. AreHeld z (d.seen new.disk file.Blocks)) (sym state) (entered_held s bytes blocks (d.seen new.disk file.Blocks) cmd within began held)
      | inr stays ↦
          let e : new ≡ old = refused (ap (λ k. (step s k).enters) put ∙ stays) in
          subst (λ o. AreHeld (state_of o.image) (d.seen o.disk file.Blocks)) (sym e) held
    ]
commit_held d old new (Err fault_is) bytes cmd idle within image fault refused told stored below held =
    let e : new.image ≡ old.image = faulted_image old new (placed_in old bytes cmd) idle fault in
    subst (λ k. AreHeld (state_of k) (d.seen new.disk file.Blocks)) (sym e) (held_same (state_of old.image) (d.seen old.disk file.Blocks) (d.seen new.disk file.Blocks) (sym below) held)
