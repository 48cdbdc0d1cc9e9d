-- What a crash leaves while a store is made.
use Rattle.std.proofs.Common.{◌≡◌, ◌≢◌, inl, inr, ⊎_elim, ℕ, List, refl, sym, ◌∙◌, ap, subst, arith}
use Rattle.fh_model.specs.State.{opening}
use Rattle.fh_world.specs.declared.FileNo.{FileNo}
use Rattle.fh_world.specs.declared.FileNo.TheVariants as file
use Rattle.fh_world.specs.declared.Disk as disk
use Rattle.fh_world.specs.Disk.{Files, Only, LeavesOnly}
use Rattle.fh_world.proofs.Moments.{started, weaker}
use Rattle.gate_journal.specs.declared.Journal.{Journal}
use Rattle.gate_journal.specs.Journal.{slot_of, Settled, AnyMoment, Keeps}
use Rattle.gate_journal.specs.Slot.{Held, found, IsAny}
use Rattle.gate_journal.proofs.StateLemmas.{settled_seen, settled_left, settled_beside}
use Rattle.store_core.specs.declared.head.HeadRead.{HeadRead}
use Rattle.store_core.specs.declared.head.HeadRead.TheVariants.{New}
use Rattle.store_core.specs.Files.{by_head, IsNewOrMade}
use Rattle.store_core.specs.Head.{head_in, IsNewOrNames}
use Rattle.store_core.specs.Store.{NamesSlot, StandFor, IsSettledStore}
use Rattle.store_core.proofs.StateLemmas.{stands_by, holds_none}

pub new_files : (files : Files) → head_in (files file.Head) ≡ New → IsNewOrMade files
new_files files is = inl (ap (λ (h : HeadRead). by_head h files) is)

head_is_no_slot : (slot : FileNo) → slot ≡ file.SlotA → file.Head ≢ slot
head_is_no_slot slot is same = let e : file.Head ≡ file.SlotA = same ∙ is in cc

module _ {D : Type 0} (d : disk.Ghosts D) (old : D) (unmade : head_in (d.seen old file.Head) ≡ New) (durable : Only (d.seen old file.Head) (d.may_leave old file.Head)) where
  -- before anything is written
  pub no_make : ((here : D) (files : Files) → d.left_since here (d.moment here) files → (g : FileNo) → d.may_leave here g (files g)) → LeavesOnly d.moment d.left_since old old IsNewOrMade
  no_make only_now = started d.moment d.left_since old IsNewOrMade (λ files left. new_files files (ap head_in (durable (files file.Head) (only_now old files left file.Head)) ∙ unmade))

  -- while the slot is laid
  pub lay_run : (mid : D) → AnyMoment d old mid file.SlotA IsAny → LeavesOnly d.moment d.left_since old mid IsNewOrMade
  lay_run mid run = weaker d.moment d.left_since old mid _ _ run (λ files left. new_files files (ap head_in (durable (files file.Head) (left.others file.Head (head_is_no_slot file.SlotA refl))) ∙ unmade))

  pub laid_seen : (mid : D) → Keeps d file.SlotA old mid → head_in (d.seen mid file.Head) ≡ New
  laid_seen mid others = ap head_in (others.seen file.Head (head_is_no_slot file.SlotA refl)) ∙ unmade

  pub laid_durable : (mid : D) → Keeps d file.SlotA old mid → Only (d.seen mid file.Head) (d.may_leave mid file.Head)
  laid_durable mid others = λ c may. durable c (others.crash file.Head (head_is_no_slot file.SlotA refl) c may) ∙ sym (others.seen file.Head (head_is_no_slot file.SlotA refl))

module _ {D : Type 0} (d : disk.Ghosts D) (mid new : D) (j : Journal) (bodies : List (List ℕ)) (slot : slot_of j ≡ file.SlotA) (settled : Settled d mid j bodies) (stand : StandFor 0 bodies opening) where
  slot_is_no_head : slot_of j ≢ file.Head
  slot_is_no_head same = head_is_no_slot (slot_of j) slot (sym same)

  -- files whose head is none yet, or names the slot that was laid
  made_files : (files : Files) → IsNewOrNames (files file.Head) → found (files (slot_of j)) ≡ Held bodies → IsNewOrMade files
  made_files files head held = ⊎_elim (new_files files) (λ named. inr (stands_by files file.SlotA bodies opening 0 (files file.Blocks) named (subst (λ (s : FileNo). found (files s) ≡ Held bodies) slot held) stand (omega arith) refl)) head

  -- while the head is written
  pub made_run : AnyMoment d mid new file.Head IsNewOrNames → LeavesOnly d.moment d.left_since mid new IsNewOrMade
  made_run run = weaker d.moment d.left_since mid new _ _ run (λ files left.
      made_files files left.own (settled_left (d.seen mid) (d.may_leave mid) j bodies settled (files (slot_of j)) (left.others (slot_of j) slot_is_no_head)))

  settled_now : Keeps d file.Head mid new → Settled d new j bodies
  settled_now others = settled_beside file.Head (d.seen mid) (d.seen new) (d.may_leave mid) (d.may_leave new) others j slot_is_no_head bodies settled

  pub made_seen : Keeps d file.Head mid new → IsNewOrNames (d.seen new file.Head) → IsNewOrMade (d.seen new)
  made_seen others head = made_files (d.seen new) head (settled_seen (d.seen new) (d.may_leave new) j bodies (settled_now others))

  pub made_settled : Keeps d file.Head mid new → NamesSlot d new file.SlotA → IsSettledStore d new j opening
  made_settled others named = record {
    named = subst (NamesSlot d new) (sym slot) named;
    bodies = bodies;
    slot = settled_now others;
    len = 0;
    stand = stand;
    blocks = holds_none d new;
  }
