-- What a crash leaves while the head is written.
use Rattle.std.proofs.Common.{◌≡◌, inl, ℕ, ◌<◌, List, [], ◌∷◌, Bool, true, false, not, ◌==◌, get_or, length, refl, sym, ◌∙◌, ap, subst}
use Rattle.std.proofs.lemmas.Bool.{eqb-true}
use Rattle.fh_world.specs.declared.FileNo.{FileNo}
use Rattle.fh_world.specs.declared.FileNo.TheVariants as file
use Rattle.fh_world.specs.declared.Disk as disk
use Rattle.fh_world.specs.Disk.{Torn, Overwritten, Only, Rests, LeavesOnly, LeavesTorn}
use Rattle.fh_world.proofs.Moments.{weaker}
use Rattle.gate_journal.specs.Journal.{AnyMoment, Keeps}
use Rattle.gate_journal.proofs.StateLemmas.{slot_run, kept_rests}
use Rattle.store_core.specs.declared.head.HeadRead.TheVariants.{New}
use Rattle.store_core.specs.Head.{head_in, text_of_slot_a, IsShut, IsNewOrNames}
use Rattle.store_core.specs.Store.{NamesSlot}
use Rattle.store_core.proofs.HeadLemmas.{open_short, shut_new, torn_short, now_shut, torn_shut, now_written, IsWritten, torn_written, now_named}

module _ {D : Type 0} (d : disk.Ghosts D) where
  abbrev pub head_of : D → List ℕ
  head_of at = d.seen at file.Head

  -- nothing is written
  pub read_run : (old new : D) (P : List ℕ → Type 0) → LeavesOnly d.moment d.left_since old new (λ files. (g : FileNo) → d.may_leave old g (files g)) → ((c : List ℕ) → d.may_leave old file.Head c → P c) → AnyMoment d old new file.Head P
  read_run old new P run each = weaker d.moment d.left_since old new _ _ run (λ files left. record { own = each (files file.Head) (left file.Head); others = λ g other. left g })

  -- a range of the head is written
  pub write_run : (old new : D) (P : List ℕ → Type 0) (at n : ℕ) → LeavesOnly d.moment d.left_since old new (LeavesTorn file.Head at n (d.may_leave old)) → ((c e : List ℕ) → d.may_leave old file.Head c → Torn at n c e → P e) → AnyMoment d old new file.Head P
  write_run old new P at n run each = weaker d.moment d.left_since old new _ _ run (λ files left. record { own = each left.torn.0 (files file.Head) left.torn.1 left.torn.2; others = left.others })

  pub then_run : (old mid new : D) (P : List ℕ → Type 0) → AnyMoment d old mid file.Head P → Keeps d file.Head old mid → AnyMoment d mid new file.Head P → AnyMoment d old new file.Head P
  then_run old mid new P first kept second = slot_run d.moment d.left_since d.may_leave old mid new file.Head P first kept.crash second

  pub less_run : (old new : D) (P Q : List ℕ → Type 0) → AnyMoment d old new file.Head P → ((c : List ℕ) → P c → Q c) → AnyMoment d old new file.Head Q
  less_run old new P Q run each = weaker d.moment d.left_since old new _ _ run (λ files left. record { own = each (files file.Head) left.own; others = left.others })

  -- ---- the gate is closed

  module _ (old mid : D) (unmade : head_in (head_of old) ≡ New) (durable : Only (head_of old) (d.may_leave old file.Head)) (rests : Rests (d.seen old) (d.seen mid) (d.may_leave old) (d.may_leave mid)) where
    unmade_left : (c : List ℕ) → d.may_leave old file.Head c → head_in c ≡ New
    unmade_left c may = ap head_in (durable c may) ∙ unmade

    pub looked_run : LeavesOnly d.moment d.left_since old mid (λ files. (g : FileNo) → d.may_leave old g (files g)) → AnyMoment d old mid file.Head (λ c. head_in c ≡ New)
    looked_run run = read_run old mid (λ c. head_in c ≡ New) run unmade_left

    opened_short : get_or (head_of old) 0 165 ≡ 165 → length (head_of old) < 18
    opened_short opened = open_short (head_of old) unmade opened

    mid_is : (c : List ℕ) → d.may_leave mid file.Head c → c ≡ head_of old
    mid_is c may = durable c (rests.crash file.Head c may)

    pub shut_run : (new : D) → get_or (head_of old) 0 165 ≡ 165 → LeavesOnly d.moment d.left_since old mid (λ files. (g : FileNo) → d.may_leave old g (files g)) → LeavesOnly d.moment d.left_since mid new (LeavesTorn file.Head 0 1 (d.may_leave mid)) → AnyMoment d old new file.Head (λ c. head_in c ≡ New)
    shut_run new opened looked written =
        then_run old mid new (λ c. head_in c ≡ New) (looked_run looked) (kept_rests file.Head _ _ _ _ rests)
        (write_run mid new (λ c. head_in c ≡ New) 0 1 written (λ c e may torn. torn_short c e (subst (λ (x : List ℕ). length x < 18) (sym (mid_is c may)) (opened_short opened)) torn))

    pub shut_seen : (new : D) → get_or (head_of old) 0 165 ≡ 165 → Torn 0 1 (head_of mid) (head_of new) → head_in (head_of new) ≡ New
    shut_seen new opened torn = torn_short (head_of mid) (head_of new) (subst (λ (x : List ℕ). length x < 18) (sym (rests.seen file.Head)) (opened_short opened)) torn

    pub shut_now : (new : D) → get_or (head_of old) 0 165 ≡ 165 → Overwritten 0 (0 ∷ []) (head_of mid) (head_of new) → IsShut (head_of new)
    shut_now new opened is = now_shut (head_of mid) (head_of new) (subst (λ (x : List ℕ). length x < 18) (sym (rests.seen file.Head)) (opened_short opened)) is

  -- ---- the text and the gate are written

  module _ (old mid : D) (shut : IsShut (head_of old)) (durable : Only (head_of old) (d.may_leave old file.Head)) where
    pub text_run : LeavesOnly d.moment d.left_since old mid (LeavesTorn file.Head 1 17 (d.may_leave old)) → AnyMoment d old mid file.Head IsNewOrNames
    text_run run = write_run old mid IsNewOrNames 1 17 run (λ c e may torn. inl (shut_new e (torn_shut c e (subst IsShut (sym (durable c may)) shut) torn)))

    pub text_seen : Torn 1 17 (head_of old) (head_of mid) → IsNewOrNames (head_of mid)
    text_seen torn = inl (shut_new (head_of mid) (torn_shut (head_of old) (head_of mid) shut torn))

    module _ (written : Overwritten 1 text_of_slot_a (head_of old) (head_of mid)) (synced : Only (head_of mid) (d.may_leave mid file.Head)) (new : D) where
      whole : IsWritten (head_of mid)
      whole = now_written (head_of old) (head_of mid) shut written

      pub gate_run : LeavesOnly d.moment d.left_since mid new (LeavesTorn file.Head 0 1 (d.may_leave mid)) → AnyMoment d mid new file.Head IsNewOrNames
      gate_run run = write_run mid new IsNewOrNames 0 1 run (λ c e may torn. torn_written c e (subst IsWritten (sym (synced c may)) whole) torn)

      pub gate_seen : Torn 0 1 (head_of mid) (head_of new) → IsNewOrNames (head_of new)
      gate_seen torn = torn_written (head_of mid) (head_of new) whole torn

      pub gate_named : Overwritten 0 (165 ∷ []) (head_of mid) (head_of new) → Only (head_of new) (d.may_leave new file.Head) → NamesSlot d new file.SlotA
      gate_named is only =
          let named = now_named (head_of mid) (head_of new) whole is in
          record { now = named; left = λ c may. ap head_in (only c may) ∙ named }

-- the gate that a test told of
pub told_open : (bytes : List ℕ) (shut : Bool) → shut ≡ not (get_or bytes 0 165 == 165) → shut ≡ false → get_or bytes 0 165 ≡ 165
told_open bytes shut is told = go (get_or bytes 0 165 == 165) refl
  where
    go : (b : Bool) → (get_or bytes 0 165 == 165) ≡ b → get_or bytes 0 165 ≡ 165
    go true e = eqb-true (get_or bytes 0 165) 165 e
    go false e = let both : true ≡ false = sym (is ∙ ap not e) ∙ told in absurd cc
