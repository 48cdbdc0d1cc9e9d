-- What the writes of a journal, and crashes among them, make of its slot.
use Rattle.std.proofs.Common.{◌≡◌, ◌≢◌, inl, ℕ, ◌+◌, ◌-◌, ◌<◌, ◌≤◌, ◌^◌, List, [], ◌∷◌, ◌++◌, length, take, drop, Option, Some, None, MatchBool, is_some, Result, Ok, Err, OnErr, sym, ◌∙◌, ap, subst, arith, append_assoc, length-append}
use Rattle.std.proofs.lemmas.List.{take_all, take_at}
use Rattle.fh_world.specs.declared.FileNo.{FileNo}
use Rattle.fh_world.specs.Disk.{Files, Overwritten, Torn, Only, Rests, Writes, LeavesOnly, LeavesTorn}
use Rattle.fh_world.proofs.Moments.{weaker, joined}
use Rattle.gate_journal.specs.Slot.{behind_gate, records, staged, AllShort, Held, found, IsAtRest, IsStaged, IsBefore, IsBeforeOrAfter}
use Rattle.gate_journal.specs.Journal.{IsSettled, IsWaiting, is_pending, LeavesSlot, KeepsOthers}
use Rattle.gate_journal.specs.declared.journal.Journal.{Journal}
use Rattle.gate_journal.proofs.SlotLemmas.{short_from, length-records-push, length-behind_gate, staged_one}
use Rattle.gate_journal.proofs.RestLemmas.{rest_from, found-at_rest, found-staged, torn_behind, written_behind, torn_gate, written_gate}

module _ (seen : Files) (may_leave : FileNo → List ℕ → Type 0) (j : Journal) (bodies : List (List ℕ)) where
  -- the records fit their file
  pub settled_short : IsSettled seen may_leave j bodies → AllShort bodies
  settled_short is = short_from bodies (omega (arith, is.place, j.end_short))

  pub waiting_short : (news : List (List ℕ)) → IsWaiting seen may_leave j bodies news → AllShort (bodies ++ news)
  waiting_short news is =
      let fits : length (records (bodies ++ news)) ≤ 2 ^ 62 = j.waiting_short (length (records (bodies ++ news))) is.waits in
      short_from (bodies ++ news) (omega (arith, fits))

  -- what a settled slot stands for, by a read and after a crash
  pub settled_seen : IsSettled seen may_leave j bodies → found (seen j.slot) ≡ Held bodies
  settled_seen is = found-at_rest bodies (seen j.slot) (settled_short is) is.now

  pub settled_left : IsSettled seen may_leave j bodies → (c : List ℕ) → may_leave j.slot c → found c ≡ Held bodies
  settled_left is c may = found-at_rest bodies c (settled_short is) (is.left c may)

  -- what a waiting one stands for
  pub waiting_seen : (news : List (List ℕ)) → IsWaiting seen may_leave j bodies news → IsBeforeOrAfter bodies news (seen j.slot)
  waiting_seen news is = found-staged bodies news (seen j.slot) (waiting_short news is) is.some is.now

  pub waiting_left : (news : List (List ℕ)) → IsWaiting seen may_leave j bodies news → (c : List ℕ) → may_leave j.slot c → IsBeforeOrAfter bodies news c
  waiting_left news is c may = found-staged bodies news c (waiting_short news is) is.some (is.left c may)

module _ (seen_old seen_new : Files) (may_old may_new : FileNo → List ℕ → Type 0) (j : Journal) (bodies : List (List ℕ)) where
  -- where the slot's file is left alone, all stays
  pub settled_kept : seen_new j.slot ≡ seen_old j.slot → ((c : List ℕ) → may_new j.slot c → may_old j.slot c) → IsSettled seen_old may_old j bodies → IsSettled seen_new may_new j bodies
  settled_kept same less is = record {
    place = is.place;
    idle = is.idle;
    now = subst (IsAtRest bodies) (sym same) is.now;
    left = λ c may. is.left c (less c may);
  }

  pub waiting_kept : (news : List (List ℕ)) → seen_new j.slot ≡ seen_old j.slot → ((c : List ℕ) → may_new j.slot c → may_old j.slot c) → IsWaiting seen_old may_old j bodies news → IsWaiting seen_new may_new j bodies news
  waiting_kept news same less is = record {
    some = is.some;
    place = is.place;
    waits = is.waits;
    now = subst (IsStaged bodies news) (sym same) is.now;
    left = λ c may. is.left c (less c may);
  }

  -- after a fault behind the gate the slot is as before
  pub settled_stays : (n : ℕ) → IsSettled seen_old may_old j bodies → Writes j.slot (j.end + 1) n seen_old seen_new may_old may_new → IsSettled seen_new may_new j bodies
  settled_stays n is at_end =
      let writes = subst (λ (p : ℕ). Writes j.slot (p + 1) n seen_old seen_new may_old may_new) is.place at_end in
      record {
        place = is.place;
        idle = is.idle;
        now = torn_behind bodies n _ _ is.now writes.seen;
        left = λ c may. let from = writes.crash c may in torn_behind bodies n from.0 c (is.left from.0 from.1) from.2;
      }

  -- after a fault at the gate the records still wait
  pub waiting_stays : (news : List (List ℕ)) → IsWaiting seen_old may_old j bodies news → Writes j.slot j.end 1 seen_old seen_new may_old may_new → IsWaiting seen_new may_new j bodies news
  waiting_stays news is at_end =
      let writes = subst (λ (p : ℕ). Writes j.slot p 1 seen_old seen_new may_old may_new) is.place at_end in
      record {
        some = is.some;
        place = is.place;
        waits = is.waits;
        now = torn_gate bodies news _ _ is.now writes.seen;
        left = λ c may. let from = writes.crash c may in torn_gate bodies news from.0 c (is.left from.0 from.1) from.2;
      }

  -- what is written behind the gate waits for it
  pub waits_now : (news : List (List ℕ)) (bytes : List ℕ) (k : Journal) → IsSettled seen_old may_old j bodies → 0 < length news → bytes ≡ staged news → Overwritten (j.end + 1) bytes (seen_old j.slot) (seen_new j.slot) → Only (seen_new j.slot) (may_new j.slot)
      → k.slot ≡ j.slot → k.end ≡ j.end → k.waiting ≡ Some (length (records (bodies ++ news))) → IsWaiting seen_new may_new k bodies news
  waits_now news bytes k is some spelled holds only slot end waiting =
      let there : Overwritten (length (records bodies) + 1) (staged news) (seen_old j.slot) (seen_new j.slot) =
      subst (λ (p : ℕ). Overwritten (p + 1) (staged news) (seen_old j.slot) (seen_new j.slot)) is.place (subst (λ (l : List ℕ). Overwritten (j.end + 1) l (seen_old j.slot) (seen_new j.slot)) spelled holds) in
      let behind = written_behind bodies news (seen_old j.slot) (seen_new j.slot) is.now there in
      record {
        some = some;
        place = end ∙ is.place;
        waits = waiting;
        now = subst (λ (s : FileNo). IsStaged bodies news (seen_new s)) (sym slot) behind;
        left = λ c may. subst (IsStaged bodies news) (sym (only c (subst (λ (s : FileNo). may_new s c) slot may))) behind;
      }

  -- the open gate adds the records
  pub settled_now : (news : List (List ℕ)) (k : Journal) → IsWaiting seen_old may_old j bodies news → Overwritten j.end (165 ∷ []) (seen_old j.slot) (seen_new j.slot) → Only (seen_new j.slot) (may_new j.slot)
      → k.slot ≡ j.slot → Some k.end ≡ j.waiting → k.waiting ≡ None → IsSettled seen_new may_new k (bodies ++ news)
  settled_now news k is holds only slot end idle =
      let there = subst (λ (p : ℕ). Overwritten p (165 ∷ []) (seen_old j.slot) (seen_new j.slot)) is.place holds in
      let rest = written_gate bodies news (seen_old j.slot) (seen_new j.slot) is.some is.now there in
      record {
        place = let e : Some k.end ≡ Some (length (records (bodies ++ news))) = end ∙ is.waits in cc;
        idle = idle;
        now = subst (λ (s : FileNo). IsAtRest (bodies ++ news) (seen_new s)) (sym slot) rest;
        left = λ c may. subst (IsAtRest (bodies ++ news)) (sym (only c (subst (λ (s : FileNo). may_new s c) slot may))) rest;
      }

-- where a file that a call left alone is a journal's slot, its journal stays as it is
module _ (slot : FileNo) (seen_old seen_new : Files) (may_old may_new : FileNo → List ℕ → Type 0) (kept : KeepsOthers slot seen_old seen_new may_old may_new) (j : Journal) (other : j.slot ≢ slot) (bodies : List (List ℕ)) where
  pub settled_beside : IsSettled seen_old may_old j bodies → IsSettled seen_new may_new j bodies
  settled_beside = settled_kept seen_old seen_new may_old may_new j bodies (kept.seen j.slot other) (kept.crash j.slot other)

  pub waiting_beside : (news : List (List ℕ)) → IsWaiting seen_old may_old j bodies news → IsWaiting seen_new may_new j bodies news
  waiting_beside news = waiting_kept seen_old seen_new may_old may_new j bodies news (kept.seen j.slot other) (kept.crash j.slot other)

-- what is written to one file leaves the others alone, and so does what changes nothing
pub kept_written : (file : FileNo) (at n : ℕ) (seen_old seen_new : Files) (may_old may_new : FileNo → List ℕ → Type 0) → Writes file at n seen_old seen_new may_old may_new → KeepsOthers file seen_old seen_new may_old may_new
kept_written file at n seen_old seen_new may_old may_new writes = record { seen = writes.others_seen; crash = writes.others_crash }

pub kept_rests : (slot : FileNo) (seen_old seen_new : Files) (may_old may_new : FileNo → List ℕ → Type 0) → Rests seen_old seen_new may_old may_new → KeepsOthers slot seen_old seen_new may_old may_new
kept_rests slot seen_old seen_new may_old may_new rests = record { seen = λ g other. rests.seen g; crash = λ g other. rests.crash g }

-- what an error has
pub on_err : {T E : Type 0} (r : Result T E) (A B : Type 0) → (A → B) → OnErr r A → OnErr r B
on_err (Ok value) A B then is = is
on_err (Err fault) A B then is = then is

-- one call after another
pub kept_joined : (slot : FileNo) (seen_old seen_mid seen_new : Files) (may_old may_mid may_new : FileNo → List ℕ → Type 0) → KeepsOthers slot seen_old seen_mid may_old may_mid → KeepsOthers slot seen_mid seen_new may_mid may_new → KeepsOthers slot seen_old seen_new may_old may_new
kept_joined slot seen_old seen_mid seen_new may_old may_mid may_new first second = record {
  seen = λ g other. second.seen g other ∙ first.seen g other;
  crash = λ g other c may. first.crash g other c (second.crash g other c may);
}

module _ {D : Type 0} (moment : D → ℕ) (left_since : D → ℕ → Files → Type 0) (may_leave : D → FileNo → List ℕ → Type 0) (old mid : D) (j : Journal) (bodies news : List (List ℕ)) where
  -- a crash while records are written behind the gate leaves those before them
  pub behind_run : (seen : Files) (n : ℕ) → IsSettled seen (may_leave old) j bodies → LeavesOnly moment left_since old mid (LeavesTorn j.slot (j.end + 1) n (may_leave old))
      → LeavesOnly moment left_since old mid (LeavesSlot j.slot (may_leave old) (IsBeforeOrAfter bodies news))
  behind_run seen n is run = weaker moment left_since old mid _ _ run (λ image l.
      let torn = subst (λ (p : ℕ). Torn (p + 1) n l.torn.0 (image j.slot)) is.place l.torn.2 in
      record {
        own = inl (found-at_rest bodies (image j.slot) (settled_short seen (may_leave old) j bodies is) (torn_behind bodies n l.torn.0 (image j.slot) (is.left l.torn.0 l.torn.1) torn));
        others = l.others;
      })

  -- and nothing else
  pub before_run : (seen : Files) (n : ℕ) → IsSettled seen (may_leave old) j bodies → LeavesOnly moment left_since old mid (LeavesTorn j.slot (j.end + 1) n (may_leave old))
      → LeavesOnly moment left_since old mid (LeavesSlot j.slot (may_leave old) (IsBefore bodies))
  before_run seen n is run = weaker moment left_since old mid _ _ run (λ image l.
      let torn = subst (λ (p : ℕ). Torn (p + 1) n l.torn.0 (image j.slot)) is.place l.torn.2 in
      record {
        own = found-at_rest bodies (image j.slot) (settled_short seen (may_leave old) j bodies is) (torn_behind bodies n l.torn.0 (image j.slot) (is.left l.torn.0 l.torn.1) torn);
        others = l.others;
      })

  -- a crash while the gate is written leaves them with the new ones or without
  pub gate_run : (seen : Files) → IsWaiting seen (may_leave old) j bodies news → LeavesOnly moment left_since old mid (LeavesTorn j.slot j.end 1 (may_leave old))
      → LeavesOnly moment left_since old mid (LeavesSlot j.slot (may_leave old) (IsBeforeOrAfter bodies news))
  gate_run seen is run = weaker moment left_since old mid _ _ run (λ image l.
      let torn = subst (λ (p : ℕ). Torn p 1 l.torn.0 (image j.slot)) is.place l.torn.2 in
      record {
        own = found-staged bodies news (image j.slot) (waiting_short seen (may_leave old) j bodies news is) is.some (torn_gate bodies news l.torn.0 (image j.slot) (is.left l.torn.0 l.torn.1) torn);
        others = l.others;
      })

-- one run after another
pub slot_run : {D : Type 0} (moment : D → ℕ) (left_since : D → ℕ → Files → Type 0) (may_leave : D → FileNo → List ℕ → Type 0) (old mid new : D) (slot : FileNo) (P : List ℕ → Type 0)
    → LeavesOnly moment left_since old mid (LeavesSlot slot (may_leave old) P) → ((g : FileNo) → g ≢ slot → (c : List ℕ) → may_leave mid g c → may_leave old g c) → LeavesOnly moment left_since mid new (LeavesSlot slot (may_leave mid) P)
    → LeavesOnly moment left_since old new (LeavesSlot slot (may_leave old) P)
slot_run moment left_since may_leave old mid new slot P first others second =
    joined moment left_since old mid new _ first (weaker moment left_since mid new _ _ second (λ image l. record { own = l.own; others = λ g other. others g other (image g) (l.others g other) }))

-- after a fault of `finish` nothing has changed but the gate
pub pending_case : (seen : Files) (may_leave : FileNo → List ℕ → Type 0) (j : Journal) (bodies news : List (List ℕ)) → IsWaiting seen may_leave j bodies news → MatchBool (is_pending j) (IsWaiting seen may_leave j bodies news) (IsSettled seen may_leave j bodies)
pending_case seen may_leave j bodies news is = subst (λ (o : Option ℕ). MatchBool (is_some o) (IsWaiting seen may_leave j bodies news) (IsSettled seen may_leave j bodies)) (sym is.waits) is

-- one framed record, behind those before
pub framed_staged : (body bytes : List ℕ) → bytes ≡ behind_gate body ++ 0 ∷ [] → bytes ≡ staged (body ∷ [])
framed_staged body bytes framed = framed ∙ sym (staged_one body)

pub framed_end : (bodies : List (List ℕ)) (body bytes : List ℕ) (end : ℕ) → end ≡ length (records bodies) → bytes ≡ behind_gate body ++ 0 ∷ [] → Some (end + length bytes) ≡ Some (length (records (bodies ++ body ∷ [])))
framed_end bodies body bytes end place framed =
    let size : length bytes ≡ 9 + length body = omega (arith, ap length framed, length-append (behind_gate body) (0 ∷ []), length-behind_gate body) in
    ap (λ (n : ℕ). Some n) (omega (arith, place, size, length-records-push bodies body))

-- a slot that was written anew is settled
pub laid : (seen_old seen_new : Files) (may_new : FileNo → List ℕ → Type 0) (slot : FileNo) (k : Journal) (bodies : List (List ℕ)) (bytes : List ℕ) → bytes ≡ records bodies ++ 0 ∷ [] → Overwritten 0 bytes (seen_old slot) (seen_new slot) → Only (seen_new slot) (may_new slot)
    → k.slot ≡ slot → k.end ≡ length bytes - 1 → k.waiting ≡ None → IsSettled seen_new may_new k bodies
laid seen_old seen_new may_new slot k bodies bytes is holds only same end idle =
    let size : length bytes ≡ length (records bodies) + 1 = omega (arith, ap length is, length-append (records bodies) (0 ∷ [])) in
    let more = drop (0 + length bytes) (seen_old slot) in
    let rest : IsAtRest bodies (seen_new slot) = rest_from bodies 0 (seen_new slot) more (omega arith) (holds ∙ ap (λ (l : List ℕ). l ++ more) is ∙ append_assoc (records bodies) (0 ∷ []) more) in
    record {
      place = omega (arith, end, size);
      idle = idle;
      now = subst (λ (s : FileNo). IsAtRest bodies (seen_new s)) (sym same) rest;
      left = λ c may. subst (IsAtRest bodies) (sym (only c (subst (λ (s : FileNo). may_new s c) same may))) rest;
    }

-- a slot that was synced and then read is settled
pub read_settled : (seen_old seen_new : Files) (may_mid may_new : FileNo → List ℕ → Type 0) (slot : FileNo) (k : Journal) (bodies : List (List ℕ)) (bytes : List ℕ) → bytes ≡ seen_old slot → IsAtRest bodies bytes → Only (seen_old slot) (may_mid slot) → seen_new slot ≡ seen_old slot → ((c : List ℕ) → may_new slot c → may_mid slot c)
    → k.slot ≡ slot → k.end ≡ length (records bodies) → k.waiting ≡ None → IsSettled seen_new may_new k bodies
read_settled seen_old seen_new may_mid may_new slot k bodies bytes is rest only stays less same end idle =
    let old : IsAtRest bodies (seen_old slot) = subst (IsAtRest bodies) is rest in
    record {
      place = end;
      idle = idle;
      now = subst (λ (s : FileNo). IsAtRest bodies (seen_new s)) (sym same) (subst (IsAtRest bodies) (sym stays) old);
      left = λ c may. subst (IsAtRest bodies) (sym (only c (less c (subst (λ (s : FileNo). may_new s c) same may)))) old;
    }

-- a buffer as long as the file, once it is read, is the file
pub read_whole : (seen before buf tail read : List ℕ) (len : ℕ) → read ≡ take len (buf ++ tail) → buf ≡ take (length before) seen → length before ≡ len → len ≡ length seen → read ≡ seen
read_whole seen before buf tail read len shown filled size whole =
    let is : buf ≡ seen = filled ∙ take_all (length before) seen (omega (arith, size, whole)) in
    shown ∙ take_at buf tail len (omega (arith, ap length is, whole)) ∙ is
