-- What a crash leaves of a store, and how it goes on when a record is appended.
use Rattle.std.proofs.Common.{◌≡◌, ◌≢◌, ◌⊎◌, inl, inr, ⊎_elim, ℕ, ◌≤◌, ◌^◌, max, List, [], ◌∷◌, ◌++◌, Bool, true, false, if◌then◌else◌, ◌==◌, MatchBool, Option, Some, None, Result, length, take, nat_lt, get_or, IsTrue, refl, sym, ◌∙◌, ap, subst, arith}
use Rattle.std.proofs.lemmas.Bool.{MatchBool-at_true, MatchBool-at_false}
use Rattle.std.proofs.lemmas.List.{append-nil}
use Rattle.byte_formats.specs.Spelling.{Spells}
use Rattle.cmd_codec.specs.Commands.{command}
use Rattle.fh_model.specs.declared.commands.Cmd.{Cmd}
use Rattle.fh_model.specs.History.{Kept, state_of, state_after, with_more, next_of, entered}
use Rattle.fh_model.specs.Pieces.{SamePieces, end_in, lies_within}
use Rattle.fh_model.specs.State.{State}
use Rattle.fh_model.specs.Step.{step}
use Rattle.fh_model.proofs.PieceLaws.{step_end}
use Rattle.fh_model.proofs.Runs.{state_more}
use Rattle.fh_world.specs.declared.FileNo.{FileNo}
use Rattle.fh_world.specs.declared.FileNo.TheVariants as file
use Rattle.fh_world.specs.declared.Disk as disk
use Rattle.fh_world.specs.Disk.{Files, Only, LeavesOnly}
use Rattle.fh_world.proofs.Moments.{started, weaker}
use Rattle.gate_journal.specs.Slot.{Found, Held, found, IsBefore, IsBeforeOrAfter}
use Rattle.gate_journal.specs.Journal.{slot_of, is_pending, Settled, Waiting, AnyMoment, Keeps}
use Rattle.gate_journal.specs.declared.Journal.{Journal}
use Rattle.gate_journal.proofs.StateLemmas.{settled_left, waiting_left}
use Rattle.store_core.specs.declared.head.HeadRead.{HeadRead}
use Rattle.store_core.specs.declared.head.HeadRead.TheVariants.{New, NotAStore, Names}
use Rattle.store_core.specs.Bodies.{read_found, at_place}
use Rattle.store_core.specs.Commit.{StandsAround}
use Rattle.store_core.specs.Files.{of_slot, by_head, Stands}
use Rattle.store_core.specs.Head.{head_in, gated, told_by, first_other, slot_named, store_text}
use Rattle.store_core.specs.Store.{NamesSlot, HoldsBlocks, StandFor, IsSettledStore, IsWaitingStore, IsSound, IsReady, IsKept, StandsFor, with_waiting}
use Rattle.store_core.proofs.BlockLemmas.{fewer_same, lies_end, lies_longer}
use Rattle.store_core.proofs.BodyLemmas.{stand_more, stand_longer}

-- ---- the slot that a head names is no other file

slot_of_byte : (g : FileNo) → g ≢ file.SlotA → g ≢ file.SlotB → (b : Bool) → g ≢ (if b then file.SlotB else file.SlotA)
slot_of_byte g a b true same = b same
slot_of_byte g a b false same = a same

of_told : (g : FileNo) → g ≢ file.SlotA → g ≢ file.SlotB → (o : Option ℕ) (byte : ℕ) (slot : FileNo) → told_by o byte ≡ Names slot → g ≢ slot
of_told g a b None byte slot is same =
    let e : slot_named byte ≡ slot = cc in
    slot_of_byte g a b (byte == 2) (same ∙ sym e)
of_told g a b (Some place) byte slot is same = cc

of_gate : (g : FileNo) → g ≢ file.SlotA → g ≢ file.SlotB → (wide : Bool) (o : Option ℕ) (byte : ℕ) (slot : FileNo) → (if wide then told_by o byte else New) ≡ Names slot → g ≢ slot
of_gate g a b true o byte slot is same = of_told g a b o byte slot is same
of_gate g a b false o byte slot is same = cc

of_gated : (g : FileNo) → g ≢ file.SlotA → g ≢ file.SlotB → (bytes : List ℕ) (slot : FileNo) → gated bytes ≡ Names slot → g ≢ slot
of_gated g a b [] slot is same = cc
of_gated g a b (gate ∷ bytes) slot is same = of_gate g a b (gate == 165) (first_other 1 store_text bytes) (get_or bytes 16 0) slot is same

of_length : (g : FileNo) → g ≢ file.SlotA → g ≢ file.SlotB → (long short : Bool) (bytes : List ℕ) (slot : FileNo) → (if long then NotAStore 18 else if short then New else gated bytes) ≡ Names slot → g ≢ slot
of_length g a b true short bytes slot is same = cc
of_length g a b false true bytes slot is same = cc
of_length g a b false false bytes slot is same = of_gated g a b bytes slot is same

named_apart : (g : FileNo) → g ≢ file.SlotA → g ≢ file.SlotB → (bytes : List ℕ) (slot : FileNo) → head_in bytes ≡ Names slot → g ≢ slot
named_apart g a b bytes slot is = of_length g a b (nat_lt 18 (length bytes)) (nat_lt (length bytes) 18) bytes slot is

head_a : file.Head ≢ file.SlotA
head_a same = cc

head_b : file.Head ≢ file.SlotB
head_b same = cc

blocks_a : file.Blocks ≢ file.SlotA
blocks_a same = cc

blocks_b : file.Blocks ≢ file.SlotB
blocks_b same = cc

pub head_is_no_blocks : file.Head ≢ file.Blocks
head_is_no_blocks same = cc

pub slot_apart : (bytes : List ℕ) (slot : FileNo) → head_in bytes ≡ Names slot → file.Head ≢ slot
slot_apart bytes slot is = named_apart file.Head head_a head_b bytes slot is

pub blocks_apart : (bytes : List ℕ) (slot : FileNo) → head_in bytes ≡ Names slot → file.Blocks ≢ slot
blocks_apart bytes slot is = named_apart file.Blocks blocks_a blocks_b bytes slot is

-- ---- what files stand for

pub stands_by : (files : Files) (slot : FileNo) (bodies : List (List ℕ)) (state : State) (len : ℕ) (blocks : List ℕ) → head_in (files file.Head) ≡ Names slot → found (files slot) ≡ Held bodies
    → StandFor len bodies state → len ≤ length (files file.Blocks) → SamePieces state (files file.Blocks) blocks → Stands files state blocks
stands_by files slot bodies state len blocks named held short long same =
    let size = length (files file.Blocks) in
    let stand = stand_longer len size bodies state long short in
    record {
      start = stand.start;
      commands = stand.commands;
      stored =
          ap (λ (h : HeadRead). by_head h files) named ∙ ap (λ (f : Found). of_slot (read_found size f)) held
          ∙ ap (λ (r : Result (State × List Cmd) ℕ). of_slot (at_place bodies r)) stand.read;
      after = stand.after;
      same = same;
    }

-- ---- what the block file holds

module _ {D : Type 0} (d : disk.Ghosts D) (at : D) where
  pub holds_fewer : (len end less : ℕ) → less ≤ end → HoldsBlocks d at len end → HoldsBlocks d at len less
  holds_fewer len end less fewer is = record {
    now = is.now;
    left = λ c may. let both = is.left c may in (both.0, fewer_same less end c (d.seen at file.Blocks) fewer both.1);
  }

  -- with more that it holds
  pub holds_both : (len more end : ℕ) → end ≤ more → HoldsBlocks d at len 0 → HoldsBlocks d at more more → HoldsBlocks d at (max len more) end
  holds_both len more end within first second = record {
    now = omega (arith, first.now, second.now);
    left = λ c may. let f = first.left c may in let s = second.left c may in
        (omega (arith, f.0, s.0), fewer_same end more c (d.seen at file.Blocks) within s.1);
  }

  -- where the file is left alone
  pub holds_beside : (new : D) (slot : FileNo) (len end : ℕ) → file.Blocks ≢ slot → Keeps d slot at new → HoldsBlocks d at len end → HoldsBlocks d new len end
  holds_beside new slot len end apart others is = record {
    now = omega (arith, is.now, ap length (others.seen file.Blocks apart));
    left = λ c may. let both = is.left c (others.crash file.Blocks apart c may) in (both.0, both.1 ∙ ap (take end) (sym (others.seen file.Blocks apart)));
  }

  -- where a synced file is read
  pub holds_only : (end : ℕ) → Only (d.seen at file.Blocks) (d.may_leave at file.Blocks) → HoldsBlocks d at (length (d.seen at file.Blocks)) end
  holds_only end only = record {
    now = omega arith;
    left = λ c may. (omega (arith, ap length (only c may)), ap (take end) (only c may));
  }

  pub holds_none : HoldsBlocks d at 0 0
  holds_none = record { now = omega arith; left = λ c may. (omega arith, refl) }

-- ---- the next state's pieces are those of the state and of the command

ready_end : {D : Type 0} (d : disk.Ghosts D) (at : D) (state : State) (cmd : Cmd) → (ready : IsReady d at state cmd) → end_in (step state cmd).state ≤ ready.len
ready_end d at state cmd ready = omega (arith, (step_end state cmd).1, ready.within, lies_end ready.len cmd ready.lies)

module _ {D : Type 0} (d : disk.Ghosts D) (at : D) (j : Journal) (state : State) where
  pub settled_stands : IsSettledStore d at j state → (files : Files) → ((g : FileNo) → d.may_leave at g (files g)) → Stands files state (d.seen at file.Blocks)
  settled_stands is files may =
      let blocks = is.blocks.left (files file.Blocks) (may file.Blocks) in
      stands_by files (slot_of j) is.bodies state is.len (d.seen at file.Blocks) (is.named.left (files file.Head) (may file.Head))
      (settled_left (d.seen at) (d.may_leave at) j is.bodies is.slot (files (slot_of j)) (may (slot_of j))) is.stand blocks.0 blocks.1

  -- the slot with the record or without
  around : (cmd : Cmd) (body : List ℕ) (bodies : List (List ℕ)) (len : ℕ) (blocks : List ℕ) → StandFor len bodies state → Spells command body cmd → lies_within len cmd ≡ true
      → (files : Files) → head_in (files file.Head) ≡ Names (slot_of j) → IsBeforeOrAfter bodies (body ∷ []) (files (slot_of j)) → len ≤ length (files file.Blocks) → SamePieces (step state cmd).state (files file.Blocks) blocks
      → Stands files state blocks ⊎ Stands files (step state cmd).state blocks
  around cmd body bodies len blocks stand spelling lies files named either long same = ⊎_elim
      (λ before. inl (stands_by files (slot_of j) bodies state len blocks named before stand long (fewer_same (end_in state) (end_in (step state cmd).state) (files file.Blocks) blocks (step_end state cmd).0 same)))
      (λ after. inr (stands_by files (slot_of j) (bodies ++ body ∷ []) (step state cmd).state len blocks named after (stand_more len bodies body state cmd stand spelling lies) long same))
      either

  pub waiting_stands : (cmd : Cmd) → IsWaitingStore d at j state cmd → (files : Files) → ((g : FileNo) → d.may_leave at g (files g)) → Stands files state (d.seen at file.Blocks) ⊎ Stands files (step state cmd).state (d.seen at file.Blocks)
  waiting_stands cmd is files may =
      let blocks = is.blocks.left (files file.Blocks) (may file.Blocks) in
      around cmd is.body is.bodies is.len (d.seen at file.Blocks) is.stand is.spelled is.lies files (is.named.left (files file.Head) (may file.Head))
      (waiting_left (d.seen at) (d.may_leave at) j is.bodies (is.body ∷ []) is.slot (files (slot_of j)) (may (slot_of j))) blocks.0 blocks.1

  -- ---- one record more

  module _ (new : D) (k : Journal) (is : IsSettledStore d at j state) (others : Keeps d (slot_of j) at new) (same : slot_of k ≡ slot_of j) where
    named_kept : NamesSlot d new (slot_of k)
    named_kept =
        let apart = slot_apart (d.seen at file.Head) (slot_of j) is.named.now in
        record {
          now = ap head_in (others.seen file.Head apart) ∙ is.named.now ∙ ap (λ (s : FileNo). Names s) (sym same);
          left = λ c may. is.named.left c (others.crash file.Head apart c may) ∙ ap (λ (s : FileNo). Names s) (sym same);
        }

    apart : file.Blocks ≢ slot_of j
    apart = blocks_apart (d.seen at file.Head) (slot_of j) is.named.now

    -- over the block file that holds what the command names
    ready_blocks : (cmd : Cmd) (ready : IsReady d at state cmd) → HoldsBlocks d new (max is.len ready.len) (end_in (step state cmd).state)
    ready_blocks cmd ready =
        holds_beside d at new (slot_of j) (max is.len ready.len) (end_in (step state cmd).state) apart others
        (holds_both d at is.len ready.len (end_in (step state cmd).state) (ready_end d at state cmd ready) (holds_fewer d at is.len (end_in state) 0 (omega arith) is.blocks) ready.blocks)

    pub settled_after : (body : List ℕ) (cmd : Cmd) → Spells command body cmd → IsReady d at state cmd → Settled d new k (is.bodies ++ body ∷ []) → IsSettledStore d new k (step state cmd).state
    settled_after body cmd spelling ready slot =
        let len = max is.len ready.len in
        record {
          named = named_kept;
          bodies = is.bodies ++ body ∷ [];
          slot = slot;
          len = len;
          stand = stand_more len is.bodies body state cmd (stand_longer is.len len is.bodies state (omega arith) is.stand) spelling (lies_longer ready.len len cmd (omega arith) ready.lies);
          blocks = ready_blocks cmd ready;
        }

    pub settled_as_before : Settled d new k is.bodies → IsSettledStore d new k state
    settled_as_before slot = record {
      named = named_kept;
      bodies = is.bodies;
      slot = slot;
      len = is.len;
      stand = is.stand;
      blocks = holds_beside d at new (slot_of j) is.len (end_in state) apart others is.blocks;
    }

    pub waits_after : (body : List ℕ) (cmd : Cmd) → Spells command body cmd → IsReady d at state cmd → Waiting d new k is.bodies (body ∷ []) → IsWaitingStore d new k state cmd
    waits_after body cmd spelling ready slot =
        let len = max is.len ready.len in
        record {
          named = named_kept;
          bodies = is.bodies;
          body = body;
          slot = slot;
          len = len;
          stand = stand_longer is.len len is.bodies state (omega arith) is.stand;
          spelled = spelling;
          lies = lies_longer ready.len len cmd (omega arith) ready.lies;
          blocks = ready_blocks cmd ready;
        }

  -- at every moment of the append
  pub append_run : (new : D) (body : List ℕ) (cmd : Cmd) (is : IsSettledStore d at j state) → Spells command body cmd → IsReady d at state cmd → AnyMoment d at new (slot_of j) (IsBeforeOrAfter is.bodies (body ∷ []))
      → LeavesOnly d.moment d.left_since at new (λ files. Stands files state (d.seen at file.Blocks) ⊎ Stands files (step state cmd).state (d.seen at file.Blocks))
  append_run new body cmd is spelling ready run = weaker d.moment d.left_since at new _ _ run (λ files left.
      let apart = slot_apart (d.seen at file.Head) (slot_of j) is.named.now in
      let beside = blocks_apart (d.seen at file.Head) (slot_of j) is.named.now in
      let len = max is.len ready.len in
      let old = is.blocks.left (files file.Blocks) (left.others file.Blocks beside) in
      let more = ready.blocks.left (files file.Blocks) (left.others file.Blocks beside) in
      around cmd body is.bodies len (d.seen at file.Blocks) (stand_longer is.len len is.bodies state (omega arith) is.stand) spelling (lies_longer ready.len len cmd (omega arith) ready.lies)
      files (is.named.left (files file.Head) (left.others file.Head apart)) left.own (omega (arith, old.0, more.0))
      (fewer_same (end_in (step state cmd).state) ready.len (files file.Blocks) (d.seen at file.Blocks) (ready_end d at state cmd ready) more.1))

  -- at every moment of one that failed before its gate
  pub before_run : (new : D) (is : IsSettledStore d at j state) → AnyMoment d at new (slot_of j) (IsBefore is.bodies) → LeavesOnly d.moment d.left_since at new (λ files. Stands files state (d.seen at file.Blocks))
  before_run new is run = weaker d.moment d.left_since at new _ _ run (λ files left.
      let apart = slot_apart (d.seen at file.Head) (slot_of j) is.named.now in
      let beside = blocks_apart (d.seen at file.Head) (slot_of j) is.named.now in
      let blocks = is.blocks.left (files file.Blocks) (left.others file.Blocks beside) in
      stands_by files (slot_of j) is.bodies state is.len (d.seen at file.Blocks) (is.named.left (files file.Head) (left.others file.Head apart)) left.own is.stand blocks.0 blocks.1)

  -- the journal and the head leave the block file as it is
  pub blocks_kept : (new : D) → IsSettledStore d at j state → Keeps d (slot_of j) at new → d.seen new file.Blocks ≡ d.seen at file.Blocks
  blocks_kept new is others = others.seen file.Blocks (blocks_apart (d.seen at file.Head) (slot_of j) is.named.now)

-- ---- the state after a command that enters

if_enters : (b : Bool) (cmd : Cmd) (history : List Cmd) → length history ≢ length (history ++ (if b then cmd ∷ [] else [])) → b ≡ true
if_enters true cmd history more = refl
if_enters false cmd history more = absurd (more (ap length (sym (append-nil history))))

pub longer_enters : (image : Kept) (cmd : Cmd) → length image.history ≢ length (next_of image cmd).history → (step (state_of image) cmd).enters ≡ true
longer_enters image cmd more = if_enters (step (state_of image) cmd).enters cmd image.history more

pub state_of_next : (image : Kept) (cmd : Cmd) → (step (state_of image) cmd).enters ≡ true → state_of (next_of image cmd) ≡ (step (state_of image) cmd).state
state_of_next image cmd enters =
    state_more image (entered (state_of image) cmd) ∙ ap (λ (b : Bool). state_after (state_of image) (if b then cmd ∷ [] else [])) enters

pub next_stays : (image : Kept) (cmd : Cmd) → (step (state_of image) cmd).enters ≡ false → next_of image cmd ≡ image
next_stays image cmd stays =
    ap (λ (b : Bool). with_more image (if b then cmd ∷ [] else [])) stays ∙ ap (λ (h : List Cmd). record { start = image.start; history = h }) (append-nil image.history)

-- ---- what the type of a store says

pub sound_kept : {D : Type 0} (d : disk.Ghosts D) (at : D) (j : Journal) (image : Kept) (waiting : Option Cmd) → IsTrue d.tells → IsSound d at j image waiting → IsKept d (record { disk = at; image = image; waiting = waiting })
sound_kept d at j image None told sound files may = inl (settled_stands d at j (state_of image) (sound.1.1 told) files may)
sound_kept d at j image (Some cmd) told sound files may =
    subst (λ (s : State). Stands files (state_of image) (d.seen at file.Blocks) ⊎ Stands files s (d.seen at file.Blocks)) (sym (state_of_next image cmd sound.1.0)) (waiting_stands d at j (state_of image) cmd (sound.1.1 told) files may)

-- ---- a commit

module _ {D : Type 0} (d : disk.Ghosts D) (at : D) (j : Journal) (image : Kept) (waiting : Option Cmd) (sound : IsSound d at j image waiting) where
  -- before its first write
  pub no_run : ((here : D) (files : Files) → d.left_since here (d.moment here) files → (g : FileNo) → d.may_leave here g (files g)) → (cmd : Cmd) → IsTrue d.tells
      → LeavesOnly d.moment d.left_since at at (StandsAround (record { disk = at; image = image; waiting = waiting }) cmd (d.seen at file.Blocks))
  no_run only_now cmd told = started d.moment d.left_since at (StandsAround (record { disk = at; image = image; waiting = waiting }) cmd (d.seen at file.Blocks)) (λ files left.
      ⊎_elim inl (λ s. inr (inl s)) (sound_kept d at j image waiting told sound files (only_now at files left)))

  -- and where nothing was written
  pub still_run : ((here : D) (files : Files) → d.left_since here (d.moment here) files → (g : FileNo) → d.may_leave here g (files g)) → IsTrue d.tells
      → LeavesOnly d.moment d.left_since at at (λ files. StandsFor files image waiting (d.seen at file.Blocks))
  still_run only_now told = started d.moment d.left_since at (λ files. StandsFor files image waiting (d.seen at file.Blocks)) (λ files left.
      sound_kept d at j image waiting told sound files (only_now at files left))

  module _ (idle : waiting ≡ None) where
    pub idle_end : end_in (state_of image) ≤ 2 ^ 62
    idle_end = (subst (λ (w : Option Cmd). IsSound d at j image w) idle sound).1.0

    pub settled : IsTrue d.tells → IsSettledStore d at j (state_of image)
    settled told = (subst (λ (w : Option Cmd). IsSound d at j image w) idle sound).1.1 told

    -- where its record was not let in
    pub unopened_run : (new : D) → (told : IsTrue d.tells) → Keeps d (slot_of j) at new → ((bodies : List (List ℕ)) → Settled d at j bodies → AnyMoment d at new (slot_of j) (IsBefore bodies))
        → LeavesOnly d.moment d.left_since at new (λ files. StandsFor files image waiting (d.seen new file.Blocks))
    unopened_run new told others run =
        let is = settled told in
        weaker d.moment d.left_since at new _ _ (before_run d at j (state_of image) new is (run is.bodies is.slot))
        (λ files stands. inl (subst (λ (b : List ℕ). Stands files (state_of image) b) (sym (blocks_kept d at j (state_of image) new is others)) stands))

    module _ (cmd : Cmd) (enters : (step (state_of image) cmd).enters ≡ true) (ready : IsTrue d.tells → IsReady d at (state_of image) cmd) where
      -- at every moment of its append
      pub around_run : (new : D) (body : List ℕ) → Spells command body cmd → (told : IsTrue d.tells) → Keeps d (slot_of j) at new → ((bodies : List (List ℕ)) → Settled d at j bodies → AnyMoment d at new (slot_of j) (IsBeforeOrAfter bodies (body ∷ [])))
          → LeavesOnly d.moment d.left_since at new (StandsAround (record { disk = at; image = image; waiting = waiting }) cmd (d.seen new file.Blocks))
      around_run new body spelling told others run =
          let is = settled told in
          let next : with_waiting image waiting ≡ image = ap (with_waiting image) idle in
          let state : state_of (next_of (with_waiting image waiting) cmd) ≡ (step (state_of image) cmd).state = ap (λ (k : Kept). state_of (next_of k cmd)) next ∙ state_of_next image cmd enters in
          let blocks = sym (blocks_kept d at j (state_of image) new is others) in
          weaker d.moment d.left_since at new _ _ (append_run d at j (state_of image) new body cmd is spelling (ready told) (run is.bodies is.slot)) (λ files either.
          ⊎_elim (λ s. inl (subst (λ (b : List ℕ). Stands files (state_of image) b) blocks s))
          (λ s. inr (inr (subst (λ (z : State). Stands files z (d.seen new file.Blocks)) (sym state) (subst (λ (b : List ℕ). Stands files (step (state_of image) cmd).state b) blocks s)))) either)

      module _ (new : D) (k : Journal) (body : List ℕ) (spelling : Spells command body cmd) (others : IsTrue d.tells → Keeps d (slot_of j) at new) (same : slot_of k ≡ slot_of j) where
        pub sound_entered : (next : Kept) → next ≡ next_of image cmd → end_in (step (state_of image) cmd).state ≤ 2 ^ 62 → is_pending k ≡ false → (IsTrue d.tells → (bodies : List (List ℕ)) → Settled d at j bodies → Settled d new k (bodies ++ body ∷ [])) → IsSound d new k next waiting
        sound_entered next is limit done acknowledged =
            let state : (step (state_of image) cmd).state ≡ state_of next = sym (ap state_of is ∙ state_of_next image cmd enters) in
            let left : IsTrue d.tells → IsSettledStore d new k (state_of next) = λ told.
            let before = settled told in
            subst (IsSettledStore d new k) state (settled_after d at j (state_of image) new k before (others told) same body cmd spelling (ready told) (acknowledged told before.bodies before.slot)) in
            let end : end_in (state_of next) ≤ 2 ^ 62 = omega (arith, limit, ap end_in state) in
            subst (λ (w : Option Cmd). IsSound d new k next w) (sym idle) (done, (end, left))

        pub sound_waiting : is_pending k ≡ true → (IsTrue d.tells → (bodies : List (List ℕ)) → Settled d at j bodies → MatchBool (is_pending k) (Waiting d new k bodies (body ∷ [])) (Settled d new k bodies)) → IsSound d new k image (Some cmd)
        sound_waiting waits fault =
            let left : IsTrue d.tells → IsWaitingStore d new k (state_of image) cmd = λ told.
            let before = settled told in
            waits_after d at j (state_of image) new k before (others told) same body cmd spelling (ready told) (MatchBool-at_true _ _ waits (fault told before.bodies before.slot)) in
            (waits, (enters, left))

        pub sound_faulted : is_pending k ≡ false → (IsTrue d.tells → (bodies : List (List ℕ)) → Settled d at j bodies → MatchBool (is_pending k) (Waiting d new k bodies (body ∷ [])) (Settled d new k bodies)) → IsSound d new k image waiting
        sound_faulted done fault =
            let left : IsTrue d.tells → IsSettledStore d new k (state_of image) = λ told.
            let before = settled told in
            settled_as_before d at j (state_of image) new k before (others told) same (MatchBool-at_false _ _ done (fault told before.bodies before.slot)) in
            subst (λ (w : Option Cmd). IsSound d new k image w) (sym idle) (done, (idle_end, left))
