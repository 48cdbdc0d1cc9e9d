-- How a run of `pipe` and its status follow from the opening of the store and from the connection.
use Rattle.std.proofs.Common.{◌≡◌, ◌⊎◌, ℕ, ◌<◌, ◌≤◌, List, [], ◌++◌, length, Bool, Option, None, Some, Result, Ok, Err, ◌∙◌, ap, sym, refl, subst, append-nil, inl, inr, arith, true, false, IsTrue, take}
use Rattle.std.proofs.Math.Nat.{add-zero}
use Rattle.fh_world.specs.Bytes.{Moves}
use Rattle.fh_world.specs.Causes.{Rose}
use Rattle.fh_world.specs.Disk.{Files, LeavesOnly}
use Rattle.fh_world.specs.declared.Disk as disk
use Rattle.fh_world.specs.declared.FileNo.{FileNo}
use Rattle.fh_world.specs.declared.FileNo.TheVariants as file
use Rattle.fh_world.specs.declared.source.Source as source
use Rattle.fh_world.specs.declared.sink.Sink as sink
use Rattle.fh_world.proofs.Moments.{started, joined, weaker}
use Rattle.fh_model.specs.declared.commands.Cmd.{Cmd}
use Rattle.fh_model.specs.History.{state_of, state_after, with_more, Kept, Follows}
use Rattle.fh_model.specs.Pieces.{AreHeld, SamePieces, end_in}
use Rattle.fh_model.specs.State.{State, opening}
use Rattle.gate_journal.specs.Slot.{Found, Held, Broken, found}
use Rattle.host_seat.specs.Direct.{told_by, Between, Ran}
use Rattle.host_seat.specs.Port.{KeepsPieces, OfBoth}
use Rattle.host_seat.specs.RunLaws.{follows_same, follows_more, follows_waiting}
use Rattle.host_seat.proofs.PortLaws.{keeps_same}
use Rattle.http_in.specs.Heads.{IsOpenTarget}
use Rattle.session_rules.specs.Connection.{IsStored, blocks_behind, gained}
use Rattle.session_http.specs.Ends.{Served}
use Rattle.session_http.specs.Spell.{Spells}
use Rattle.session_http.specs.Talk.{Terms, Moment, terms, first, desk, added}
use Rattle.session_http.specs.declared.conn.ConnEnd.{ConnEnd}
use Rattle.session_http.specs.declared.conn.ConnEnd.TheVariants as end
use Rattle.fh_model.proofs.Runs.{state_more, with_nothing}
use Rattle.session_http.proofs.Complete.{complete}
use Rattle.session_http.proofs.Serves.{SoFar, serve_none, served_on}
use Rattle.session_http.proofs.Talks.{all_alone, below_nothing, known_none, known_nothing, stored_idle, talk_starts}
use Rattle.store_core.specs.Bodies.{at_place, read_bodies, read_found}
use Rattle.store_core.specs.Files.{Contents, New, NotAStore, Damaged, Stored, by_head, contents, of_slot, Stands, StandsOrNew, KeepsMeaning}
use Rattle.store_core.specs.Head.{head_in}
use Rattle.store_core.specs.Open.{IsSaid, LeavesMeaning}
use Rattle.store_core.specs.Store.{Opened, IsKept, with_waiting, finished}
use Rattle.store_core.specs.declared.head.HeadRead.{HeadRead}
use Rattle.store_core.specs.declared.head.HeadRead.TheVariants as head
use Rattle.store_core.specs.declared.faults.StoreFault.{StoreFault}
use Rattle.store_core.specs.declared.faults.StoreFault.TheVariants as fault
use Rattle.store_core.proofs.BodyLemmas.{stand_end}
use Rattle.host_top.specs.Pipe.{KeepsContents, PipeServed, PipeRefused, PipeRan, StoreServed, TellsContents, LeavesPrefix, EndsSo, opened, alone_with, desk_of, refused_as}
use Rattle.host_top.specs.Status.{status_of, refusal_of}
use Rattle.host_top.proofs.Contents.{still_held, still_there}
use Rattle.host_top.specs.declared.status.Status.{Status}
use Rattle.host_top.specs.declared.status.Status.TheVariants as status

-- ---- a connection told from an earlier moment of its disk

-- nothing was read, written or let in since, and the pieces of the state kept their bytes
opened_since : (t : Terms) (before : Moment) (faults : ℕ) (blocks : Option (List ℕ)) → faults ≤ before.port_faults
    → (IsTrue t.alone → KeepsPieces (first before) blocks before.blocks) → SoFar t (record before { port_faults = faults; blocks = blocks }) before
opened_since t before faults blocks le keeps =
    let none = talk_starts t before in
    record {
      turns = [];
      talk = record {
        bytes = none.bytes;
        begins = none.begins;
        gave = none.gave;
        took = none.took;
        wrote = none.wrote;
        history = none.history;
        number = none.number;
        each = none.each;
      };
      stored = stored_idle t (record before { port_faults = faults; blocks = blocks }) before keeps;
      whole = λ k d h. absurd (below_nothing k h);
      counted = sym (add-zero before.count);
      waits = inl refl;
      going = λ k d h. absurd (below_nothing k h);
      port_later = le;
      read_later = omega arith;
      write_later = omega arith;
    }

served_earlier : (e : ConnEnd) (t : Terms) (before now : Moment) (faults : ℕ) (blocks : Option (List ℕ)) → faults ≤ before.port_faults
    → (IsTrue t.alone → KeepsPieces (first before) blocks before.blocks) → Served t before now e → Served t (record before { port_faults = faults; blocks = blocks }) now e
served_earlier e t before now faults blocks le keeps h =
    served_on t (record before { port_faults = faults; blocks = blocks }) before now (opened_since t before faults blocks le keeps) e h

-- ---- the block file, where the disk tells it

both_told : (P : List ℕ → List ℕ → Type 0) (tells : Bool) (x y : List ℕ) → (IsTrue tells → P x y) → OfBoth P (told_by tells x) (told_by tells y)
both_told P true x y is = is refl
both_told P false x y is = tt

both_are : (P : List ℕ → List ℕ → Type 0) (tells : Bool) (x y : List ℕ) → OfBoth P (told_by tells x) (told_by tells y) → IsTrue tells → P x y
both_are P true x y both told = both
both_are P false x y both told = cc

pair_is : {A B : Type 0} (p : A × B) (a : A) (b : B) → p.0 ≡ a → p.1 ≡ b → p ≡ (a, b)
pair_is p a b e f = ap (λ x. (x, p.1)) e ∙ ap (λ y. (a, y)) f

stored_is : (read : State × List Cmd) (start : State) (commands : List Cmd) → Stored read.0 read.1 ≡ Stored start commands → read ≡ (start, commands)
stored_is read start commands is =
    let one : read.0 ≡ start = cc in
    let two : read.1 ≡ commands = cc in
    pair_is read start commands one two

-- what is read of records lies within the block file
read_lies : (len : ℕ) (bodies : List (List ℕ)) (start : State) (commands : List Cmd) (read : Result (State × List Cmd) ℕ) → read_bodies len bodies ≡ read
    → of_slot (at_place bodies read) ≡ Stored start commands → end_in (state_after start commands) ≤ len
read_lies len bodies start commands (Ok read) e is =
    let P : State × List Cmd → Type 0 = λ r. read_bodies len bodies ≡ Ok r in
    stand_end len bodies (state_after start commands) (record {
      start = start;
      commands = commands;
      read = subst P (stored_is read start commands is) e;
      after = refl;
    })
read_lies len bodies start commands (Err i) e is = cc

-- and what is read of a slot
slot_lies : (len : ℕ) (found : Found) (start : State) (commands : List Cmd) → of_slot (read_found len found) ≡ Stored start commands → end_in (state_after start commands) ≤ len
slot_lies len (Broken place) start commands is = cc
slot_lies len (Held bodies) start commands is = read_lies len bodies start commands (read_bodies len bodies) refl is

head_lies : (h : HeadRead) (files : Files) (start : State) (commands : List Cmd) → by_head h files ≡ Stored start commands → end_in (state_after start commands) ≤ length (files file.Blocks)
head_lies head.New files start commands is = cc
head_lies (head.NotAStore place) files start commands is = cc
head_lies (head.Names slot) files start commands is = slot_lies (length (files file.Blocks)) (found (files slot)) start commands is

-- the pieces of the state that the files stand for lie in the block file
stands_within : (files : Files) (start : State) → StandsOrNew files start → end_in start ≤ length (files file.Blocks)
stands_within files start (inl stands) =
    subst (λ (s : State). end_in s ≤ length (files file.Blocks)) stands.after (head_lies (head_in (files file.Head)) files stands.start stands.commands stands.stored)
stands_within files start (inr new) = subst (λ (s : State). end_in s ≤ length (files file.Blocks)) (sym new.1) (omega arith)

-- ---- what a crash leaves between the opening and the end

new_or_stored : (found : Contents) (start : State) (commands : List Cmd) → found ≡ New → found ≡ Stored start commands → ⊥
new_or_stored found start commands new stored = cc

-- the state of a new store has no pieces
no_pieces : (blocks others : List ℕ) → SamePieces opening blocks others
no_pieces blocks others = refl

-- a crash while the store is opened leaves it at its start, or new where it was new
opening_leaves : (may_old : FileNo → List ℕ → Type 0) (seen : Files) (start : State) (last : Kept) (blocks : List ℕ) → StandsOrNew seen start
    → SamePieces start blocks (seen file.Blocks) → Follows last (opened start)
    → (files : Files) → LeavesMeaning may_old seen files → LeavesPrefix may_old seen (opened start) last blocks files
opening_leaves may_old seen start last blocks from kept follows files (inl before) = inl before
opening_leaves may_old seen start last blocks (inl stands) kept follows files (inr (inl same)) =
    inr (inr (
      opened start,
      follows_same (opened start),
      follows,
      record {
        start = stands.start;
        commands = stands.commands;
        stored = same.0 ∙ stands.stored;
        after = stands.after;
        same = ap (take (end_in start)) same.1 ∙ sym kept;
      },
    ))
opening_leaves may_old seen start last blocks (inr new) kept follows files (inr (inl same)) = inr (inl (same.0 ∙ new.0, new.0))
opening_leaves may_old seen start last blocks (inl stands) kept follows files (inr (inr made)) =
    absurd (new_or_stored (contents seen) stands.start stands.commands made.0 stands.stored)
opening_leaves may_old seen start last blocks (inr new) kept follows files (inr (inr (was, inl none))) = inr (inl (none, was))
opening_leaves may_old seen start last blocks (inr new) kept follows files (inr (inr (was, inr made))) =
    let P : State → Type 0 = λ s. Stands files s blocks in
    inr (inr (
      opened start,
      follows_same (opened start),
      follows,
      subst P (sym new.1) (record {
        start = made.start;
        commands = made.commands;
        stored = made.stored;
        after = made.after;
        same = no_pieces (files file.Blocks) blocks;
      }),
    ))

-- what a run kept of the block file since the store was opened it kept since the call began
kept_since : (seen now : Files) (start : State) (blocks : List ℕ) → StandsOrNew seen start → KeepsMeaning seen now → SamePieces start blocks (now file.Blocks)
    → SamePieces start blocks (seen file.Blocks)
kept_since seen now start blocks (inl stands) (inl same) kept = kept ∙ ap (take (end_in start)) same.1
kept_since seen now start blocks (inl stands) (inr made) kept = absurd (new_or_stored (contents seen) stands.start stands.commands made.0 stands.stored)
kept_since seen now start blocks (inr new) meaning kept =
    let P : State → Type 0 = λ s. SamePieces s blocks (seen file.Blocks) in
    subst P (sym new.1) (no_pieces blocks (seen file.Blocks))

-- so it did as the store was opened
opened_same : (seen now : Files) (start : State) → StandsOrNew seen start → KeepsMeaning seen now → SamePieces start (now file.Blocks) (seen file.Blocks)
opened_same seen now start from meaning = kept_since seen now start (now file.Blocks) from meaning refl

is_opened : (kept : Kept) → kept.history ≡ [] → kept ≡ opened kept.start
is_opened kept none = ap (λ (h : List Cmd). record { start = kept.start; history = h }) none

-- ---- the contents

-- the machine behind the requests is the one that is kept
kept_behind : (t : Terms) (before now : Moment) (e : ConnEnd) (served : Served t before now e) → IsTrue t.alone
    → state_of now.seen ≡ state_after (first before) (gained (desk t before) (first before) (served.answered ++ served.broken))
kept_behind t before now e served alone =
    let turns = served.answered ++ served.broken in
    ap state_of served.talk.history
    ∙ ap (λ (l : List Cmd). state_of (with_more before.seen (added t before turns ++ l))) (served.mine alone)
    ∙ ap (λ (l : List Cmd). state_of (with_more before.seen l)) (append-nil (added t before turns))
    ∙ state_more before.seen (added t before turns)

module _ {D S K : Type 0} (of_disk : disk.Ghosts D) (of_source : source.Ghosts S) (of_sink : sink.Ghosts K) (second : Option ℕ) (admin : List ℕ)
    (disk_old disk_new : D) (s t : S) (k l : K) (start : State) (kept : Kept) (waiting : Option Cmd) (count : ℕ) (unread : List ℕ) (e : ConnEnd) where
  keeps_contents : IsTrue of_disk.tells → StandsOrNew (of_disk.seen disk_old) start
      → (served : Served (terms true second admin) (alone_with of_disk of_source of_sink (opened start) None disk_old s k 0 [])
      (alone_with of_disk of_source of_sink kept waiting disk_new t l count unread) e)
      → KeepsContents admin start kept (served.answered ++ served.broken) (of_disk.seen disk_old file.Blocks) (of_disk.seen disk_new file.Blocks)
  keeps_contents told from served =
      let before : Moment = alone_with of_disk of_source of_sink (opened start) None disk_old s k 0 [] in
      let now : Moment = alone_with of_disk of_source of_sink kept waiting disk_new t l count unread in
      let turns = served.answered ++ served.broken in
      let x = of_disk.seen disk_old file.Blocks in
      let y = of_disk.seen disk_new file.Blocks in
      let within = stands_within (of_disk.seen disk_old) start from in
      let stored : IsStored (desk_of admin) start turns x y = both_are (IsStored (desk_of admin) start turns) of_disk.tells x y (served.stored.blocks refl) told in
      let P : State → Type 0 = λ z. SamePieces z y (blocks_behind (desk_of admin) start x turns) in
      let Q : State → Type 0 = λ z. AreHeld z y in
      let behind = sym (kept_behind (terms true second admin) before now e served refl) in
      let alone = all_alone (terms true second admin) turns served.talk.each refl in
      record {
        within = within;
        same = subst P behind (stored within).0;
        shown = (stored within).1;
        still = still_there (desk_of admin) start turns x y alone served.stored.sends within (stored within).0 (stored within).1;
        held = λ held. subst Q behind (still_held (desk_of admin) start turns x y alone within (stored within).0 held);
      }

module _ {D S K : Type 0} (of_disk : disk.Ghosts D) (of_source : source.Ghosts S) (of_sink : sink.Ghosts K) (second : Option ℕ) (admin : List ℕ)
    (disk_old : D) (s t : S) (k l : K) (result : Status) where
  -- a store that was opened from this disk and then served
  pub pipe_served : (old new : Opened D) → (old.image.history ≡ []) × (old.waiting ≡ None)
      → (IsTrue of_disk.tells → StandsOrNew (of_disk.seen disk_old) old.image.start)
      → (IsTrue of_disk.tells → IsKept of_disk old)
      → (IsTrue of_disk.tells → KeepsMeaning (of_disk.seen disk_old) (of_disk.seen old.disk))
      → (IsTrue of_disk.tells → LeavesOnly of_disk.moment of_disk.left_since disk_old old.disk (LeavesMeaning (of_disk.may_leave disk_old) (of_disk.seen disk_old)))
      → of_disk.faults disk_old ≤ of_disk.faults old.disk
      → StoreServed of_disk of_source of_sink second admin old new s t k l result
      → PipeServed of_disk of_source of_sink second admin disk_old new.disk s t k l result
  pipe_served old new fresh from kept meaning run later served =
      let start = old.image.start in
      let is : old.image ≡ opened start = is_opened old.image fresh.0 in
      let last : Kept = with_waiting new.image new.waiting in
      let blocks = of_disk.seen new.disk file.Blocks in
      let same : IsTrue of_disk.tells → SamePieces start blocks (of_disk.seen disk_old file.Blocks) =
      λ told. kept_since (of_disk.seen disk_old) (of_disk.seen old.disk) start blocks (from told) (meaning told)
      (subst (λ (k0 : Kept). SamePieces (state_of k0) blocks (of_disk.seen old.disk file.Blocks)) (ap (with_waiting old.image) fresh.1 ∙ is) (served.ran.same told)) in
      let from_start : Follows last (opened start) =
      subst (λ (k : Kept). Follows last k) is (follows_more old.image new.image last served.ran.follows (follows_waiting new.image new.waiting)) in
      let before : Moment = alone_with of_disk of_source of_sink (opened start) None old.disk s k 0 [] in
      let now : Moment = alone_with of_disk of_source of_sink new.image new.waiting new.disk t l served.count served.unread in
      let from_opened : Served (terms true second admin) before now served.end =
      subst (λ (k0 : Kept). Served (terms true second admin) (alone_with of_disk of_source of_sink k0 None old.disk s k 0 []) now served.end) is
      (subst (λ (w : Option Cmd). Served (terms true second admin) (alone_with of_disk of_source of_sink old.image w old.disk s k 0 []) now served.end) fresh.1 served.served) in
      let told_old = told_by of_disk.tells (of_disk.seen disk_old file.Blocks) in
      let all : Served (terms true second admin) (alone_with of_disk of_source of_sink (opened start) None disk_old s k 0 []) now served.end =
      served_earlier served.end (terms true second admin) before now (of_disk.faults disk_old) told_old later
      (λ _. both_told (λ x y. SamePieces start y x) of_disk.tells (of_disk.seen disk_old file.Blocks) (of_disk.seen old.disk file.Blocks)
      (λ told. opened_same (of_disk.seen disk_old) (of_disk.seen old.disk) start (from told) (meaning told))) from_opened in
      record {
        start = start;
        kept = new.image;
        waiting = new.waiting;
        count = served.count;
        unread = served.unread;
        end = served.end;
        is = served.is;
        from = from;
        served = all;
        stores = λ told. keeps_contents of_disk of_source of_sink second admin disk_old new.disk s t k l start new.image new.waiting served.count served.unread served.end told (from told) all;
        crash = λ told. joined of_disk.moment of_disk.left_since disk_old old.disk new.disk (LeavesPrefix (of_disk.may_leave disk_old) (of_disk.seen disk_old) (opened start) last blocks)
            (weaker of_disk.moment of_disk.left_since disk_old old.disk (LeavesMeaning (of_disk.may_leave disk_old) (of_disk.seen disk_old))
            (LeavesPrefix (of_disk.may_leave disk_old) (of_disk.seen disk_old) (opened start) last blocks) (run told)
            (opening_leaves (of_disk.may_leave disk_old) (of_disk.seen disk_old) start last blocks (from told) (same told) from_start))
            (weaker of_disk.moment of_disk.left_since old.disk new.disk (Between old.image (finished new) blocks)
            (LeavesPrefix (of_disk.may_leave disk_old) (of_disk.seen disk_old) (opened start) last blocks) (served.ran.crash told (kept told))
            (λ files h. inr (inr (subst (λ (k0 : Kept). Between k0 last blocks files) is h))));
        left = λ told. served.ran.kept told (kept told);
      }

  -- ---- what the status tells

  module _ (disk_new : D) where
    disk_case : (e : ConnEnd) (kept : Kept) (waiting : Option Cmd) (start : State) (count : ℕ) (unread : List ℕ) → result ≡ status_of e → result ≡ status.DiskFault
        → Served (terms true second admin) (alone_with of_disk of_source of_sink (opened start) None disk_old s k 0 []) (alone_with of_disk of_source of_sink kept waiting disk_new t l count unread) e
        → Rose (of_disk.faults disk_old) (of_disk.faults disk_new)
    disk_case end.DiskFault kept waiting start count unread is h served = served.ends.1
    disk_case end.ReadFault kept waiting start count unread is h served = cc
    disk_case end.Ended kept waiting start count unread is h served = cc
    disk_case end.Cut kept waiting start count unread is h served = cc
    disk_case end.Bad kept waiting start count unread is h served = cc
    disk_case end.WriteFault kept waiting start count unread is h served = cc
    disk_case end.NoMemory kept waiting start count unread is h served = cc
    disk_case end.Spent kept waiting start count unread is h served = cc

    disk_refused : (f : StoreFault) → result ≡ refusal_of f → result ≡ status.DiskFault → f ≡ fault.Disk
    disk_refused fault.Disk is h = refl
    disk_refused (fault.NotAStore place) is h = cc
    disk_refused (fault.Damaged place) is h = cc
    disk_refused fault.NoMemory is h = cc

    pub pipe_disk : PipeRan of_disk of_source of_sink second admin disk_old disk_new s t k l result → result ≡ status.DiskFault → Rose (of_disk.faults disk_old) (of_disk.faults disk_new)
    pipe_disk (inl h) e = disk_case h.end h.kept h.waiting h.start h.count h.unread h.is e h.served
    pipe_disk (inr h) e = h.rose (disk_refused h.fault h.is e)

    read_case : (e : ConnEnd) (kept : Kept) (waiting : Option Cmd) (start : State) (count : ℕ) (unread : List ℕ) → result ≡ status_of e → result ≡ status.ReadFault
        → Served (terms true second admin) (alone_with of_disk of_source of_sink (opened start) None disk_old s k 0 []) (alone_with of_disk of_source of_sink kept waiting disk_new t l count unread) e
        → Rose (of_source.faults s) (of_source.faults t)
    read_case end.ReadFault kept waiting start count unread is h served = served.ends.2
    read_case end.Ended kept waiting start count unread is h served = cc
    read_case end.Cut kept waiting start count unread is h served = cc
    read_case end.Bad kept waiting start count unread is h served = cc
    read_case end.WriteFault kept waiting start count unread is h served = cc
    read_case end.DiskFault kept waiting start count unread is h served = cc
    read_case end.NoMemory kept waiting start count unread is h served = cc
    read_case end.Spent kept waiting start count unread is h served = cc

    -- no refusal of a store is a fault of the ends
    refused_ends : (f : StoreFault) (other : Status) → (other ≡ status.ReadFault) ⊎ (other ≡ status.WriteFault) → refusal_of f ≡ other → ⊥
    refused_ends fault.Disk other (inl h) e = cc
    refused_ends fault.Disk other (inr h) e = cc
    refused_ends (fault.NotAStore place) other (inl h) e = cc
    refused_ends (fault.NotAStore place) other (inr h) e = cc
    refused_ends (fault.Damaged place) other (inl h) e = cc
    refused_ends (fault.Damaged place) other (inr h) e = cc
    refused_ends fault.NoMemory other (inl h) e = cc
    refused_ends fault.NoMemory other (inr h) e = cc

    pub pipe_read : PipeRan of_disk of_source of_sink second admin disk_old disk_new s t k l result → result ≡ status.ReadFault → Rose (of_source.faults s) (of_source.faults t)
    pipe_read (inl h) e = read_case h.end h.kept h.waiting h.start h.count h.unread h.is e h.served
    pipe_read (inr h) e = absurd (refused_ends h.fault status.ReadFault (inl refl) (sym h.is ∙ e))

    write_case : (e : ConnEnd) (kept : Kept) (waiting : Option Cmd) (start : State) (count : ℕ) (unread : List ℕ) → result ≡ status_of e → result ≡ status.WriteFault
        → Served (terms true second admin) (alone_with of_disk of_source of_sink (opened start) None disk_old s k 0 []) (alone_with of_disk of_source of_sink kept waiting disk_new t l count unread) e
        → Rose (of_sink.faults k) (of_sink.faults l)
    write_case end.WriteFault kept waiting start count unread is h served = served.ends.3
    write_case end.Ended kept waiting start count unread is h served = cc
    write_case end.Cut kept waiting start count unread is h served = cc
    write_case end.Bad kept waiting start count unread is h served = cc
    write_case end.ReadFault kept waiting start count unread is h served = cc
    write_case end.DiskFault kept waiting start count unread is h served = cc
    write_case end.NoMemory kept waiting start count unread is h served = cc
    write_case end.Spent kept waiting start count unread is h served = cc

    pub pipe_write : PipeRan of_disk of_source of_sink second admin disk_old disk_new s t k l result → result ≡ status.WriteFault → Rose (of_sink.faults k) (of_sink.faults l)
    pipe_write (inl h) e = write_case h.end h.kept h.waiting h.start h.count h.unread h.is e h.served
    pipe_write (inr h) e = absurd (refused_ends h.fault status.WriteFault (inr refl) (sym h.is ∙ e))

    -- ---- completeness

    status_cases : (e ending : ConnEnd) (rest : List ℕ) → result ≡ status_of e
        → (e ≡ ending) ⊎ ((e ≡ end.NoMemory) ⊎ (IsOpenTarget rest × ((e ≡ end.Cut) ⊎ (e ≡ end.Bad)))) → EndsSo result ending rest
    status_cases e ending rest is (inl h) = inl (is ∙ ap status_of h)
    status_cases e ending rest is (inr (inl h)) = inr (inl (is ∙ ap status_of h))
    status_cases e ending rest is (inr (inr h)) = inr (inr (h.0, by h.1)) where
      by : ((e ≡ end.Cut) ⊎ (e ≡ end.Bad)) → (result ≡ status.Cut) ⊎ (result ≡ status.Bad)
      by (inl cut) = inl (is ∙ ap status_of cut)
      by (inr bad) = inr (is ∙ ap status_of bad)

    -- a store that can be opened isn't refused for its contents
    readable : (f : StoreFault) (found : Contents) (start : State) (stands : (found ≡ New) ⊎ ((st : State) × (cmds : List Cmd) × (found ≡ Stored st cmds))) → IsSaid found f → result ≡ refusal_of f
        → (f ≡ fault.Disk → ⊥) → result ≡ status.NoMemory
    readable fault.Disk found start stands said is none = absurd (none refl)
    readable fault.NoMemory found start stands said is none = is
    readable (fault.NotAStore place) found start (inl new) said is none = cc
    readable (fault.NotAStore place) found start (inr stored) said is none = let e = stored.2 in cc
    readable (fault.Damaged place) found start (inl new) said is none = cc
    readable (fault.Damaged place) found start (inr stored) said is none = let e = stored.2 in cc

    stored_or_new : (seen : Files) (start : State) → StandsOrNew seen start → (contents seen ≡ New) ⊎ ((st : State) × (cmds : List Cmd) × (contents seen ≡ Stored st cmds))
    stored_or_new seen start (inl stands) = inr (stands.start, stands.commands, stands.stored)
    stored_or_new seen start (inr new) = inl new.0

    pub pipe_complete : (ending : ConnEnd) (start : State) → PipeRan of_disk of_source of_sink second admin disk_old disk_new s t k l result
        → IsTrue of_disk.tells → StandsOrNew (of_disk.seen disk_old) start → (sent : Spells (of_source.left s) ending)
        → (Rose (of_source.faults s) (of_source.faults t) → ⊥) → (Rose (of_sink.faults k) (of_sink.faults l) → ⊥) → (Rose (of_disk.faults disk_old) (of_disk.faults disk_new) → ⊥)
        → EndsSo result ending sent.rest
    pipe_complete ending start (inl h) told stands sent r w d = status_cases h.end ending sent.rest h.is (complete _ _ _ ending refl refl sent h.end h.served r w d)
    pipe_complete ending start (inr h) told stands sent r w d =
        inr (inl (readable h.fault (contents (of_disk.seen disk_old)) start (stored_or_new (of_disk.seen disk_old) start stands) (h.said told) h.is (λ e. d (h.rose e))))

    -- ---- what is told of the files

    served_status : (e : ConnEnd) (place : ℕ) → (status_of e ≡ status.NotAStore place) ⊎ (status_of e ≡ status.Damaged place) → ⊥
    served_status end.Ended place (inl h) = cc
    served_status end.Ended place (inr h) = cc
    served_status end.Cut place (inl h) = cc
    served_status end.Cut place (inr h) = cc
    served_status end.Bad place (inl h) = cc
    served_status end.Bad place (inr h) = cc
    served_status end.ReadFault place (inl h) = cc
    served_status end.ReadFault place (inr h) = cc
    served_status end.WriteFault place (inl h) = cc
    served_status end.WriteFault place (inr h) = cc
    served_status end.DiskFault place (inl h) = cc
    served_status end.DiskFault place (inr h) = cc
    served_status end.NoMemory place (inl h) = cc
    served_status end.NoMemory place (inr h) = cc
    served_status end.Spent place (inl h) = cc
    served_status end.Spent place (inr h) = cc

    not_a_store_said : (f : StoreFault) (found : Contents) (place : ℕ) → IsSaid found f → refusal_of f ≡ status.NotAStore place → found ≡ NotAStore place
    not_a_store_said (fault.NotAStore at) found place said e = cc
    not_a_store_said (fault.Damaged at) found place said e = cc
    not_a_store_said fault.Disk found place said e = cc
    not_a_store_said fault.NoMemory found place said e = cc

    damaged_said : (f : StoreFault) (found : Contents) (place : ℕ) → IsSaid found f → refusal_of f ≡ status.Damaged place → found ≡ Damaged place
    damaged_said (fault.Damaged at) found place said e = cc
    damaged_said (fault.NotAStore at) found place said e = cc
    damaged_said fault.Disk found place said e = cc
    damaged_said fault.NoMemory found place said e = cc

    said_back : (f : StoreFault) (found : Contents) (refusal : Status) → IsSaid found f → refused_as found ≡ Some refusal → result ≡ refusal_of f
        → (result ≡ refusal) ⊎ ((result ≡ status.DiskFault) ⊎ (result ≡ status.NoMemory))
    said_back fault.Disk found refusal said e is = inr (inl is)
    said_back fault.NoMemory found refusal said e is = inr (inr is)
    said_back (fault.NotAStore at) found refusal said e is =
        let shown : Some (status.NotAStore at) ≡ Some refusal = sym (ap refused_as said) ∙ e in
        let same : status.NotAStore at ≡ refusal = cc in
        inl (is ∙ same)
    said_back (fault.Damaged at) found refusal said e is =
        let shown : Some (status.Damaged at) ≡ Some refusal = sym (ap refused_as said) ∙ e in
        let same : status.Damaged at ≡ refusal = cc in
        inl (is ∙ same)

    none_refused : (seen : Files) (start : State) (refusal : Status) → StandsOrNew seen start → refused_as (contents seen) ≡ Some refusal → ⊥
    none_refused seen start refusal (inl stands) e = let n : None ≡ Some refusal = sym (ap refused_as stands.stored) ∙ e in cc
    none_refused seen start refusal (inr new) e = let n : None ≡ Some refusal = sym (ap refused_as new.0) ∙ e in cc

    pub pipe_contents : PipeRan of_disk of_source of_sink second admin disk_old disk_new s t k l result → IsTrue of_disk.tells → TellsContents (contents (of_disk.seen disk_old)) result
    pipe_contents (inl h) told = record {
      not_a_store = λ place e. absurd (served_status h.end place (inl (sym h.is ∙ e)));
      damaged = λ place e. absurd (served_status h.end place (inr (sym h.is ∙ e)));
      told = λ refusal e. absurd (none_refused (of_disk.seen disk_old) h.start refusal (h.from told) e);
    }
    pipe_contents (inr h) told = record {
      not_a_store = λ place e. not_a_store_said h.fault (contents (of_disk.seen disk_old)) place (h.said told) (sym h.is ∙ e);
      damaged = λ place e. damaged_said h.fault (contents (of_disk.seen disk_old)) place (h.said told) (sym h.is ∙ e);
      told = λ refusal e. said_back h.fault (contents (of_disk.seen disk_old)) refusal (h.said told) e h.is;
    }

-- nothing is given
moves_none : {S : Type 0} (given left : S → Option (List ℕ)) (s : S) → Moves given left s s []
moves_none given left s = record { gave = known_none (given s); took = known_nothing (left s) }

none_yet : 0 < 1000000
none_yet = omega arith

-- memory was wanting before anything was touched
pub nothing_opened : {D S K : Type 0} (of_disk : disk.Ghosts D) (of_source : source.Ghosts S) (of_sink : sink.Ghosts K)
    → ((at : D) (image : Files) → of_disk.left_since at (of_disk.moment at) image → (g : FileNo) → of_disk.may_leave at g (image g)) → (disk : D) (s : S) (k : K)
    → PipeRefused of_disk of_source of_sink disk disk s s k k status.NoMemory
nothing_opened of_disk of_source of_sink only_now disk s k = record {
  fault = fault.NoMemory;
  is = refl;
  said = λ told. tt;
  rose = λ e. cc;
  moves = moves_none of_source.given of_source.left s;
  holds = known_none (of_sink.held k);
  meaning = λ told. inl (refl, refl);
  crash = λ told. started of_disk.moment of_disk.left_since disk (LeavesMeaning (of_disk.may_leave disk) (of_disk.seen disk)) (λ image left. inl (only_now disk image left));
}

-- the store was opened, and memory was wanting for a connection
pub nothing_served : {D S K : Type 0} (of_disk : disk.Ghosts D) (of_source : source.Ghosts S) (of_sink : sink.Ghosts K) (second : Option ℕ) (admin : List ℕ) (store : Opened D) (s : S) (k : K)
    → Ran of_disk store store → StoreServed of_disk of_source of_sink second admin store store s s k k status.NoMemory
nothing_served of_disk of_source of_sink second admin store s k ran =
    let here : Moment = alone_with of_disk of_source of_sink store.image store.waiting store.disk s k 0 [] in
    record {
      count = 0;
      unread = [];
      end = end.NoMemory;
      is = refl;
      served = serve_none end.NoMemory (terms true second admin) here here [] [] [] (known_none here.given) (known_nothing here.left) (known_none here.held)
          (with_nothing store.image) refl (λ _. inl refl) (λ _. refl) (λ _. keeps_same (first here) here.blocks here.blocks refl) none_yet (inl (refl, inr (refl, refl, refl)));
      ran = ran;
    }

-- the store was not opened
pub refused_opening : {D S K : Type 0} (of_disk : disk.Ghosts D) (of_source : source.Ghosts S) (of_sink : sink.Ghosts K) (disk_old disk_new : D) (s : S) (k : K) (f : StoreFault) (result : Status)
    → result ≡ refusal_of f → (IsTrue of_disk.tells → IsSaid (contents (of_disk.seen disk_old)) f) → (f ≡ fault.Disk → Rose (of_disk.faults disk_old) (of_disk.faults disk_new))
    → (IsTrue of_disk.tells → KeepsMeaning (of_disk.seen disk_old) (of_disk.seen disk_new))
    → (IsTrue of_disk.tells → LeavesOnly of_disk.moment of_disk.left_since disk_old disk_new (LeavesMeaning (of_disk.may_leave disk_old) (of_disk.seen disk_old)))
    → PipeRefused of_disk of_source of_sink disk_old disk_new s s k k result
refused_opening of_disk of_source of_sink disk_old disk_new s k f result is said rose meaning crash = record {
  fault = f;
  is = is;
  said = said;
  rose = rose;
  moves = moves_none of_source.given of_source.left s;
  holds = known_none (of_sink.held k);
  meaning = meaning;
  crash = crash;
}
