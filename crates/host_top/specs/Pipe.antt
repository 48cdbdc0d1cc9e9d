-- What a run of `pipe` did.
use Rattle.std.specs.Prelude.{ℕ, ◌≡◌, ◌≤◌, ◌⊎◌, List, [], ◌∷◌, ◌++◌, length, Option, None, Some, true, IsTrue}
use Rattle.fh_model.specs.declared.commands.Cmd.{Cmd}
use Rattle.fh_model.specs.Content.{content_of}
use Rattle.fh_model.specs.History.{Kept, state_after, state_of}
use Rattle.fh_model.specs.Pieces.{AreHeld, SamePieces, end_in}
use Rattle.fh_model.specs.State.{State}
use Rattle.fh_world.specs.Bytes.{Moves, Holds}
use Rattle.fh_world.specs.Causes.{Rose}
use Rattle.fh_world.specs.Disk.{Files, LeavesOnly}
use Rattle.fh_world.specs.declared.Disk as disk
use Rattle.fh_world.specs.declared.FileNo.{FileNo}
use Rattle.fh_world.specs.declared.FileNo.TheVariants as file
use Rattle.fh_world.specs.declared.source.Source as source
use Rattle.fh_world.specs.declared.sink.Sink as sink
use Rattle.host_seat.specs.Direct.{waiting_in, told_by, Between, Ran}
use Rattle.session_rules.specs.Connection.{Desk, Turn, ShowAll, blocks_behind, fetched, gained_in}
use Rattle.session_http.specs.Ends.{Served}
use Rattle.session_http.specs.Talk.{Moment, terms}
use Rattle.session_http.specs.declared.conn.ConnEnd.{ConnEnd}
use Rattle.store_core.specs.Files.{Contents, New, NotAStore, Damaged, Stored, contents, StandsOrNew, KeepsMeaning}
use Rattle.store_core.specs.Open.{IsSaid, LeavesMeaning}
use Rattle.store_core.specs.Store.{Opened, StandsFor, with_waiting}
use Rattle.store_core.specs.declared.faults.StoreFault.{StoreFault}
use Rattle.store_core.specs.declared.faults.StoreFault.TheVariants as store_fault
use Rattle.host_top.specs.declared.status.Status.{Status}
use Rattle.host_top.specs.declared.status.Status.TheVariants as status
use Rattle.host_top.specs.Status.{status_of, refusal_of}
use Rattle.http_in.specs.Heads.{IsOpenTarget}

-- the number of the only seat
abbrev pub seat : ℕ
seat = 1

-- the machine as it was opened, before any command
abbrev pub opened : State → Kept
opened start = record { start = start; history = [] }

-- what is known at a moment of the machine, which nobody else uses, of its disk and the block file there, of the source,
-- of the sink, and of the connection: how many requests were answered, and what its reader holds
abbrev pub alone_with : {D S K : Type 0} → disk.Ghosts D → source.Ghosts S → sink.Ghosts K → Kept → Option Cmd → D → S → K → ℕ → List ℕ → Moment
alone_with of_disk of_source of_sink kept waiting d s k count unread = record {
  seen = kept;
  waits = waiting_in waiting;
  blocks = told_by of_disk.tells (of_disk.seen d file.Blocks);
  number = seat;
  port_faults = of_disk.faults d;
  given = of_source.given s;
  left = of_source.left s;
  read_faults = of_source.faults s;
  held = of_sink.held k;
  write_faults = of_sink.faults k;
  count = count;
  unread = unread;
}

-- the only seat, where this is the admin word
abbrev pub desk_of : List ℕ → Desk
desk_of admin = record { admin = admin; seat = seat }

-- each content that was sent is that of its pieces in this block file
abbrev pub SentFrom : List ℕ → Desk → State → List Turn → Type 0
SentFrom blocks desk s [] = Unit {0}
SentFrom blocks desk s (turn ∷ turns) = (turn.sent ≡ content_of blocks (fetched desk s turn)) × SentFrom blocks desk (state_after s (gained_in desk s turn)) turns

-- What became of the contents, from one block file to another, where these requests took the machine from its start to
-- what is kept, and nobody else's commands came.
pub record KeepsContents (admin : List ℕ) (start : State) (kept : Kept) (turns : List Turn) (before after : List ℕ) : Type 0 where
  -- the block file had all pieces of the state at the start
  pub within : end_in start ≤ length before
  -- at the end it has all pieces of the state behind the requests: the bytes that were there, and behind them those that
  -- came with the requests whose commands entered
  pub same : SamePieces (state_of kept) after (blocks_behind (desk_of admin) start before turns)
  -- each content that was sent is that of its pieces, in the block file as the requests before made it
  pub shown : ShowAll (desk_of admin) start before turns
  -- and in the block file at the end, where it still stands
  pub still : SentFrom after (desk_of admin) start turns
  -- where each piece had bytes of its digest, each has
  pub held : AreHeld start before → AreHeld (state_of kept) after

-- A crash left what it might have left before the files were synced, or no store yet where there was none, or files
-- that stand for the machine after some of the last history from its start, with the bytes of its pieces that a block
-- file has.
abbrev pub LeavesPrefix : (FileNo → List ℕ → Type 0) → Files → Kept → Kept → List ℕ → Files → Type 0
LeavesPrefix may_old seen_old first last blocks files =
    ((g : FileNo) → may_old g (files g)) ⊎ (((contents files ≡ New) × (contents seen_old ≡ New)) ⊎ Between first last blocks files)

-- One connection was served over the store that the disk held, from the state that its files stood for, and left
-- this history and at most one command that waits for the disk. `count` is the connection's own count of its requests, and
-- `unread` what its reader still held. The status tells its end.
pub record PipeServed {D S K : Type 0} (of_disk : disk.Ghosts D) (of_source : source.Ghosts S) (of_sink : sink.Ghosts K) (second : Option ℕ) (admin : List ℕ)
    (disk_old disk_new : D) (input_old input_new : S) (output_old output_new : K) (result : Status) : Type 0 where
  pub start : State
  pub kept : Kept
  pub waiting : Option Cmd
  pub count : ℕ
  pub unread : List ℕ
  pub end : ConnEnd
  pub is : result ≡ status_of end
  pub from : IsTrue of_disk.tells → StandsOrNew (of_disk.seen disk_old) start
  pub served : Served (terms true second admin) (alone_with of_disk of_source of_sink (opened start) None disk_old input_old output_old 0 [])
      (alone_with of_disk of_source of_sink kept waiting disk_new input_new output_new count unread) end
  -- the block file has the data of what was uploaded, and what was sent of a content is its data
  pub stores : IsTrue of_disk.tells → KeepsContents admin start kept (served.answered ++ served.broken) (of_disk.seen disk_old file.Blocks) (of_disk.seen disk_new file.Blocks)
  -- after a crash at any moment the files stand for the machine after a prefix of the history, with its files' bytes
  pub crash : IsTrue of_disk.tells → LeavesOnly of_disk.moment of_disk.left_since disk_old disk_new
      (LeavesPrefix (of_disk.may_leave disk_old) (of_disk.seen disk_old) (opened start) (with_waiting kept waiting)
      (of_disk.seen disk_new file.Blocks))
  -- and after the call for the machine after all of it, or also after the command that waits
  pub left : IsTrue of_disk.tells → (files : Files) → ((g : FileNo) → of_disk.may_leave disk_new g (files g)) → StandsFor files kept waiting (of_disk.seen disk_new file.Blocks)

-- The store was not opened: nothing was read or written, and the files stand for what they stood for, but that a new
-- store may have been made where there was none.
pub record PipeRefused {D S K : Type 0} (of_disk : disk.Ghosts D) (of_source : source.Ghosts S) (of_sink : sink.Ghosts K)
    (disk_old disk_new : D) (input_old input_new : S) (output_old output_new : K) (result : Status) : Type 0 where
  pub fault : StoreFault
  pub is : result ≡ refusal_of fault
  pub said : IsTrue of_disk.tells → IsSaid (contents (of_disk.seen disk_old)) fault
  pub rose : fault ≡ store_fault.Disk → Rose (of_disk.faults disk_old) (of_disk.faults disk_new)
  pub moves : Moves of_source.given of_source.left input_old input_new []
  pub holds : Holds of_sink.held output_old output_new []
  pub meaning : IsTrue of_disk.tells → KeepsMeaning (of_disk.seen disk_old) (of_disk.seen disk_new)
  pub crash : IsTrue of_disk.tells → LeavesOnly of_disk.moment of_disk.left_since disk_old disk_new (LeavesMeaning (of_disk.may_leave disk_old) (of_disk.seen disk_old))

abbrev pub PipeRan : {D S K : Type 0} → disk.Ghosts D → source.Ghosts S → sink.Ghosts K → Option ℕ → List ℕ → D → D → S → S → K → K → Status → Type 0
PipeRan of_disk of_source of_sink second admin disk_old disk_new input_old input_new output_old output_new result =
    PipeServed of_disk of_source of_sink second admin disk_old disk_new input_old input_new output_old output_new result
    ⊎ PipeRefused of_disk of_source of_sink disk_old disk_new input_old input_new output_old output_new result

-- what says that the files hold no store that can be opened
abbrev pub refused_as : Contents → Option Status
refused_as New = None
refused_as (NotAStore place) = Some (status.NotAStore place)
refused_as (Damaged place) = Some (status.Damaged place)
refused_as (Stored start commands) = None

-- it is told exactly where it is so, but for a fault of the disk and want of memory
pub record TellsContents (found : Contents) (result : Status) : Type 0 where
  pub not_a_store : (place : ℕ) → result ≡ status.NotAStore place → found ≡ NotAStore place
  pub damaged : (place : ℕ) → result ≡ status.Damaged place → found ≡ Damaged place
  pub told : (refusal : Status) → refused_as found ≡ Some refusal → (result ≡ refusal) ⊎ ((result ≡ status.DiskFault) ⊎ (result ≡ status.NoMemory))

-- The status is that of this ending, or memory was wanting. Bytes that end inside a request target which no continuation
-- makes one of a head may be told as cut or as bad.
abbrev pub EndsSo : Status → ConnEnd → List ℕ → Type 0
EndsSo result ending rest =
    (result ≡ status_of ending) ⊎ ((result ≡ status.NoMemory) ⊎ (IsOpenTarget rest × ((result ≡ status.Cut) ⊎ (result ≡ status.Bad))))

-- ---- between the opening of a store and its end

-- a store that was opened served one connection
pub record StoreServed {D S K : Type 0} (of_disk : disk.Ghosts D) (of_source : source.Ghosts S) (of_sink : sink.Ghosts K) (second : Option ℕ) (admin : List ℕ)
    (old new : Opened D) (input_old input_new : S) (output_old output_new : K) (result : Status) : Type 0 where
  pub count : ℕ
  pub unread : List ℕ
  pub end : ConnEnd
  pub is : result ≡ status_of end
  pub served : Served (terms true second admin) (alone_with of_disk of_source of_sink old.image old.waiting old.disk input_old output_old 0 [])
      (alone_with of_disk of_source of_sink new.image new.waiting new.disk input_new output_new count unread) end
  pub ran : Ran of_disk old new
