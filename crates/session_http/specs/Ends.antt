-- All that a connection did, and why it ended.
use Rattle.std.specs.Prelude.{ℕ, ◌≡◌, ◌≢◌, ◌+◌, ◌≤◌, ◌<◌, ◌⊎◌, List, [], ◌∷◌, ◌++◌, length, take, All, IsTrue, true, false}
use Rattle.std.specs.Io.KnownBytes.{IsAtEnd}
use Rattle.fh_world.specs.Causes.{Rose}
use Rattle.fh_model.specs.declared.commands.Act.{Act}
use Rattle.fh_model.specs.declared.commands.Cmd.{Cmd}
use Rattle.fh_model.specs.declared.files.FileMeta.{FileMeta}
use Rattle.fh_model.specs.declared.limits.TheConstants.{REQUESTS_MAX}
use Rattle.fh_model.specs.declared.names.Name.{Name}
use Rattle.fh_model.specs.History.{state_after}
use Rattle.fh_model.specs.Resolve.{resolve}
use Rattle.fh_model.specs.State.{State}
use Rattle.host_seat.specs.Port.{Leaves}
use Rattle.http_in.specs.Bodies.{done}
use Rattle.http_in.specs.Requests.{BeginsWithBody}
use Rattle.session_rules.specs.Asked.{asks_last}
use Rattle.session_rules.specs.Connection.{Desk, Turn, broken_off, cmd_with, decision, interim_of, state_at}
use Rattle.session_rules.specs.Decisions.{Decision, enters, loads}
use Rattle.session_rules.specs.Replies.{Said, load_of, out_of_memory, text_of}
use Rattle.session_rules.specs.declared.loading.Load.TheVariants as load
use Rattle.session_http.specs.Begun.{IsBegun, IsCutShort, IsGreeted, IsOpened, IsRefused}
use Rattle.session_http.specs.Talk.{Terms, Moment, IsTurn, IsWhole, Stored, Talk, desk, replies, replies_behind, state_behind}
use Rattle.session_http.specs.declared.conn.ConnEnd.{ConnEnd}
use Rattle.session_http.specs.declared.conn.ConnEnd.TheVariants.{Ended, Cut, Bad, ReadFault, WriteFault, DiskFault, NoMemory, Spent}

-- some of a text from its start
abbrev pub IsPart : List ℕ → List ℕ → Type 0
IsPart text part = (n : ℕ) × (part ≡ take n text)

-- none of the requests asks that the connection end
abbrev pub GoOn : List Turn → Type 0
GoOn turns = All (λ turn. asks_last turn.asked.head ≡ false) turns

-- the last of them alone does
abbrev pub EndsLast : List Turn → Type 0
EndsLast turns = (earlier : List Turn) × (last : Turn) × (turns ≡ earlier ++ last ∷ []) × GoOn earlier × (asks_last last.asked.head ≡ true)

-- what is written where bytes are bad or past a limit: this is said, or that memory was wanting, and the connection ends
abbrev pub IsLastText : List ℕ → List ℕ → Type 0
IsLastText rest text = (before : List ℕ) × (it : Said) × IsRefused rest before it
    × ((text ≡ before ++ text_of it true) ⊎ (text ≡ before ++ text_of out_of_memory true))

-- what is being written behind the replies: that to a whole request, an interim text, or the last text
abbrev pub IsWritten : Terms → Moment → List Turn → List Turn → List ℕ → List ℕ → Type 0
IsWritten t before answered broken rest text =
    (text ≡ replies_behind t before answered broken) ⊎ ((broken ≡ []) × (IsGreeted rest text ⊎ IsLastText rest text))

-- a whole request stands at the front of the rest whose command the disk failed to take, so that it may wait
pub record IsStopped (t : Terms) (before now : Moment) (answered : List Turn) (behind : List Cmd) (rest part : List ℕ) : Type 0 where
  pub turn : Turn
  pub act : Act
  pub bytes : List ℕ
  pub after : List ℕ
  pub begins : BeginsWithBody rest turn.asked (done after)
  pub is : IsTurn t turn
  pub entered : behind ≡ turn.others ++ turn.between
  pub wanted : decision (desk t before) (state_behind t before answered) turn ≡ enters act bytes
  pub wrote : part ≡ interim_of turn.asked.head
  pub left : Leaves before.waits (cmd_with before.number turn.at (state_after (state_behind t before answered) turn.others) act bytes ∷ []) now.waits

-- the content of this file is asked for, to which the path leads in this state
pub record AsksFor (s : State) (d : Decision) (meta : FileMeta) : Type 0 where
  pub user : ℕ
  pub path : List ℕ
  pub names : List Name
  pub loads_it : d ≡ loads user path
  pub there : load_of (resolve s user path) ≡ load.File names meta

-- and it is by a request that comes to its look behind this state
abbrev pub AsksBehind : Desk → State → Turn → FileMeta → Type 0
AsksBehind desk s turn meta = AsksFor (state_at s turn) (decision desk s turn) meta

-- A request asks for the content of a file. Of this only the first pieces were fetched, which are not all, and some of
-- its reply from its start was written.
pub record IsBrokenOff (t : Terms) (before : Moment) (answered broken : List Turn) (part : List ℕ) : Type 0 where
  pub turn : Turn
  pub meta : FileMeta
  pub count : ℕ
  pub is : broken ≡ turn ∷ []
  pub off : turn.kind ≡ broken_off count
  pub asks : AsksBehind (desk t before) (state_behind t before answered) turn meta
  pub fewer : count < length meta.pieces
  pub some : IsPart (replies_behind t before answered broken) part

-- no request of the connection was answered, none was begun, and nothing was written
abbrev pub IsUnbegun : Moment → List ℕ → List ℕ → Type 0
IsUnbegun now rest part = (now.count ≡ 0) × (rest ≡ []) × (part ≡ [])

-- Why a connection may end so. `answered` are the requests whose replies were written, `broken` is the one whose reply
-- was not written whole, `behind` what others entered since, `rest` what was read behind the requests, and `part` what
-- was written behind the replies.
abbrev pub EndsBy : ConnEnd → Terms → Moment → Moment → List Turn → List Turn → List Cmd → List ℕ → List ℕ → Type 0
EndsBy Ended t before now answered broken behind rest part =
    (broken ≡ []) × (behind ≡ []) × (part ≡ []) × (((rest ≡ []) × IsAtEnd now.left) ⊎ EndsLast answered)
EndsBy Cut t before now answered broken behind rest part = (broken ≡ []) × IsCutShort rest part × IsAtEnd now.left
EndsBy Bad t before now answered broken behind rest part = (broken ≡ []) × IsLastText rest part
EndsBy ReadFault t before now answered broken behind rest part = (broken ≡ []) × IsOpened rest part × Rose before.read_faults now.read_faults
EndsBy WriteFault t before now answered broken behind rest part =
    (text : List ℕ) × IsWritten t before answered broken rest text × IsPart text part × Rose before.write_faults now.write_faults
EndsBy DiskFault t before now answered broken behind rest part =
    (((broken ≡ []) × IsStopped t before now answered behind rest part)
    ⊎ (IsBrokenOff t before answered broken part × Leaves before.waits [] now.waits))
    × Rose before.port_faults now.port_faults
EndsBy NoMemory t before now answered broken behind rest part =
    ((broken ≡ []) × (IsBegun rest part ⊎ IsUnbegun now rest part)) ⊎ IsBrokenOff t before answered broken part
EndsBy Spent t before now answered broken behind rest part = (broken ≡ []) × (behind ≡ []) × (part ≡ []) × (before.count + length answered ≡ REQUESTS_MAX)

-- all that a connection did
pub record Served (t : Terms) (before now : Moment) (end : ConnEnd) : Type 0 where
  pub answered : List Turn
  pub broken : List Turn
  pub behind : List Cmd
  pub rest : List ℕ
  pub part : List ℕ
  pub talk : Talk t before now (answered ++ broken) behind rest (replies t before answered ++ part)
  -- a content may be broken off in the one that was not written whole alone
  pub stored : Stored t before now (answered ++ broken)
  pub whole : All (λ turn. IsWhole turn.kind) answered
  pub one : length broken ≤ 1
  pub few : end ≢ Spent → before.count + length answered < REQUESTS_MAX
  -- nothing is read behind a request that ends the connection
  pub going : GoOn answered ⊎ (EndsLast answered × ((end ≡ Ended) ⊎ (end ≡ Spent)))
  pub mine : IsTrue t.alone → behind ≡ []
  -- no command was left waiting but that of the request at which the disk failed
  pub waits : end ≢ DiskFault → Leaves before.waits [] now.waits
  pub ends : EndsBy end t before now answered broken behind rest part
