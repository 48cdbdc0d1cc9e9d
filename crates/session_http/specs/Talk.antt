-- What a connection has done so far, as its port, its source, its sink and its clock saw it.
use Rattle.std.specs.Prelude.{ℕ, ◌≡◌, ◌+◌, List, ◌++◌, length, map, All, Bool, IsTrue, Option, IfSome}
use Rattle.std.specs.Io.KnownBytes.{append_known, prepend_known}
use Rattle.fh_world.specs.declared.source.Source as source
use Rattle.fh_world.specs.declared.sink.Sink as sink
use Rattle.fh_model.specs.declared.commands.Cmd.{Cmd}
use Rattle.fh_model.specs.History.{Kept, state_of, state_after, with_more}
use Rattle.fh_model.specs.State.{State}
use Rattle.host_seat.specs.declared.view.View as view
use Rattle.host_seat.specs.Port.{OfBoth}
use Rattle.http_in.specs.Requests.{Request}
use Rattle.session_rules.specs.Connection.{Desk, IsAlone, Turn, Kind, told, broken_off, unavailable, texts, gained, IsStored, SendAll}
use Rattle.session_http.specs.Begun.{Begins}

-- what holds for a connection from its start to its end: whether nobody else lets commands enter, the clock's second
-- where it tells one, and the admin word
pub record Terms : Type 0 where
  pub alone : Bool
  pub second : Option ℕ
  pub admin : List ℕ

abbrev pub terms : Bool → Option ℕ → List ℕ → Terms
terms alone second admin = record { alone = alone; second = second; admin = admin }

-- what is known at a moment of the port, its block file among that, of the source and of the sink, where they tell it,
-- how many requests of the connection were answered, and what was read of it behind these
pub record Moment : Type 0 where
  pub seen : Kept
  pub waits : List Cmd
  pub blocks : Option (List ℕ)
  pub number : ℕ
  pub port_faults : ℕ
  pub given : Option (List ℕ)
  pub left : Option (List ℕ)
  pub read_faults : ℕ
  pub held : Option (List ℕ)
  pub write_faults : ℕ
  pub count : ℕ
  pub unread : List ℕ

abbrev pub moment : {P S K : Type 0} → view.Ghosts P → source.Ghosts S → sink.Ghosts K → P → S → K → ℕ → List ℕ → Moment
moment of_port of_source of_sink p s k count unread = record {
  seen = of_port.seen p;
  waits = of_port.waits p;
  blocks = of_port.blocks p;
  number = of_port.number p;
  port_faults = of_port.faults p;
  given = of_source.given s;
  left = of_source.left s;
  read_faults = of_source.faults s;
  held = of_sink.held k;
  write_faults = of_sink.faults k;
  count = count;
  unread = unread;
}

-- its command is at the clock's second, and nobody else's came where the port is alone
pub record IsTurn (t : Terms) (turn : Turn) : Type 0 where
  pub timed : IfSome t.second (λ s. turn.at ≡ s)
  pub mine : IsTrue t.alone → IsAlone turn

-- all of a content that it asks for was fetched
abbrev pub IsWhole : Kind → Type 0
IsWhole told = Unit {0}
IsWhole (broken_off n) = ⊥
IsWhole (unavailable any) = Unit {0}

-- the machine that the port had seen at the start
abbrev pub first : Moment → State
first before = state_of before.seen

abbrev pub desk : Terms → Moment → Desk
desk t before = record { admin = t.admin; seat = before.number }

abbrev pub requests : List Turn → List Request
requests turns = map (λ turn. turn.asked) turns

-- what the requests have added to the history
abbrev pub added : Terms → Moment → List Turn → List Cmd
added t before turns = gained (desk t before) (first before) turns

-- the machine behind them
abbrev pub state_behind : Terms → Moment → List Turn → State
state_behind t before turns = state_after (first before) (added t before turns)

-- the texts of the replies to these requests
abbrev pub replies : Terms → Moment → List Turn → List ℕ
replies t before turns = texts (desk t before) (first before) (before.count + 1) turns

-- the texts of the replies to more requests, behind these
abbrev pub replies_behind : Terms → Moment → List Turn → List Turn → List ℕ
replies_behind t before turns more = texts (desk t before) (state_behind t before turns) (before.count + 1 + length turns) more

-- These bytes were read. With those that were unread they are the requests and then `rest`. Each request has its turn in order, others have
-- entered `behind` since, and `text` was written.
pub record Talk (t : Terms) (before now : Moment) (turns : List Turn) (behind : List Cmd) (rest text : List ℕ) : Type 0 where
  pub bytes : List ℕ
  pub begins : Begins (before.unread ++ bytes) (requests turns) rest
  pub gave : now.given ≡ append_known before.given bytes
  pub took : before.left ≡ prepend_known bytes now.left
  pub wrote : now.held ≡ append_known before.held text
  pub history : now.seen ≡ with_more before.seen (added t before turns ++ behind)
  pub number : now.number ≡ before.number
  pub each : All (IsTurn t) turns

-- The contents that were sent are those that the requests ask for. Where the port is alone and tells its block file, this
-- is as the requests made it.
pub record Stored (t : Terms) (before now : Moment) (turns : List Turn) : Type 0 where
  pub sends : SendAll (desk t before) (first before) turns
  pub blocks : IsTrue t.alone → OfBoth (IsStored (desk t before) (first before) turns) before.blocks now.blocks
