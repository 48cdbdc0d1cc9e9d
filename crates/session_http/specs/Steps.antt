-- What the steps of serving one request leave.
use Rattle.std.specs.Prelude.{ℕ, ◌≡◌, ◌≤◌, ◌⊎◌, List, [], ◌∷◌, ◌++◌, Option, IfSome, Result, Ok, Err, Bool, IsTrue, true, not}
use Rattle.std.specs.Io.KnownBytes.{IsAtEnd, append_known, prepend_known}
use Rattle.httparse.specs.Grammar.{RequestHead}
use Rattle.fh_world.specs.Bytes.{Holds}
use Rattle.fh_world.specs.Causes.{Rose}
use Rattle.fh_model.specs.declared.commands.Cmd.{Cmd}
use Rattle.fh_model.specs.History.{state_of, with_more}
use Rattle.fh_model.specs.State.{State}
use Rattle.host_seat.specs.Port.{Leaves}
use Rattle.http_in.specs.declared.head.Head.{Head}
use Rattle.http_in.specs.Bodies.{done}
use Rattle.http_in.specs.Heads.{BeginsWithHead}
use Rattle.http_in.specs.Parts.{IsHeadOf}
use Rattle.http_in.specs.Requests.{Request, BeginsWithBody}
use Rattle.session_rules.specs.Asked.{arg_in, asks_last, token_in}
use Rattle.session_rules.specs.Connection.{Turn, interim_of}
use Rattle.session_rules.specs.Decisions.{Called, called}
use Rattle.session_rules.specs.Replies.{Said, text_of, out_of_memory}
use Rattle.session_http.specs.Begun.{IsBegun, IsCutShort, IsGreeted, IsOpened}
use Rattle.session_http.specs.Bodies.{GoneOnlyFor, Holds as HoldsContent}
use Rattle.session_http.specs.declared.bodies.Body.{Body}
use Rattle.session_http.specs.Ends.{IsLastText, IsPart, Served}
use Rattle.session_http.specs.Points.{is_called}
use Rattle.session_http.specs.Talk.{Terms, Moment, Talk, Stored, IsWhole, replies}
use Rattle.session_http.specs.declared.conn.ConnEnd.{ConnEnd}
use Rattle.session_http.specs.declared.conn.ConnEnd.TheVariants.{Ended, Cut, Bad, ReadFault, WriteFault, DiskFault, NoMemory, Spent}

-- a text was not written whole, since the sink failed
pub record Breaks {K : Type 0} (held : K → Option (List ℕ)) (faults : K → ℕ) (old new : K) (text : List ℕ) : Type 0 where
  pub part : List ℕ
  pub some : IsPart text part
  pub wrote : Holds held old new part
  pub rose : Rose (faults old) (faults new)

-- this was said, or that memory was wanting
abbrev pub IsSaid : Said → List ℕ → Type 0
IsSaid it text = (text ≡ text_of it true) ⊎ (text ≡ text_of out_of_memory true)

-- the last text of a connection was written, or was not written whole
abbrev pub SaysLast : {K : Type 0} → (K → Option (List ℕ)) → (K → ℕ) → K → K → Said → ConnEnd → Type 0
SaysLast held faults old new it Bad = (text : List ℕ) × IsSaid it text × Holds held old new text
SaysLast held faults old new it WriteFault = (text : List ℕ) × IsSaid it text × Breaks held faults old new text
SaysLast held faults old new it Ended = ⊥
SaysLast held faults old new it Cut = ⊥
SaysLast held faults old new it ReadFault = ⊥
SaysLast held faults old new it DiskFault = ⊥
SaysLast held faults old new it NoMemory = ⊥
SaysLast held faults old new it Spent = ⊥

-- one request was served from a moment to the next
pub record Turned (t : Terms) (old new : Moment) (turn : Turn) : Type 0 where
  pub talk : Talk t old new (turn ∷ []) [] new.unread (replies t old (turn ∷ []))
  pub stored : Stored t old new (turn ∷ [])
  pub whole : IsWhole turn.kind
  pub waits : Leaves old.waits [] new.waits
  pub port_later : old.port_faults ≤ new.port_faults
  pub read_later : old.read_faults ≤ new.read_faults
  pub write_later : old.write_faults ≤ new.write_faults

-- and whether the connection goes on is as it asked
pub record GoesOn (t : Terms) (old new : Moment) (goes : Bool) : Type 0 where
  pub turn : Turn
  pub turned : Turned t old new turn
  pub asked : asks_last turn.asked.head ≡ not goes

-- it was served, and the connection goes on as it asked, or it ended so
abbrev pub IsServed : {X : Type 0} → Terms → Moment → Moment → Bool → Result X ConnEnd → Type 0
IsServed t old new last (Ok value) = GoesOn t old new (not last)
IsServed t old new last (Err end) = Served t old new end

-- Reading the next request stopped. Others entered meanwhile, `rest` was read of it, and `part` was written for it.
abbrev pub StopsBy : ConnEnd → List Cmd → List ℕ → List ℕ → Moment → Moment → Type 0
StopsBy Ended others rest part old new = (others ≡ []) × (rest ≡ []) × (part ≡ []) × IsAtEnd new.left
StopsBy Cut others rest part old new = IsCutShort rest part × IsAtEnd new.left
StopsBy Bad others rest part old new = IsLastText rest part
StopsBy ReadFault others rest part old new = IsOpened rest part × Rose old.read_faults new.read_faults
StopsBy WriteFault others rest part old new =
    (text : List ℕ) × (IsGreeted rest text ⊎ IsLastText rest text) × IsPart text part × Rose old.write_faults new.write_faults
StopsBy NoMemory others rest part old new = IsBegun rest part
StopsBy DiskFault others rest part old new = ⊥
StopsBy Spent others rest part old new = ⊥

-- these bytes were read and this text was written, others may have entered, and nothing else has changed
pub record Passes (t : Terms) (old new : Moment) (bytes text : List ℕ) : Type 0 where
  pub others : List Cmd
  pub gave : new.given ≡ append_known old.given bytes
  pub took : old.left ≡ prepend_known bytes new.left
  pub wrote : new.held ≡ append_known old.held text
  pub grown : new.seen ≡ with_more old.seen others
  pub mine : IsTrue t.alone → others ≡ []
  pub waits : new.waits ≡ old.waits
  pub blocks : new.blocks ≡ old.blocks
  pub number : new.number ≡ old.number
  pub count : new.count ≡ old.count
  pub port_faults : new.port_faults ≡ old.port_faults
  pub read_later : old.read_faults ≤ new.read_faults
  pub write_later : old.write_faults ≤ new.write_faults

-- who calls is known, or memory was wanting for it
abbrev pub IsKnown : List ℕ → State → RequestHead → Option Called → Type 0
IsKnown admin s h call = IfSome call (λ it. called admin s h.method h.target (token_in h) ≡ it)

-- the head of the next request was read, its interim text was written, and who calls was decided
pub record Opens (t : Terms) (old new : Moment) (call : Option Called) (head : Head) : Type 0 where
  pub asked : RequestHead
  pub bytes : List ℕ
  pub passes : Passes t old new bytes (interim_of asked)
  pub begins : BeginsWithHead (old.unread ++ bytes) asked new.unread
  pub is : IsHeadOf asked head
  pub known : IsKnown t.admin (state_of new.seen) asked call

-- a request was read whole, with its interim text written, and who calls was decided on the way
pub record Hears (t : Terms) (old new : Moment) (call : Option Called) (last : Bool) (arg : Option (List ℕ)) (body : Body) (kept : List ℕ) : Type 0 where
  pub asked : Request
  pub bytes : List ℕ
  pub passes : Passes t old new bytes (interim_of asked.head)
  pub begins : BeginsWithBody (old.unread ++ bytes) asked (done new.unread)
  pub known : IsKnown t.admin (state_of new.seen) asked.head call
  pub asked_last : last ≡ asks_last asked.head
  pub argued : arg ≡ arg_in asked.head
  pub holds : HoldsContent body kept asked.content

-- Its body is gone only where nobody is known to call, or where the buffer, which had room for so many bytes, had too
-- little for it.
pub record HearsAll (t : Terms) (old new : Moment) (call : Option Called) (last : Bool) (arg : Option (List ℕ)) (body : Body) (kept : List ℕ) (room : ℕ) : Type 0 where
  pub hears : Hears t old new call last arg body kept
  pub gone : GoneOnlyFor (is_called call) room body hears.asked.content

-- no whole request was read
pub record Stops (t : Terms) (old new : Moment) (end : ConnEnd) : Type 0 where
  pub bytes : List ℕ
  pub part : List ℕ
  pub passes : Passes t old new bytes part
  pub stops : StopsBy end passes.others (old.unread ++ bytes) part old new
