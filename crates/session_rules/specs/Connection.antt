-- What a connection is answered: each request's reply at its point of one history.
use Rattle.std.specs.Prelude.{◌≡◌, ℕ, ◌+◌, ◌≤◌, ◌==◌, ◌||◌, Bool, if◌then◌else◌, List, [], ◌∷◌, ◌++◌, length, take, All}
use Rattle.httparse.specs.Grammar.{RequestHead}
use Rattle.fh_model.specs.declared.commands.Act.{Act}
use Rattle.fh_model.specs.declared.commands.Cmd.{Cmd}
use Rattle.fh_model.specs.declared.limits.TheConstants.{REQUESTS_MAX}
use Rattle.fh_model.specs.declared.pieces.Piece.{Piece}
use Rattle.fh_model.specs.Content.{content_of, size_of}
use Rattle.fh_model.specs.History.{state_after, entered}
use Rattle.fh_model.specs.Pieces.{SamePieces, blocks_with, data_of, end_in, end_of, placed}
use Rattle.fh_model.specs.Resolve.{resolve}
use Rattle.fh_model.specs.State.{State}
use Rattle.fh_model.specs.Step.{step}
use Rattle.http_in.specs.Requests.{Request}
use Rattle.session_rules.specs.Asked.{arg_in, asks_last, token_in, waits}
use Rattle.session_rules.specs.Decisions.{Decision, says, enters, looks, loads, decide}
use Rattle.session_rules.specs.Replies.{Said, answered, answer_to, answer_to_look, interim_text, out_of_memory, pieces_of, sent_of, size_in_look, text_of}

-- what holds for a whole connection: the admin word, and the number that its commands carry
pub record Desk : Type 0 where
  pub admin : List ℕ
  pub seat : ℕ

pub data Kind : Type 0 where
  -- it is told what the machine says
  told : Kind
  -- so it is, but of the content that it asks for only so many pieces were fetched, the first ones
  broken_off : ℕ → Kind
  -- it is told that memory was wanting, and its command may have entered nevertheless
  unavailable : Bool → Kind

-- One request of a connection that is answered: its head and the content of its body, the clock's second as its head
-- was read, what others had entered into the history since the request before it until its token was looked at, from
-- there until its act or its look, and after that until its reply was at hand. Its points are the histories up to and
-- with the first two. Where it asks for a file's content, `sent` is what was fetched of that.
pub record Turn : Type 0 where
  pub asked : Request
  pub at : ℕ
  pub others : List Cmd
  pub between : List Cmd
  pub after : List Cmd
  pub kind : Kind
  pub sent : List ℕ

-- nobody else let a command enter from the request before it until its reply was at hand
abbrev pub IsAlone : Turn → Type 0
IsAlone turn = (turn.others ≡ []) × (turn.between ≡ []) × (turn.after ≡ [])

-- the text before its reply, which comes where its sender waits for it
abbrev pub interim_if : Bool → List ℕ
interim_if waiting = if waiting then interim_text else []

abbrev pub interim_of : RequestHead → List ℕ
interim_of h = interim_if (waits h)

-- the connection ends with the reply to its request of this number, counted from 1
abbrev pub closes : ℕ → RequestHead → Bool
closes n h = asks_last h || (n == REQUESTS_MAX)

-- what it comes to, in the state that was seen as its token was looked at
abbrev pub decided_on : Desk → State → Request → Decision
decided_on desk s r = decide desk.admin s r.head.method r.head.target (token_in r.head) (arg_in r.head) r.content

abbrev pub decision : Desk → State → Turn → Decision
decision desk s turn = decided_on desk (state_after s turn.others) turn.asked

-- the state at its act or its look
abbrev pub state_at : State → Turn → State
state_at s turn = state_after s (turn.others ++ turn.between)

-- the command of an act that came at this second, from the seat with this number
abbrev pub cmd_of : ℕ → ℕ → Act → Cmd
cmd_of seat at act = record { seat = seat; at = at; act = act }

-- the same with the data that come with the act, in the state in which it enters
abbrev pub cmd_with : ℕ → ℕ → State → Act → List ℕ → Cmd
cmd_with seat at s act bytes = placed s bytes (cmd_of seat at act)

-- what a request of this second is told where it comes to this decision in this state, and `sent` was sent of the
-- content that it asks for
abbrev pub told_by : ℕ → ℕ → State → List ℕ → Decision → Said
told_by seat at s sent (says it) = it
told_by seat at s sent (enters act bytes) = answered (answer_to act (step s (cmd_with seat at s act bytes)).reply)
told_by seat at s sent (looks user path) = answered (answer_to_look (resolve s user path))
told_by seat at s sent (loads user path) = sent_of sent (resolve s user path)

-- the size that the head tells of the content that it asks for
abbrev pub size_by : State → Decision → ℕ
size_by s (says it) = 0
size_by s (enters act bytes) = 0
size_by s (looks user path) = 0
size_by s (loads user path) = size_in_look (resolve s user path)

-- the pieces of that content
abbrev pub asked_by : State → Decision → List Piece
asked_by s (says it) = []
asked_by s (enters act bytes) = []
asked_by s (looks user path) = []
asked_by s (loads user path) = pieces_of (resolve s user path)

-- the command that enters by it
abbrev pub entered_by : ℕ → ℕ → State → Decision → List Cmd
entered_by seat at s (says it) = []
entered_by seat at s (enters act bytes) = entered s (cmd_with seat at s act bytes)
entered_by seat at s (looks user path) = []
entered_by seat at s (loads user path) = []

abbrev pub said_as : Kind → Said → Said
said_as told it = it
said_as (broken_off n) it = it
said_as (unavailable any) it = out_of_memory

abbrev pub entered_as : Kind → List Cmd → List Cmd
entered_as told cmds = cmds
entered_as (broken_off n) cmds = cmds
entered_as (unavailable any) cmds = if any then cmds else []

-- the text of its reply, where the connection had seen the machine in this state, and what comes before it
abbrev pub said : Desk → State → Turn → Said
said desk s turn = said_as turn.kind (told_by desk.seat turn.at (state_at s turn) turn.sent (decision desk s turn))

abbrev pub text_in : Desk → State → ℕ → Turn → List ℕ
text_in desk s n turn = interim_of turn.asked.head ++ text_of (said desk s turn) (closes n turn.asked.head)

-- what the history gains by it
abbrev pub gained_in : Desk → State → Turn → List Cmd
gained_in desk s turn =
    (turn.others ++ turn.between) ++ (entered_as turn.kind (entered_by desk.seat turn.at (state_at s turn) (decision desk s turn)) ++ turn.after)

-- the texts of all replies, joined, where the first request has this number
abbrev pub texts : Desk → State → ℕ → List Turn → List ℕ
texts desk s n [] = []
texts desk s n (turn ∷ turns) = text_in desk s n turn ++ texts desk (state_after s (gained_in desk s turn)) (n + 1) turns

-- what the history gains by all of them
abbrev pub gained : Desk → State → List Turn → List Cmd
gained desk s [] = []
gained desk s (turn ∷ turns) = gained_in desk s turn ++ gained desk (state_after s (gained_in desk s turn)) turns

-- ---- contents

abbrev pub pieces_as : Kind → List Piece → List Piece
pieces_as told pieces = pieces
pieces_as (broken_off n) pieces = take n pieces
pieces_as (unavailable any) pieces = []

-- the pieces that were fetched for it
abbrev pub fetched : Desk → State → Turn → List Piece
fetched desk s turn = pieces_as turn.kind (asked_by (state_at s turn) (decision desk s turn))

abbrev pub sized_as : Kind → ℕ → List Piece → Type 0
sized_as told size pieces = size ≡ size_of pieces
sized_as (broken_off n) size pieces = size ≡ size_of pieces
sized_as (unavailable any) size pieces = Unit {0}

-- As many bytes were sent of a content as the pieces have that were fetched, and these are pieces of the state. The head
-- told the size of all of them.
pub record Sends (desk : Desk) (s : State) (turn : Turn) : Type 0 where
  pub long : length turn.sent ≡ size_of (fetched desk s turn)
  pub lie : All (λ piece. end_of piece ≤ end_in (state_at s turn)) (fetched desk s turn)
  pub sized : sized_as turn.kind (size_by (state_at s turn) (decision desk s turn)) (asked_by (state_at s turn) (decision desk s turn))

abbrev pub SendAll : Desk → State → List Turn → Type 0
SendAll desk s [] = Unit {0}
SendAll desk s (turn ∷ turns) = Sends desk s turn × SendAll desk (state_after s (gained_in desk s turn)) turns

-- ---- the block file

-- what a request of this second makes of it where it comes to this decision
abbrev pub put_by : ℕ → ℕ → State → List ℕ → Decision → List ℕ
put_by seat at s blocks (says it) = blocks
put_by seat at s blocks (enters act bytes) =
    if (step s (cmd_with seat at s act bytes)).enters then blocks_with s (data_of act bytes) blocks else blocks
put_by seat at s blocks (looks user path) = blocks
put_by seat at s blocks (loads user path) = blocks

abbrev pub put_as : Kind → List ℕ → List ℕ → List ℕ
put_as told blocks put = put
put_as (broken_off n) blocks put = put
put_as (unavailable any) blocks put = if any then put else blocks

abbrev pub blocks_in : Desk → State → List ℕ → Turn → List ℕ
blocks_in desk s blocks turn = put_as turn.kind blocks (put_by desk.seat turn.at (state_at s turn) blocks (decision desk s turn))

-- what all of them make of it, where nobody else lets commands enter
abbrev pub blocks_behind : Desk → State → List ℕ → List Turn → List ℕ
blocks_behind desk s blocks [] = blocks
blocks_behind desk s blocks (turn ∷ turns) = blocks_behind desk (state_after s (gained_in desk s turn)) (blocks_in desk s blocks turn) turns

-- each content that was sent is that of its pieces in the block file as the requests before made it
abbrev pub ShowAll : Desk → State → List ℕ → List Turn → Type 0
ShowAll desk s blocks [] = Unit {0}
ShowAll desk s blocks (turn ∷ turns) =
    (turn.sent ≡ content_of blocks (fetched desk s turn)) × ShowAll desk (state_after s (gained_in desk s turn)) (blocks_in desk s blocks turn) turns

-- From one block file to another: where the first holds all pieces of the state, the second has the pieces' bytes as
-- the requests made them, and each content that was sent is that of its pieces.
abbrev pub IsStored : Desk → State → List Turn → List ℕ → List ℕ → Type 0
IsStored desk s turns before after =
    end_in s ≤ length before → SamePieces (state_after s (gained desk s turns)) after (blocks_behind desk s before turns) × ShowAll desk s before turns
