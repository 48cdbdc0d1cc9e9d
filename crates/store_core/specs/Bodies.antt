-- What the bodies of a slot's records stand for: the rows of a state, and then commands.
use Rattle.std.specs.Prelude.{ℕ, ◌+◌, nat_le, Bool, true, false, if◌then◌else◌, List, [], ◌∷◌, length, take, Option, None, Some, Result, Ok, Err}
use Rattle.byte_formats.specs.Formats.{◌>>=◌}
use Rattle.byte_formats.specs.Spelling.{whole_at}
use Rattle.cmd_codec.specs.Commands.{command}
use Rattle.fh_model.specs.declared.commands.Cmd.{Cmd}
use Rattle.fh_model.specs.declared.rows.Row.{Row}
use Rattle.fh_model.specs.Pieces.{lies_within}
use Rattle.fh_model.specs.Rows.{state_of_rows}
use Rattle.fh_model.specs.State.{State}
use Rattle.fh_world.specs.Seconds.{last_second}
use Rattle.gate_journal.specs.Slot.{Found, Held, Broken, found, records}
use Rattle.state_rows.specs.Rows.{checkpoint_row}
use Rattle.store_core.specs.declared.bodies.Body.{Body}
use Rattle.store_core.specs.declared.bodies.Body.TheVariants as body

-- what one body spells: a command, a row or nothing
abbrev pub either_read : Result Cmd ℕ → Result Row ℕ → Option Body
either_read (Ok cmd) row = Some (body.Command cmd)
either_read (Err left) (Ok row) = Some (body.Row row)
either_read (Err left) (Err row_left) = None

abbrev pub body_of : List ℕ → Option Body
body_of bytes = either_read (whole_at command.read bytes) (whole_at checkpoint_row.read bytes)

-- From here on an `Err` is the number of the first record that breaks a rule, and each rule is tested of all records
-- before the next one is.

abbrev pub spelled : ℕ → Option Body → Result Body ℕ
spelled i None = Err i
spelled i (Some body) = Ok body

-- each body spells something
abbrev pub bodies_from : ℕ → List (List ℕ) → Result (List Body) ℕ
bodies_from i [] = Ok []
bodies_from i (bytes ∷ rest) = spelled i (body_of bytes) >>= λ body. bodies_from (i + 1) rest >>= λ bodies. Ok (body ∷ bodies)

-- no row comes after a command
abbrev pub parts_from : Bool → ℕ → List Body → Result (List Row × List Cmd) ℕ
parts_from late i [] = Ok ([], [])
parts_from late i (body.Row row ∷ bodies) =
    if late then Err i else (parts_from late (i + 1) bodies >>= λ parts. Ok (row ∷ parts.0, parts.1))
parts_from late i (body.Command cmd ∷ bodies) = parts_from true (i + 1) bodies >>= λ parts. Ok (parts.0, cmd ∷ parts.1)

-- the last moment is one that a clock tells; it stands in the row of counters, which is the first
abbrev pub in_time : State → Result State ℕ
in_time s = if nat_le s.moment last_second then Ok s else Err 0

abbrev pub state_in_time : List Row → Result State ℕ
state_in_time rows = state_of_rows rows >>= in_time

-- The number of the first of these commands that names a piece beyond a block file of so many bytes, where the first
-- of them has this number.
abbrev pub first_beyond : ℕ → ℕ → List Cmd → Option ℕ
first_beyond len i [] = None
first_beyond len i (cmd ∷ commands) = if lies_within len cmd then first_beyond len (i + 1) commands else Some i

abbrev pub unless_beyond : Option ℕ → State × List Cmd → Result (State × List Cmd) ℕ
unless_beyond None read = Ok read
unless_beyond (Some i) read = Err i

-- no command names a piece beyond the block file
abbrev pub state_and : ℕ → Result (List Row × List Cmd) ℕ → Result (State × List Cmd) ℕ
state_and len parts =
    parts >>= λ p. state_in_time p.0 >>= λ s. unless_beyond (first_beyond len (length p.0) p.1) (s, p.1)

-- the state of the rows, and the commands behind them, over a block file of so many bytes
abbrev pub read_bodies : ℕ → List (List ℕ) → Result (State × List Cmd) ℕ
read_bodies len bodies = state_and len (bodies_from 0 bodies >>= parts_from false 0)

-- the place of a record, or the records' end
abbrev pub place_of : List (List ℕ) → ℕ → ℕ
place_of bodies i = length (records (take i bodies))

abbrev pub at_place : List (List ℕ) → Result (State × List Cmd) ℕ → Result (State × List Cmd) ℕ
at_place bodies (Ok read) = Ok read
at_place bodies (Err i) = Err (place_of bodies i)

abbrev pub read_found : ℕ → Found → Result (State × List Cmd) ℕ
read_found len (Held bodies) = at_place bodies (read_bodies len bodies)
read_found len (Broken place) = Err place

-- what a slot's bytes stand for, over a block file of so many bytes, or the place of the record that is damaged
abbrev pub read_slot : ℕ → List ℕ → Result (State × List Cmd) ℕ
read_slot len bytes = read_found len (found bytes)
