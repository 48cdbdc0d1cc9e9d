-- How the bodies of records are read, and what one body more adds.
use Rattle.std.proofs.Common.{◌≡◌, ℕ, ◌+◌, ◌<◌, ◌≤◌, Bool, true, false, if◌then◌else◌, List, [], ◌∷◌, ◌++◌, length, map, take, get_or, Option, Some, None, Result, Ok, Err, refl, sym, ◌∙◌, ap, subst, arith}
use Rattle.std.proofs.lemmas.Bool.Decides.{nat_tests}
use Rattle.std.proofs.lemmas.List.{take_more}
use Rattle.byte_formats.specs.Fields.{IsBytes}
use Rattle.byte_formats.specs.Formats.{◌>>=◌}
use Rattle.byte_formats.specs.Spelling.{Spells, whole_at}
use Rattle.byte_formats.proofs.Laws.{bind_ok, ok_is}
use Rattle.byte_formats.proofs.Whole.{whole_takes, whole_again}
use Rattle.cmd_codec.specs.Commands.{command}
use Rattle.cmd_codec.proofs.Lawful.{command_lawful}
use Rattle.fh_model.specs.declared.commands.Cmd.{Cmd}
use Rattle.fh_model.specs.declared.rows.Row.{Row}
use Rattle.fh_model.specs.History.{state_after}
use Rattle.fh_model.specs.Pieces.{end_in, lies_within}
use Rattle.fh_model.specs.Rows.{rows_of}
use Rattle.fh_model.specs.State.{State, opening}
use Rattle.fh_model.specs.Step.{step}
use Rattle.fh_model.proofs.RowLemmas.{opening_rows}
use Rattle.fh_model.proofs.Runs.{state_after_more}
use Rattle.state_rows.specs.Rows.{checkpoint_row, kind_of}
use Rattle.state_rows.proofs.Lawful.{row_lawful}
use Rattle.state_rows.proofs.Spelled.{row_begins, kind_above_acts}
use Rattle.store_core.specs.declared.bodies.Body.{Body}
use Rattle.store_core.specs.declared.bodies.Body.TheVariants as body
use Rattle.store_core.specs.Bodies.{either_read, body_of, spelled, bodies_from, parts_from, in_time, state_in_time, first_beyond, unless_beyond, state_and, read_bodies}
use Rattle.store_core.specs.Store.{StandFor}
use Rattle.store_core.proofs.BlockLemmas.{beyond_longer, beyond_more, after_end, start_end}

-- ---- one body

pub body_command : (bytes : List ℕ) (cmd : Cmd) → Spells command bytes cmd → body_of bytes ≡ Some (body.Command cmd)
body_command bytes cmd s = ap (λ (r : Result Cmd ℕ). either_read r (whole_at checkpoint_row.read bytes)) (whole_again command command_lawful bytes cmd s)

-- what begins with another kind than an act's is no command
other_kind : (kind : ℕ) (rest : List ℕ) → 128 ≤ kind → (left : ℕ) × (whole_at command.read (kind ∷ rest) ≡ Err left)
unfolding command
other_kind kind rest above = (length (kind ∷ rest), grind (arith, nat_tests))

pub row_no_command : (bytes : List ℕ) (r : Row) → Spells checkpoint_row bytes r → (left : ℕ) × (whole_at command.read bytes ≡ Err left)
row_no_command bytes r s =
    let begins = row_begins bytes r s in
    let none = other_kind (kind_of r) begins.0 (kind_above_acts r) in
    (none.0, ap (λ (b : List ℕ). whole_at command.read b) begins.1 ∙ none.1)

pub body_row : (bytes : List ℕ) (r : Row) → Spells checkpoint_row bytes r → body_of bytes ≡ Some (body.Row r)
body_row bytes r s =
    let none = row_no_command bytes r s in
    ap (λ (c : Result Cmd ℕ). either_read c (whole_at checkpoint_row.read bytes)) none.1 ∙ ap (λ (w : Result Row ℕ). either_read (Err none.0) w) (whole_again checkpoint_row row_lawful bytes r s)

-- bytes that spell neither
none_read : (bytes : List ℕ) (c : Result Cmd ℕ) (r : Result Row ℕ) → ((cmd : Cmd) → c ≡ Ok cmd → ⊥) → ((row : Row) → r ≡ Ok row → ⊥) → either_read c r ≡ None
none_read bytes (Ok cmd) r no_command no_row = absurd (no_command cmd refl)
none_read bytes (Err left) (Ok row) no_command no_row = absurd (no_row row refl)
none_read bytes (Err left) (Err more) no_command no_row = refl

pub body_none : (bytes : List ℕ) → IsBytes bytes → ((cmd : Cmd) → Spells command bytes cmd → ⊥) → ((row : Row) → Spells checkpoint_row bytes row → ⊥) → body_of bytes ≡ None
body_none bytes are no_command no_row =
    none_read bytes (whole_at command.read bytes) (whole_at checkpoint_row.read bytes)
    (λ cmd e. no_command cmd (whole_takes command command_lawful bytes cmd are e))
    (λ row e. no_row row (whole_takes checkpoint_row row_lawful bytes row are e))

-- ---- one more

pub bodies_more : (bodies : List (List ℕ)) (i : ℕ) (all : List Body) (bytes : List ℕ) (b : Body) → bodies_from i bodies ≡ Ok all → body_of bytes ≡ Some b → bodies_from i (bodies ++ bytes ∷ []) ≡ Ok (all ++ b ∷ [])
bodies_more [] i all bytes b e one =
    let none : [] ≡ all = ok_is [] all e in
    ap (λ (o : Option Body). spelled i o >>= λ x. Ok (x ∷ [])) one ∙ ap (λ (l : List Body). Ok (l ++ b ∷ [])) none
bodies_more (first ∷ bodies) i all bytes b e one =
    let f : Body → Result (List Body) ℕ = λ x. bodies_from (i + 1) bodies >>= λ xs. Ok (x ∷ xs) in
    let w = bind_ok (spelled i (body_of first)) f all e in
    let g : List Body → Result (List Body) ℕ = λ xs. Ok (w.0 ∷ xs) in
    let v = bind_ok (bodies_from (i + 1) bodies) g all w.2 in
    let rest = bodies_more bodies (i + 1) v.0 bytes b v.1 one in
    ap (λ (r : Result Body ℕ). r >>= λ x. bodies_from (i + 1) (bodies ++ bytes ∷ []) >>= λ xs. Ok (x ∷ xs)) w.1
    ∙ ap (λ (r : Result (List Body) ℕ). r >>= g) rest
    ∙ ap (λ (l : List Body). Ok (l ++ b ∷ [])) (ok_is (w.0 ∷ v.0) all v.2)

-- a row in front
abbrev with_row : Row → List Row × List Cmd → Result (List Row × List Cmd) ℕ
with_row row parts = Ok (row ∷ parts.0, parts.1)

abbrev unless_late : Bool → ℕ → Result (List Row × List Cmd) ℕ → Result (List Row × List Cmd) ℕ
unless_late late i read = if late then Err i else read

row_more : (late : Bool) (next i : ℕ) (row : Row) (bodies : List Body) (parts : List Row × List Cmd) (cmd : Cmd)
    → ((p : List Row × List Cmd) → parts_from late next bodies ≡ Ok p → parts_from late next (bodies ++ body.Command cmd ∷ []) ≡ Ok (p.0, p.1 ++ cmd ∷ []))
    → (b : Bool) → unless_late b i (parts_from late next bodies >>= with_row row) ≡ Ok parts
    → unless_late b i (parts_from late next (bodies ++ body.Command cmd ∷ []) >>= with_row row) ≡ Ok (parts.0, parts.1 ++ cmd ∷ [])
row_more late next i row bodies parts cmd rest true is = absurd cc
row_more late next i row bodies parts cmd rest false is =
    let v = bind_ok (parts_from late next bodies) (with_row row) parts is in
    let all : List Row × List Cmd = (row ∷ v.0.0, v.0.1) in
    ap (λ (r : Result (List Row × List Cmd) ℕ). r >>= with_row row) (rest v.0 v.1)
    ∙ ap (λ (p : List Row × List Cmd). Ok (p.0, p.1 ++ cmd ∷ [])) (ok_is all parts v.2)

pub parts_more : (late : Bool) (i : ℕ) (bodies : List Body) (parts : List Row × List Cmd) (cmd : Cmd) → parts_from late i bodies ≡ Ok parts → parts_from late i (bodies ++ body.Command cmd ∷ []) ≡ Ok (parts.0, parts.1 ++ cmd ∷ [])
parts_more late i [] parts cmd e =
    let nothing : List Row × List Cmd = ([], []) in
    let none : nothing ≡ parts = ok_is nothing parts e in
    ap (λ (p : List Row × List Cmd). Ok (p.0, p.1 ++ cmd ∷ [])) none
parts_more late i (body.Row row ∷ bodies) parts cmd e = row_more late (i + 1) i row bodies parts cmd (λ p is. parts_more late (i + 1) bodies p cmd is) late e
parts_more late i (body.Command first ∷ bodies) parts cmd e =
    let g : List Row × List Cmd → Result (List Row × List Cmd) ℕ = λ p. Ok (p.0, first ∷ p.1) in
    let v = bind_ok (parts_from true (i + 1) bodies) g parts e in
    let all : List Row × List Cmd = (v.0.0, first ∷ v.0.1) in
    ap (λ (r : Result (List Row × List Cmd) ℕ). r >>= g) (parts_more true (i + 1) bodies v.0 cmd v.1)
    ∙ ap (λ (p : List Row × List Cmd). Ok (p.0, p.1 ++ cmd ∷ [])) (ok_is all parts v.2)

-- what is read, part by part
pub record Reads (len : ℕ) (bodies : List (List ℕ)) (s : State) (cmds : List Cmd) : Type 0 where
  pub rows : List Row
  pub parts : (bodies_from 0 bodies >>= parts_from false 0) ≡ Ok (rows, cmds)
  pub timely : state_in_time rows ≡ Ok s
  pub within : first_beyond len (length rows) cmds ≡ None

unbeyond : (o : Option ℕ) (x y : State × List Cmd) → unless_beyond o x ≡ Ok y → (o ≡ None) × (x ≡ y)
unbeyond None x y is = (refl, ok_is x y is)
unbeyond (Some i) x y is = absurd cc

pub from_read : (len : ℕ) (bodies : List (List ℕ)) (s : State) (cmds : List Cmd) → read_bodies len bodies ≡ Ok (s, cmds) → Reads len bodies s cmds
from_read len bodies s cmds e =
    let x : State × List Cmd = (s, cmds) in
    let tail : List Row × List Cmd → Result (State × List Cmd) ℕ = λ p. state_in_time p.0 >>= λ z. unless_beyond (first_beyond len (length p.0) p.1) (z, p.1) in
    let w = bind_ok (bodies_from 0 bodies >>= parts_from false 0) tail x e in
    let last : State → Result (State × List Cmd) ℕ = λ z. unless_beyond (first_beyond len (length w.0.0) w.0.1) (z, w.0.1) in
    let v = bind_ok (state_in_time w.0.0) last x w.2 in
    let y : State × List Cmd = (v.0, w.0.1) in
    let u = unbeyond (first_beyond len (length w.0.0) w.0.1) y x v.2 in
    record {
      rows = w.0.0;
      parts = w.1 ∙ ap (λ (z : State × List Cmd). Ok (w.0.0, z.1)) u.1;
      timely = v.1 ∙ ap (λ (z : State × List Cmd). Ok z.0) u.1;
      within = ap (λ (z : State × List Cmd). first_beyond len (length w.0.0) z.1) (sym u.1) ∙ u.0;
    }

pub to_read : (len : ℕ) (bodies : List (List ℕ)) (s : State) (cmds : List Cmd) → Reads len bodies s cmds → read_bodies len bodies ≡ Ok (s, cmds)
to_read len bodies s cmds is =
    ap (state_and len) is.parts
    ∙ ap (λ (r : Result State ℕ). r >>= λ z. unless_beyond (first_beyond len (length is.rows) cmds) (z, cmds)) is.timely
    ∙ ap (λ (o : Option ℕ). unless_beyond o (s, cmds)) is.within

pub read_more : (len : ℕ) (bodies : List (List ℕ)) (bytes : List ℕ) (s : State) (cmds : List Cmd) (cmd : Cmd) → read_bodies len bodies ≡ Ok (s, cmds) → Spells command bytes cmd → lies_within len cmd ≡ true
    → read_bodies len (bodies ++ bytes ∷ []) ≡ Ok (s, cmds ++ cmd ∷ [])
read_more len bodies bytes s cmds cmd e spelling lies =
    let r = from_read len bodies s cmds e in
    let p : List Row × List Cmd = (r.rows, cmds) in
    let v = bind_ok (bodies_from 0 bodies) (parts_from false 0) p r.parts in
    let more = bodies_more bodies 0 v.0 bytes (body.Command cmd) v.1 (body_command bytes cmd spelling) in
    to_read len (bodies ++ bytes ∷ []) s (cmds ++ cmd ∷ []) (record {
      rows = r.rows;
      parts = ap (λ (z : Result (List Body) ℕ). z >>= parts_from false 0) more ∙ parts_more false 0 v.0 p cmd v.2;
      timely = r.timely;
      within = beyond_more len (length r.rows) cmds cmd r.within lies;
    })

pub stand_more : (len : ℕ) (bodies : List (List ℕ)) (bytes : List ℕ) (s : State) (cmd : Cmd) → StandFor len bodies s → Spells command bytes cmd → lies_within len cmd ≡ true
    → StandFor len (bodies ++ bytes ∷ []) (step s cmd).state
stand_more len bodies bytes s cmd stand spelling lies = record {
  start = stand.start;
  commands = stand.commands ++ cmd ∷ [];
  read = read_more len bodies bytes stand.start stand.commands cmd stand.read spelling lies;
  after = state_after_more stand.start stand.commands cmd ∙ ap (λ (z : State). (step z cmd).state) stand.after;
}

-- over a longer block file they stand for the same
pub stand_longer : (len more : ℕ) (bodies : List (List ℕ)) (s : State) → len ≤ more → StandFor len bodies s → StandFor more bodies s
stand_longer len more bodies s longer stand =
    let r = from_read len bodies stand.start stand.commands stand.read in
    record {
      start = stand.start;
      commands = stand.commands;
      read = to_read more bodies stand.start stand.commands (record {
        rows = r.rows;
        parts = r.parts;
        timely = r.timely;
        within = beyond_longer len more (length r.rows) stand.commands longer r.within;
      });
      after = stand.after;
    }

-- the state's pieces lie in the block file
pub stand_end : (len : ℕ) (bodies : List (List ℕ)) (s : State) → StandFor len bodies s → end_in s ≤ len
stand_end len bodies s stand =
    let r = from_read len bodies stand.start stand.commands stand.read in
    let start : end_in stand.start ≤ len = subst (λ n. n ≤ len) (sym (start_end r.rows stand.start r.timely)) (omega arith) in
    subst (λ (z : State). end_in z ≤ len) stand.after (after_end len (length r.rows) stand.start stand.commands r.within start)

-- ---- what is read of all records

-- where they are read
pub parts_stand : (len : ℕ) (bodies : List (List ℕ)) (all : List Body) (p : List Row × List Cmd) (s state : State) → bodies_from 0 bodies ≡ Ok all → parts_from false 0 all ≡ Ok p → state_in_time p.0 ≡ Ok s
    → first_beyond len (length p.0) p.1 ≡ None → state_after s p.1 ≡ state → StandFor len bodies state
parts_stand len bodies all p s state spell split timely lies after = record {
  start = s;
  commands = p.1;
  read = to_read len bodies s p.1 (record {
    rows = p.0;
    parts = ap (λ (z : Result (List Body) ℕ). z >>= parts_from false 0) spell ∙ split;
    timely = timely;
    within = lies;
  });
  after = after;
}

-- the rows alone
pub only_rows : (i : ℕ) (rows : List Row) → parts_from false i (map body.Row rows) ≡ Ok (rows, [])
only_rows i [] = refl
only_rows i (row ∷ rows) = ap (λ (r : Result (List Row × List Cmd) ℕ). r >>= with_row row) (only_rows (i + 1) rows)

pub opening_stands : (bodies : List (List ℕ)) → bodies_from 0 bodies ≡ Ok (map body.Row (rows_of opening)) → StandFor 0 bodies opening
opening_stands bodies spell = parts_stand 0 bodies (map body.Row (rows_of opening)) (rows_of opening, []) opening opening spell (only_rows 0 (rows_of opening)) (ap (λ (r : Result State ℕ). r >>= in_time) opening_rows) refl refl

-- one row more
map_push : (rows : List Row) (row : Row) → map body.Row (rows ++ row ∷ []) ≡ map body.Row rows ++ body.Row row ∷ []
map_push [] row = refl
map_push (first ∷ rows) row = ap (λ (l : List Body). body.Row first ∷ l) (map_push rows row)

pub records_more : (bodies : List (List ℕ)) (rows : List Row) (i : ℕ) (bytes : List ℕ) (row : Row) → i < length rows → row ≡ get_or rows i row → bodies_from 0 bodies ≡ Ok (map body.Row (take i rows)) → Spells checkpoint_row bytes row
    → bodies_from 0 (bodies ++ bytes ∷ []) ≡ Ok (map body.Row (take (i + 1) rows))
records_more bodies rows i bytes row less item so_far spelling =
    bodies_more bodies 0 (map body.Row (take i rows)) bytes (body.Row row) so_far (body_row bytes row spelling)
    ∙ ap (λ (l : List Body). Ok l) (sym (ap (λ (l : List Row). map body.Row l) (take_more rows i row less ∙ ap (λ (x : Row). take i rows ++ x ∷ []) (sym item)) ∙ map_push (take i rows) row))
