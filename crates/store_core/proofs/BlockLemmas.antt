-- Which block files hold the pieces that commands name.
use Rattle.std.proofs.Common.{◌≡◌, ℕ, ◌+◌, ◌≤◌, nat_le, Bool, true, false, if◌then◌else◌, List, [], ◌∷◌, ◌++◌, take, Option, Some, None, Result, Ok, Err, refl, sym, ◌∙◌, ap, arith}
use Rattle.std.proofs.lemmas.Bool.{and_parts, and_from, leb-true, le-leb}
use Rattle.std.proofs.lemmas.List.{take-take}
use Rattle.std.specs.List.{list_all}
use Rattle.byte_formats.proofs.Laws.{bind_ok, ok_is}
use Rattle.fh_model.specs.declared.commands.Cmd.{Cmd}
use Rattle.fh_model.specs.declared.pieces.Piece.{Piece}
use Rattle.fh_model.specs.declared.rows.Row.{Row}
use Rattle.fh_model.specs.declared.state.Next.{Next}
use Rattle.fh_model.specs.History.{state_after}
use Rattle.fh_model.specs.Pieces.{end_of, last_end, end_in, ends_within, named_in, lies_within}
use Rattle.fh_model.specs.RowRules.{counters_in, first_bad}
use Rattle.fh_model.specs.Rows.{counted, unless_bad, state_of_rows}
use Rattle.fh_model.specs.State.{State}
use Rattle.fh_model.specs.Step.{step}
use Rattle.fh_model.proofs.PieceLaws.{step_end}
use Rattle.fh_world.specs.Seconds.{last_second}
use Rattle.store_core.specs.Bodies.{in_time, state_in_time, first_beyond}

-- the first bytes are the same, so fewer of them are
pub fewer_same : (m n : ℕ) (xs ys : List ℕ) → m ≤ n → take n xs ≡ take n ys → take m xs ≡ take m ys
fewer_same m n xs ys fewer same = sym (take-take m n xs fewer) ∙ ap (take m) same ∙ take-take m n ys fewer

-- ---- one command

all_end : (len : ℕ) (pieces : List Piece) → list_all (ends_within len) pieces ≡ true → last_end pieces ≤ len
all_end len [] is = omega arith
all_end len (piece ∷ pieces) is =
    let both = and_parts (ends_within len piece) (list_all (ends_within len) pieces) is in
    let rest = all_end len pieces both.1 in
    let one = leb-true (end_of piece) len both.0 in
    omega (arith, one, rest)

end_all : (len : ℕ) (pieces : List Piece) → last_end pieces ≤ len → list_all (ends_within len) pieces ≡ true
end_all len [] is = refl
end_all len (piece ∷ pieces) is =
    let less : end_of piece ≤ len = omega (arith, is) in
    and_from (ends_within len piece) (list_all (ends_within len) pieces) (le-leb (end_of piece) len less) (end_all len pieces (omega (arith, is)))

pub lies_end : (len : ℕ) (cmd : Cmd) → lies_within len cmd ≡ true → last_end (named_in cmd.act) ≤ len
lies_end len cmd is = all_end len (named_in cmd.act) is

pub end_lies : (len : ℕ) (cmd : Cmd) → last_end (named_in cmd.act) ≤ len → lies_within len cmd ≡ true
end_lies len cmd is = end_all len (named_in cmd.act) is

pub lies_longer : (len more : ℕ) (cmd : Cmd) → len ≤ more → lies_within len cmd ≡ true → lies_within more cmd ≡ true
lies_longer len more cmd longer is = end_lies more cmd (omega (arith, longer, lies_end len cmd is))

-- ---- commands

beyond_none : (b : Bool) (rest : Option ℕ) (i : ℕ) → (if b then rest else Some i) ≡ None → (b ≡ true) × (rest ≡ None)
beyond_none true rest i is = (refl, is)
beyond_none false rest i is = let no : Some i ≡ None = is in absurd cc

pub beyond_longer : (len more i : ℕ) (commands : List Cmd) → len ≤ more → first_beyond len i commands ≡ None → first_beyond more i commands ≡ None
beyond_longer len more i [] longer is = refl
beyond_longer len more i (cmd ∷ commands) longer is =
    let both = beyond_none (lies_within len cmd) (first_beyond len (i + 1) commands) i is in
    ap (λ (b : Bool). if b then first_beyond more (i + 1) commands else Some i) (lies_longer len more cmd longer both.0)
    ∙ beyond_longer len more (i + 1) commands longer both.1

pub beyond_more : (len i : ℕ) (commands : List Cmd) (cmd : Cmd) → first_beyond len i commands ≡ None → lies_within len cmd ≡ true → first_beyond len i (commands ++ cmd ∷ []) ≡ None
beyond_more len i [] cmd is lies = ap (λ (b : Bool). if b then None else Some i) lies
beyond_more len i (first ∷ commands) cmd is lies =
    let both = beyond_none (lies_within len first) (first_beyond len (i + 1) commands) i is in
    ap (λ (b : Bool). if b then first_beyond len (i + 1) (commands ++ cmd ∷ []) else Some i) both.0
    ∙ beyond_more len (i + 1) commands cmd both.1 lies

-- ---- the state

-- its pieces are those that the commands name
pub after_end : (len i : ℕ) (s : State) (commands : List Cmd) → first_beyond len i commands ≡ None → end_in s ≤ len → end_in (state_after s commands) ≤ len
after_end len i s [] is within = within
after_end len i s (cmd ∷ commands) is within =
    let both = beyond_none (lies_within len cmd) (first_beyond len (i + 1) commands) i is in
    after_end len (i + 1) (step s cmd).state commands both.1 (omega (arith, within, lies_end len cmd both.0, (step_end s cmd).1))

-- it ends no earlier than before them
pub after_grows : (s : State) (commands : List Cmd) → end_in s ≤ end_in (state_after s commands)
after_grows s [] = omega arith
after_grows s (cmd ∷ commands) = omega (arith, (step_end s cmd).0, after_grows (step s cmd).state commands)

-- rows have no pieces
counted_end : (rows : List Row) (counters : Option (Next × ℕ)) (s : State) → counted rows counters ≡ Ok s → end_in s ≡ 0
counted_end rows None s is = absurd cc
counted_end rows (Some counters) s is = ap end_in (sym (ok_is _ s is))

bad_end : (bad : Option ℕ) (rows : List Row) (s : State) → unless_bad bad (counted rows (counters_in rows)) ≡ Ok s → end_in s ≡ 0
bad_end None rows s is = counted_end rows (counters_in rows) s is
bad_end (Some place) rows s is = absurd cc

abbrev timed : Bool → State → Result State ℕ
timed b z = if b then Ok z else Err 0

timely_is : (b : Bool) (z s : State) → timed b z ≡ Ok s → z ≡ s
timely_is true z s is = ok_is z s is
timely_is false z s is = absurd cc

pub start_end : (rows : List Row) (s : State) → state_in_time rows ≡ Ok s → end_in s ≡ 0
start_end rows s is =
    let w = bind_ok (state_of_rows rows) in_time s is in
    ap end_in (sym (timely_is (nat_le w.0.moment last_second) w.0 s w.2)) ∙ bad_end (first_bad rows) rows w.0 w.1
