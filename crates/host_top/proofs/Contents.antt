-- What was sent of a content stands in the block file at the end, since the pieces of a state keep their bytes.
use Rattle.std.proofs.Common.{◌≤◌, ℕ, Bool, true, false, if◌then◌else◌, List, [], ◌∷◌, ◌++◌, All, length, take, refl, sym, ◌∙◌, subst}
use Rattle.std.proofs.lemmas.List.{length-take-le, take_at}
use Rattle.std.proofs.lemmas.List.Elements.{All-head, All-tail}
use Rattle.fh_model.specs.declared.commands.Cmd.{Cmd}
use Rattle.fh_model.specs.History.{state_after}
use Rattle.fh_model.specs.Pieces.{AreHeld, SamePieces, blocks_with, data_of, end_in, end_of}
use Rattle.fh_model.specs.State.{State}
use Rattle.fh_model.specs.Step.{step}
use Rattle.fh_model.proofs.HeldLaws.{held_next, held_same}
use Rattle.fh_model.proofs.Runs.{state_after-append}
use Rattle.session_rules.specs.Connection.{Desk, IsAlone, Kind, SendAll, ShowAll, Turn, blocks_behind, blocks_in, broken_off, cmd_of, cmd_with, decision, entered_as, entered_by, fetched, gained, gained_in, put_as, put_by, told, unavailable}
use Rattle.session_rules.specs.Decisions.{Decision, says, enters, looks, loads}
use Rattle.session_rules.proofs.Blocks.{blocks_alone, content_same, gained_alone, reaches, state_alone}
use Rattle.store_core.proofs.BlockLemmas.{after_grows, fewer_same}
use Rattle.host_top.specs.Pipe.{SentFrom}

-- ---- the pieces of a state keep their bytes

either_keeps : (b : Bool) (s : State) (x new : List ℕ) → end_in s ≤ length x → SamePieces s (if b then take (end_in s) x ++ new else x) x
either_keeps true s x new within = take_at (take (end_in s) x) new (end_in s) (length-take-le (end_in s) x within)
either_keeps false s x new within = refl

put_keeps : (seat at : ℕ) (s : State) (x : List ℕ) (d : Decision) → end_in s ≤ length x → SamePieces s (put_by seat at s x d) x
put_keeps seat at s x (says it) within = refl
put_keeps seat at s x (enters act bytes) within = either_keeps (step s (cmd_with seat at s act bytes)).enters s x (data_of act bytes) within
put_keeps seat at s x (looks user path) within = refl
put_keeps seat at s x (loads user path) within = refl

kind_keeps : (kind : Kind) (s : State) (x put : List ℕ) → SamePieces s put x → SamePieces s (put_as kind x put) x
kind_keeps told s x put same = same
kind_keeps (broken_off n) s x put same = same
kind_keeps (unavailable true) s x put same = same
kind_keeps (unavailable false) s x put same = refl

turn_keeps : (desk : Desk) (s : State) (turn : Turn) (x : List ℕ) → IsAlone turn → end_in s ≤ length x → SamePieces s (blocks_in desk s x turn) x
turn_keeps desk s turn x alone within =
    subst (λ (b : List ℕ). SamePieces s b x) (sym (blocks_alone desk s x turn alone))
    (kind_keeps turn.kind s x (put_by desk.seat turn.at s x (decision desk s turn)) (put_keeps desk.seat turn.at s x (decision desk s turn) within))

all_keep : (desk : Desk) (s : State) (turns : List Turn) (x : List ℕ) → All IsAlone turns → end_in s ≤ length x → SamePieces s (blocks_behind desk s x turns) x
all_keep desk s [] x alone within = refl
all_keep desk s (u ∷ turns) x alone within =
    let next = state_after s (gained_in desk s u) in
    let made = blocks_in desk s x u in
    let first = All-head IsAlone u turns alone in
    fewer_same (end_in s) (end_in next) (blocks_behind desk next made turns) made (after_grows s (gained_in desk s u))
    (all_keep desk next turns made (All-tail IsAlone u turns alone) (reaches desk s u x first within))
    ∙ turn_keeps desk s u x first within

-- ---- so what was sent is still there

pub still_there : (desk : Desk) (s : State) (turns : List Turn) (x y : List ℕ) → All IsAlone turns → SendAll desk s turns → end_in s ≤ length x
    → SamePieces (state_after s (gained desk s turns)) y (blocks_behind desk s x turns) → ShowAll desk s x turns → SentFrom y desk s turns
still_there desk s [] x y alone sends within same show = tt
still_there desk s (u ∷ turns) x y alone sends within same show =
    let next = state_after s (gained_in desk s u) in
    let made = blocks_in desk s x u in
    let first = All-head IsAlone u turns alone in
    let P : State → Type 0 = λ z. All (λ piece. end_of piece ≤ end_in z) (fetched desk s u) in
    let Q : State → Type 0 = λ z. SamePieces z y (blocks_behind desk next made turns) in
    let there : SamePieces s y x =
    fewer_same (end_in s) (end_in (state_after s (gained desk s (u ∷ turns)))) y (blocks_behind desk s x (u ∷ turns)) (after_grows s (gained desk s (u ∷ turns))) same
    ∙ all_keep desk s (u ∷ turns) x alone within in (
      show.0 ∙ content_same x y (end_in s) (fetched desk s u) (subst P (state_alone s u first) sends.0.lie) (sym there),
      still_there desk next turns made y (All-tail IsAlone u turns alone) sends.1 (reaches desk s u x first within)
          (subst Q (state_after-append s (gained_in desk s u) (gained desk next turns)) same) show.1,
    )

-- ---- each piece has bytes of its digest

either_held : (b : Bool) (s : State) (cmd : Cmd) (x new : List ℕ) → AreHeld (step s cmd).state new → AreHeld s x
    → AreHeld (state_after s (if b then cmd ∷ [] else [])) (if b then new else x)
either_held true s cmd x new there here = there
either_held false s cmd x new there here = here

put_held : (seat at : ℕ) (s : State) (x : List ℕ) (d : Decision) → end_in s ≤ length x → AreHeld s x → AreHeld (state_after s (entered_by seat at s d)) (put_by seat at s x d)
put_held seat at s x (says it) within held = held
put_held seat at s x (enters act bytes) within held =
    let cmd = cmd_with seat at s act bytes in
    either_held (step s cmd).enters s cmd x (blocks_with s (data_of act bytes) x) (held_next s bytes x (cmd_of seat at act) within held) held
put_held seat at s x (looks user path) within held = held
put_held seat at s x (loads user path) within held = held

kind_held : (kind : Kind) (s : State) (cmds : List Cmd) (x put : List ℕ) → AreHeld (state_after s cmds) put → AreHeld s x
    → AreHeld (state_after s (entered_as kind cmds)) (put_as kind x put)
kind_held told s cmds x put there here = there
kind_held (broken_off n) s cmds x put there here = there
kind_held (unavailable true) s cmds x put there here = there
kind_held (unavailable false) s cmds x put there here = here

turn_held : (desk : Desk) (s : State) (turn : Turn) (x : List ℕ) → IsAlone turn → end_in s ≤ length x → AreHeld s x
    → AreHeld (state_after s (gained_in desk s turn)) (blocks_in desk s x turn)
turn_held desk s turn x alone within held =
    let d = decision desk s turn in
    let there = kind_held turn.kind s (entered_by desk.seat turn.at s d) x (put_by desk.seat turn.at s x d) (put_held desk.seat turn.at s x d within held) held in
    rw (gained_alone desk s turn alone, blocks_alone desk s x turn alone) there

all_held : (desk : Desk) (s : State) (turns : List Turn) (x : List ℕ) → All IsAlone turns → end_in s ≤ length x → AreHeld s x
    → AreHeld (state_after s (gained desk s turns)) (blocks_behind desk s x turns)
all_held desk s [] x alone within held = held
all_held desk s (u ∷ turns) x alone within held =
    let next = state_after s (gained_in desk s u) in
    let first = All-head IsAlone u turns alone in
    let P : State → Type 0 = λ z. AreHeld z (blocks_behind desk next (blocks_in desk s x u) turns) in
    subst P (sym (state_after-append s (gained_in desk s u) (gained desk next turns)))
    (all_held desk next turns (blocks_in desk s x u) (All-tail IsAlone u turns alone) (reaches desk s u x first within) (turn_held desk s u x first within held))

pub still_held : (desk : Desk) (s : State) (turns : List Turn) (x y : List ℕ) → All IsAlone turns → end_in s ≤ length x
    → SamePieces (state_after s (gained desk s turns)) y (blocks_behind desk s x turns) → AreHeld s x → AreHeld (state_after s (gained desk s turns)) y
still_held desk s turns x y alone within same held =
    held_same (state_after s (gained desk s turns)) (blocks_behind desk s x turns) y (sym same) (all_held desk s turns x alone within held)
