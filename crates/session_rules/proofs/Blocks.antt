-- What requests make of the block file and what they send of it, where nobody else lets commands enter meanwhile.
use Rattle.std.proofs.Common.{◌≡◌, ℕ, ◌+◌, ◌≤◌, Bool, true, false, if◌then◌else◌, List, [], ◌∷◌, ◌++◌, All, length, take, refl, sym, ap, subst, ◌∙◌, arith, append-nil, length-append}
use Rattle.std.proofs.lemmas.List.{length-take, length-take-le, take-take}
use Rattle.std.proofs.lemmas.List.Elements.{All-from_recursion, All-head, All-tail, All-take}
use Rattle.std.specs.List.{AllByRecursion as ByRecursion}
use Rattle.std.specs.Option.{option_to_list}
use Rattle.fh_model.specs.declared.commands.Act.{Act}
use Rattle.fh_model.specs.declared.commands.Act.TheVariants.{MakeFolder, Upload}
use Rattle.fh_model.specs.declared.commands.Cmd.{Cmd}
use Rattle.fh_model.specs.declared.files.FileMeta.{FileMeta}
use Rattle.fh_model.specs.declared.pieces.Piece.{Piece}
use Rattle.fh_model.specs.Content.{content_of, slice_of}
use Rattle.fh_model.specs.History.{state_after}
use Rattle.fh_model.specs.KeptFiles.{IsKept}
use Rattle.fh_model.specs.Pieces.{SamePieces, blocks_with, data_of, end_in, end_of, last_end, named_in, piece_of, pieces_in, placed, with_piece}
use Rattle.fh_model.specs.State.{State}
use Rattle.fh_model.specs.Step.{step}
use Rattle.fh_model.proofs.HeldLaws.{same_slice}
use Rattle.fh_model.proofs.KeptBlockLaws.{kept_pieces}
use Rattle.fh_model.proofs.PieceLaws.{step_end}
use Rattle.fh_model.proofs.Runs.{state_after-append}
use Rattle.session_rules.specs.Connection.{Desk, IsAlone, IsStored, Kind, SendAll, ShowAll, Turn, blocks_behind, blocks_in, broken_off, cmd_of, cmd_with, decision, entered_as, entered_by, fetched, gained, gained_in, put_as, put_by, state_at, told, unavailable}
use Rattle.session_rules.specs.Decisions.{Decision, says, enters, looks, loads}
use Rattle.session_rules.proofs.Turns.{gained-append}

-- ---- more requests behind these

-- what they make of the block file
pub blocks_behind-append : (desk : Desk) (s : State) (b : List ℕ) (turns more : List Turn)
    → blocks_behind desk s b (turns ++ more) ≡ blocks_behind desk (state_after s (gained desk s turns)) (blocks_behind desk s b turns) more
blocks_behind-append desk s b [] more = refl
blocks_behind-append desk s b (u ∷ turns) more =
    let next = state_after s (gained_in desk s u) in
    let front = blocks_in desk s b u in
    blocks_behind-append desk next front turns more
    ∙ ap (λ z. blocks_behind desk z (blocks_behind desk next front turns) more) (sym (state_after-append s (gained_in desk s u) (gained desk next turns)))

-- the state behind a request and others, from the one behind that request
state_behind : (desk : Desk) (s : State) (u : Turn) (turns : List Turn)
    → state_after s (gained desk s (u ∷ turns)) ≡ state_after (state_after s (gained_in desk s u)) (gained desk (state_after s (gained_in desk s u)) turns)
state_behind desk s u turns = state_after-append s (gained_in desk s u) (gained desk (state_after s (gained_in desk s u)) turns)

-- what they send
pub SendAll-append : (desk : Desk) (s : State) (turns more : List Turn) → SendAll desk s turns → SendAll desk (state_after s (gained desk s turns)) more
    → SendAll desk s (turns ++ more)
SendAll-append desk s [] more front back = back
SendAll-append desk s (u ∷ turns) more front back =
    let P : State → Type 0 = λ z. SendAll desk z more in
    (front.0, SendAll-append desk (state_after s (gained_in desk s u)) turns more front.1 (subst P (state_behind desk s u turns) back))

-- and whether that is the content of their pieces
pub ShowAll-append : (desk : Desk) (s : State) (b : List ℕ) (turns more : List Turn) → ShowAll desk s b turns
    → ShowAll desk (state_after s (gained desk s turns)) (blocks_behind desk s b turns) more → ShowAll desk s b (turns ++ more)
ShowAll-append desk s b [] more front back = back
ShowAll-append desk s b (u ∷ turns) more front back =
    let next = state_after s (gained_in desk s u) in
    let P : State → Type 0 = λ z. ShowAll desk z (blocks_behind desk next (blocks_in desk s b u) turns) more in
    (front.0, ShowAll-append desk next (blocks_in desk s b u) turns more front.1 (subst P (state_behind desk s u turns) back))

-- ---- a command with its data

data_end : (place : ℕ) (bytes : List ℕ) → last_end (option_to_list (piece_of place bytes)) ≤ place + length bytes
data_end place [] = omega arith
data_end place (byte ∷ bytes) = omega arith

act_end : (place : ℕ) (act : Act) (bytes : List ℕ) → last_end (named_in (with_piece (piece_of place bytes) act)) ≤ place + length (data_of act bytes)
act_end place (MakeFolder user path rename) bytes = omega arith
act_end place (Upload user commit drafted last) bytes = data_end place bytes

-- the pieces of the state behind it lie in the block file with its data
next_end : (seat at : ℕ) (s : State) (act : Act) (bytes x : List ℕ) → end_in s ≤ length x
    → end_in (step s (cmd_with seat at s act bytes)).state ≤ length (blocks_with s (data_of act bytes) x)
next_end seat at s act bytes x within =
    let next = step_end s (cmd_with seat at s act bytes) in
    omega (arith, next.1, act_end (end_in s) act bytes, length-append (take (end_in s) x) (data_of act bytes), length-take-le (end_in s) x within)

-- the first bytes of a file that begins so
begins_same : (n : ℕ) (front y : List ℕ) → n ≤ length front → take (length front) y ≡ front → take n y ≡ take n front
begins_same n front y below begins = sym (take-take n (length front) y below) ∙ ap (take n) begins

put_either : (b : Bool) (s : State) (cmd : Cmd) (y x new : List ℕ) → end_in (step s cmd).state ≤ length new → SamePieces s y x → (b ≡ true → take (length new) y ≡ new)
    → SamePieces (state_after s (if b then cmd ∷ [] else [])) y (if b then new else x)
put_either true s cmd y x new within same begins = begins_same (end_in (step s cmd).state) new y within (begins refl)
put_either false s cmd y x new within same begins = same

-- Where a block file begins with what a command makes of another, it has the pieces of the state behind the command, and
-- where nothing enters it has those of the state.
pub put_same : (seat at : ℕ) (s : State) (act : Act) (bytes x y : List ℕ) → end_in s ≤ length x → SamePieces s y x
    → ((step s (placed s bytes (cmd_of seat at act))).enters ≡ true → take (length (blocks_with s (data_of act bytes) x)) y ≡ blocks_with s (data_of act bytes) x)
    → SamePieces (state_after s (entered_by seat at s (enters act bytes))) y (put_by seat at s x (enters act bytes))
put_same seat at s act bytes x y within same begins =
    let cmd = cmd_with seat at s act bytes in
    put_either (step s cmd).enters s cmd y x (blocks_with s (data_of act bytes) x) (next_end seat at s act bytes x within) same begins

-- ---- a request alone

nothing_joined : (xs ys : List Cmd) → xs ≡ [] → ys ≡ [] → xs ++ ys ≡ []
nothing_joined xs ys e f = ap (λ (l : List Cmd). l ++ ys) e ∙ f

-- it comes to its act or its look in the state that the request before it left
pub state_alone : (s : State) (turn : Turn) → IsAlone turn → state_at s turn ≡ s
state_alone s turn alone = ap (λ (l : List Cmd). state_after s l) (nothing_joined turn.others turn.between alone.0 alone.1)

only_middle : (front middle back : List Cmd) → front ≡ [] → back ≡ [] → front ++ (middle ++ back) ≡ middle
only_middle front middle back e f = ap (λ (l : List Cmd). l ++ (middle ++ back)) e ∙ ap (λ (l : List Cmd). middle ++ l) f ∙ append-nil middle

-- the history gains its own command alone
pub gained_alone : (desk : Desk) (s : State) (turn : Turn) → IsAlone turn → gained_in desk s turn ≡ entered_as turn.kind (entered_by desk.seat turn.at s (decision desk s turn))
gained_alone desk s turn alone =
    only_middle (turn.others ++ turn.between) (entered_as turn.kind (entered_by desk.seat turn.at (state_at s turn) (decision desk s turn))) turn.after
    (nothing_joined turn.others turn.between alone.0 alone.1) alone.2
    ∙ ap (λ z. entered_as turn.kind (entered_by desk.seat turn.at z (decision desk s turn))) (state_alone s turn alone)

pub blocks_alone : (desk : Desk) (s : State) (x : List ℕ) (turn : Turn) → IsAlone turn → blocks_in desk s x turn ≡ put_as turn.kind x (put_by desk.seat turn.at s x (decision desk s turn))
blocks_alone desk s x turn alone = ap (λ z. put_as turn.kind x (put_by desk.seat turn.at z x (decision desk s turn))) (state_alone s turn alone)

-- ---- the block file reaches to the end of the state's pieces

either_reaches : (b : Bool) (s : State) (cmd : Cmd) (x new : List ℕ) → end_in (step s cmd).state ≤ length new → end_in s ≤ length x
    → end_in (state_after s (if b then cmd ∷ [] else [])) ≤ length (if b then new else x)
either_reaches true s cmd x new there here = there
either_reaches false s cmd x new there here = here

put_reaches : (seat at : ℕ) (s : State) (x : List ℕ) (d : Decision) → end_in s ≤ length x → end_in (state_after s (entered_by seat at s d)) ≤ length (put_by seat at s x d)
put_reaches seat at s x (says it) within = within
put_reaches seat at s x (enters act bytes) within =
    let cmd = cmd_with seat at s act bytes in
    either_reaches (step s cmd).enters s cmd x (blocks_with s (data_of act bytes) x) (next_end seat at s act bytes x within) within
put_reaches seat at s x (looks user path) within = within
put_reaches seat at s x (loads user path) within = within

kind_reaches : (kind : Kind) (s : State) (cmds : List Cmd) (x put : List ℕ) → end_in (state_after s cmds) ≤ length put → end_in s ≤ length x
    → end_in (state_after s (entered_as kind cmds)) ≤ length (put_as kind x put)
kind_reaches told s cmds x put there here = there
kind_reaches (broken_off n) s cmds x put there here = there
kind_reaches (unavailable true) s cmds x put there here = there
kind_reaches (unavailable false) s cmds x put there here = here

pub reaches : (desk : Desk) (s : State) (turn : Turn) (x : List ℕ) → IsAlone turn → end_in s ≤ length x
    → end_in (state_after s (gained_in desk s turn)) ≤ length (blocks_in desk s x turn)
reaches desk s turn x alone within =
    let d = decision desk s turn in
    let there = kind_reaches turn.kind s (entered_by desk.seat turn.at s d) x (put_by desk.seat turn.at s x d) (put_reaches desk.seat turn.at s x d within) within in
    rw (gained_alone desk s turn alone, blocks_alone desk s x turn alone) there

pub all_reach : (desk : Desk) (s : State) (turns : List Turn) (x : List ℕ) → All IsAlone turns → end_in s ≤ length x
    → end_in (state_after s (gained desk s turns)) ≤ length (blocks_behind desk s x turns)
all_reach desk s [] x alone within = within
all_reach desk s (u ∷ turns) x alone within =
    let next = state_after s (gained_in desk s u) in
    let P : State → Type 0 = λ z. end_in z ≤ length (blocks_behind desk next (blocks_in desk s x u) turns) in
    subst P (sym (state_behind desk s u turns))
    (all_reach desk next turns (blocks_in desk s x u) (All-tail IsAlone u turns alone) (reaches desk s u x (All-head IsAlone u turns alone) within))

-- ---- from two block files with the same pieces

either_same : (b : Bool) (s : State) (cmd : Cmd) (x o new other : List ℕ) → SamePieces s x o → new ≡ other
    → SamePieces (state_after s (if b then cmd ∷ [] else [])) (if b then new else x) (if b then other else o)
either_same true s cmd x o new other same is = ap (take (end_in (step s cmd).state)) is
either_same false s cmd x o new other same is = same

put_by_same : (seat at : ℕ) (s : State) (x b : List ℕ) (d : Decision) → SamePieces s x b → SamePieces (state_after s (entered_by seat at s d)) (put_by seat at s x d) (put_by seat at s b d)
put_by_same seat at s x b (says it) same = same
put_by_same seat at s x b (enters act bytes) same =
    let cmd = cmd_with seat at s act bytes in
    let new = data_of act bytes in
    either_same (step s cmd).enters s cmd x b (blocks_with s new x) (blocks_with s new b) same (ap (λ (l : List ℕ). l ++ new) same)
put_by_same seat at s x b (looks user path) same = same
put_by_same seat at s x b (loads user path) same = same

kind_same : (kind : Kind) (s : State) (cmds : List Cmd) (x b put other : List ℕ) → SamePieces (state_after s cmds) put other → SamePieces s x b
    → SamePieces (state_after s (entered_as kind cmds)) (put_as kind x put) (put_as kind b other)
kind_same told s cmds x b put other there here = there
kind_same (broken_off n) s cmds x b put other there here = there
kind_same (unavailable true) s cmds x b put other there here = there
kind_same (unavailable false) s cmds x b put other there here = here

pub turn_same : (desk : Desk) (s : State) (turn : Turn) (x b : List ℕ) → IsAlone turn → end_in s ≤ length x → SamePieces s x b
    → SamePieces (state_after s (gained_in desk s turn)) (blocks_in desk s x turn) (blocks_in desk s b turn)
turn_same desk s turn x b alone within same =
    let d = decision desk s turn in
    let there = kind_same turn.kind s (entered_by desk.seat turn.at s d) x b (put_by desk.seat turn.at s x d) (put_by desk.seat turn.at s b d) (put_by_same desk.seat turn.at s x b d same) same in
    rw (gained_alone desk s turn alone, blocks_alone desk s x turn alone, blocks_alone desk s b turn alone) there

-- what the requests make of them has the same pieces too
pub blocks_same : (desk : Desk) (s : State) (turns : List Turn) (x b : List ℕ) → All IsAlone turns → end_in s ≤ length x → SamePieces s x b
    → SamePieces (state_after s (gained desk s turns)) (blocks_behind desk s x turns) (blocks_behind desk s b turns)
blocks_same desk s [] x b alone within same = same
blocks_same desk s (u ∷ turns) x b alone within same =
    let next = state_after s (gained_in desk s u) in
    let first = All-head IsAlone u turns alone in
    let P : State → Type 0 = λ z. SamePieces z (blocks_behind desk next (blocks_in desk s x u) turns) (blocks_behind desk next (blocks_in desk s b u) turns) in
    subst P (sym (state_behind desk s u turns))
    (blocks_same desk next turns (blocks_in desk s x u) (blocks_in desk s b u) (All-tail IsAlone u turns alone) (reaches desk s u x first within) (turn_same desk s u x b first within same))

-- pieces that lie in front of the same bytes hold one content
pub content_same : (x b : List ℕ) (end : ℕ) (pieces : List Piece) → All (λ piece. end_of piece ≤ end) pieces → take end x ≡ take end b → content_of x pieces ≡ content_of b pieces
content_same x b end [] lie same = refl
content_same x b end (piece ∷ pieces) lie same =
    let Lies : Piece → Type 0 = λ one. end_of one ≤ end in
    ap (λ (l : List ℕ). l ++ content_of x pieces) (same_slice x b piece end (All-head Lies piece pieces lie) same)
    ∙ ap (λ (l : List ℕ). slice_of b piece ++ l) (content_same x b end pieces (All-tail Lies piece pieces lie) same)

-- so what was sent is the content of its pieces in both
pub show_same : (desk : Desk) (s : State) (turns : List Turn) (x b : List ℕ) → All IsAlone turns → SendAll desk s turns → end_in s ≤ length x → SamePieces s x b
    → ShowAll desk s x turns → ShowAll desk s b turns
show_same desk s [] x b alone sends within same show = tt
show_same desk s (u ∷ turns) x b alone sends within same show =
    let next = state_after s (gained_in desk s u) in
    let first = All-head IsAlone u turns alone in
    let P : State → Type 0 = λ z. All (λ piece. end_of piece ≤ end_in z) (fetched desk s u) in
    let here = content_same x b (end_in s) (fetched desk s u) (subst P (state_alone s u first) sends.0.lie) same in (
      show.0 ∙ here,
      show_same desk next turns (blocks_in desk s x u) (blocks_in desk s b u) (All-tail IsAlone u turns alone) sends.1 (reaches desk s u x first within)
          (turn_same desk s u x b first within same) show.1,
    )

-- ---- from one block file to another

-- what has the same front has as many bytes
as_long : (n : ℕ) (y b : List ℕ) → take n y ≡ take n b → n ≤ length b → n ≤ length y
as_long n y b same within = omega (arith, ap length same, length-take n y, length-take n b, within)

-- by the requests up to a block file in the middle and by those from there on
pub stored_on : (desk : Desk) (s : State) (turns more : List Turn) (x y z : List ℕ) → All IsAlone turns → All IsAlone more → SendAll desk (state_after s (gained desk s turns)) more
    → IsStored desk s turns x y → IsStored desk (state_after s (gained desk s turns)) more y z → IsStored desk s (turns ++ more) x z
stored_on desk s turns more x y z alone others sends first second within =
    let mid = state_after s (gained desk s turns) in
    let made = blocks_behind desk s x turns in
    let one = first within in
    let long = as_long (end_in mid) y made one.0 (all_reach desk s turns x alone within) in
    let two = second long in
    let there : SamePieces (state_after mid (gained desk mid more)) z (blocks_behind desk mid made more) =
    two.0 ∙ blocks_same desk mid more y made others long one.0 in
    let P : State → Type 0 = λ t. SamePieces t z (blocks_behind desk mid made more) in
    let Q : List ℕ → Type 0 = λ l. SamePieces (state_after s (gained desk s (turns ++ more))) z l in
    let behind : state_after mid (gained desk mid more) ≡ state_after s (gained desk s (turns ++ more)) =
    sym (ap (λ (l : List Cmd). state_after s l) (gained-append desk s turns more) ∙ state_after-append s (gained desk s turns) (gained desk mid more)) in (
      subst Q (sym (blocks_behind-append desk s x turns more)) (subst P behind there),
      ShowAll-append desk s x turns more one.1 (show_same desk mid more y made others sends long one.0 two.1),
    )

-- by no requests
pub stored_none : (desk : Desk) (s : State) (x y : List ℕ) → SamePieces s y x → IsStored desk s [] x y
stored_none desk s x y same within = (same, tt)

-- up to another block file with the same pieces
pub stored_then : (desk : Desk) (s : State) (turns : List Turn) (x y z : List ℕ) → IsStored desk s turns x y → SamePieces (state_after s (gained desk s turns)) z y
    → IsStored desk s turns x z
stored_then desk s turns x y z stored same within = let was = stored within in (same ∙ was.0, was.1)

-- ---- the pieces of a version

ends_below : (end : ℕ) (pieces : List Piece) → last_end pieces ≤ end → ByRecursion (λ piece. end_of piece ≤ end) pieces
ends_below end [] below = tt
ends_below end (piece ∷ pieces) below = (omega (arith, below), ends_below end pieces (omega (arith, below)))

-- they lie in front of the end of the state that keeps it
pub pieces_lie : (s : State) (meta : FileMeta) → IsKept s meta → All (λ piece. end_of piece ≤ end_in s) meta.pieces
pieces_lie s meta is =
    let Lies : Piece → Type 0 = λ piece. end_of piece ≤ end_in s in
    kept_pieces Lies s meta is (All-from_recursion Lies (pieces_in s) (ends_below (end_in s) (pieces_in s) (omega arith)))

-- so do the first ones
pub first_lie : (s : State) (meta : FileMeta) (n : ℕ) → IsKept s meta → All (λ piece. end_of piece ≤ end_in s) (take n meta.pieces)
first_lie s meta n is = All-take (λ piece. end_of piece ≤ end_in s) n meta.pieces (pieces_lie s meta is)
