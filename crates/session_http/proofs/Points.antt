-- How the points of a port's calls make the turn of a request.
use Rattle.std.proofs.Common.{◌≡◌, ℕ, List, [], ◌++◌, Option, None, Some, IfSome, sym, ◌∙◌, ap, subst, append_assoc, append-nil, option_map}
use Rattle.httparse.specs.Grammar.{RequestHead}
use Rattle.fh_model.specs.declared.commands.Cmd.{Cmd}
use Rattle.fh_model.specs.History.{Kept, state_of, state_after, with_more}
use Rattle.fh_model.specs.Pieces.{SamePieces}
use Rattle.fh_model.specs.State.{State}
use Rattle.fh_model.proofs.Runs.{state_more, with_more_more, state_after-append}
use Rattle.http_in.specs.Parts.{IsHeadOf}
use Rattle.http_in.specs.Requests.{Request}
use Rattle.http_in.specs.declared.head.Head.{Head}
use Rattle.session_rules.specs.Asked.{arg_in, asks_last, token_in, waits, waits_by}
use Rattle.session_rules.specs.Connection.{Desk, Turn, Kind, told_by, entered_as, entered_by, decision, state_at, gained_in, put_as, put_by, blocks_in}
use Rattle.session_rules.specs.Decisions.{Called, Decision, called, decided}

-- what a head says is what the definitions read in it
pub token_same : (h : RequestHead) (head : Head) → IsHeadOf h head → option_map (λ v. v.items) head.token ≡ token_in h
token_same h head is = is.token_is

pub last_same : (h : RequestHead) (head : Head) → IsHeadOf h head → head.last ≡ asks_last h
last_same h head is = is.last_is

pub waits_same : (h : RequestHead) (head : Head) → IsHeadOf h head → waits h ≡ head.interim
waits_same h head is = ap (waits_by h) is.length_is ∙ sym is.interim_is

-- who calls, by what the definitions read in the head
pub called_same : (admin : List ℕ) (s : State) (h : RequestHead) (head : Head) (it : Called) → IsHeadOf h head
    → called admin s head.method.items head.target.items (option_map (λ v. v.items) head.token) ≡ it
    → called admin s h.method h.target (token_in h) ≡ it
called_same admin s h head it is e =
    ap (λ m. called admin s m h.target (token_in h)) (sym is.method_is)
    ∙ ap (λ g. called admin s head.method.items g (token_in h)) (sym is.target_is)
    ∙ ap (called admin s head.method.items head.target.items) (sym is.token_is)
    ∙ e

pub known_same : (admin : List ℕ) (s : State) (h : RequestHead) (head : Head) (call : Option Called) → IsHeadOf h head
    → IfSome call (λ it. called admin s head.method.items head.target.items (option_map (λ v. v.items) head.token) ≡ it)
    → IfSome call (λ it. called admin s h.method h.target (token_in h) ≡ it)
known_same admin s h head None is e = tt
known_same admin s h head (Some it) is e = called_same admin s h head it is e

module _ (desk : Desk) (old mid : Kept) (r : Request) (others : List Cmd) (it : Called) (before : mid ≡ with_more old others)
    (is : called desk.admin (state_of mid) r.head.method r.head.target (token_in r.head) ≡ it) where
  abbrev pub turn_of : ℕ → List Cmd → List Cmd → Kind → List ℕ → Turn
  turn_of at between after kind sent =
      record { asked = r; at = at; others = others; between = between; after = after; kind = kind; sent = sent }

  -- what the request comes to
  abbrev pub comes_to : Decision
  comes_to = decided (arg_in r.head) r.content it

  pub state_mid : state_of mid ≡ state_after (state_of old) others
  state_mid = ap state_of before ∙ state_more old others

  pub decision_same : (at : ℕ) (between after : List Cmd) (kind : Kind) (sent : List ℕ) → decision desk (state_of old) (turn_of at between after kind sent) ≡ comes_to
  decision_same at between after kind sent =
      ap (decided (arg_in r.head) r.content) (ap (λ s. called desk.admin s r.head.method r.head.target (token_in r.head)) (sym state_mid) ∙ is)

  pub state_same : (at : ℕ) (between after : List Cmd) (kind : Kind) (sent : List ℕ)
      → state_at (state_of old) (turn_of at between after kind sent) ≡ state_after (state_of mid) between
  state_same at between after kind sent = state_after-append (state_of old) others between ∙ ap (λ s. state_after s between) (sym state_mid)

  -- what is told of it
  pub told_same : (at : ℕ) (between after : List Cmd) (kind : Kind) (sent : List ℕ)
      → told_by desk.seat at (state_at (state_of old) (turn_of at between after kind sent)) sent (decision desk (state_of old) (turn_of at between after kind sent))
      ≡ told_by desk.seat at (state_after (state_of mid) between) sent comes_to
  told_same at between after kind sent =
      ap (λ s. told_by desk.seat at s sent (decision desk (state_of old) (turn_of at between after kind sent))) (state_same at between after kind sent)
      ∙ ap (told_by desk.seat at (state_after (state_of mid) between) sent) (decision_same at between after kind sent)

  -- any fact of its decision in its state
  pub fact_same : (P : State → Decision → Type 0) (at : ℕ) (between after : List Cmd) (kind : Kind) (sent : List ℕ) → P (state_after (state_of mid) between) comes_to
      → P (state_at (state_of old) (turn_of at between after kind sent)) (decision desk (state_of old) (turn_of at between after kind sent))
  fact_same P at between after kind sent fact =
      let turn = turn_of at between after kind sent in
      let Q : State → Type 0 = λ s. P s comes_to in
      let R : Decision → Type 0 = λ d. P (state_at (state_of old) turn) d in
      subst R (sym (decision_same at between after kind sent)) (subst Q (sym (state_same at between after kind sent)) fact)

  entered_same : (at : ℕ) (between after : List Cmd) (kind : Kind) (sent : List ℕ)
      → entered_by desk.seat at (state_at (state_of old) (turn_of at between after kind sent)) (decision desk (state_of old) (turn_of at between after kind sent))
      ≡ entered_by desk.seat at (state_after (state_of mid) between) comes_to
  entered_same at between after kind sent =
      ap (λ s. entered_by desk.seat at s (decision desk (state_of old) (turn_of at between after kind sent))) (state_same at between after kind sent)
      ∙ ap (entered_by desk.seat at (state_after (state_of mid) between)) (decision_same at between after kind sent)

  -- what the history gained by it
  pub grown_turn : (new : Kept) (at : ℕ) (between after : List Cmd) (kind : Kind) (sent : List ℕ)
      → new ≡ with_more mid (between ++ (entered_as kind (entered_by desk.seat at (state_after (state_of mid) between) comes_to) ++ after))
      → new ≡ with_more old (gained_in desk (state_of old) (turn_of at between after kind sent))
  grown_turn new at between after kind sent e =
      let entered = entered_as kind (entered_by desk.seat at (state_after (state_of mid) between) comes_to) in
      e ∙ ap (λ k. with_more k (between ++ (entered ++ after))) before ∙ with_more_more old others (between ++ (entered ++ after))
      ∙ ap (with_more old) (sym (append_assoc others between (entered ++ after)))
      ∙ ap (λ l. with_more old ((others ++ between) ++ (entered_as kind l ++ after))) (sym (entered_same at between after kind sent))

  -- what became of the block file, where nobody else's commands came
  blocks_alone : (at : ℕ) (kind : Kind) (sent x y : List ℕ)
      → SamePieces (state_after (state_of mid) (entered_as kind (entered_by desk.seat at (state_of mid) comes_to))) y (put_as kind x (put_by desk.seat at (state_of mid) x comes_to))
      → SamePieces (state_after (state_of old) (gained_in desk (state_of old) (turn_of at [] [] kind sent))) y (blocks_in desk (state_of old) x (turn_of at [] [] kind sent))
  blocks_alone at kind sent x y same =
      let turn = turn_of at [] [] kind sent in
      let E : List Cmd = entered_as kind (entered_by desk.seat at (state_at (state_of old) turn) (decision desk (state_of old) turn)) in
      let gained : state_after (state_of old) ((others ++ []) ++ (E ++ [])) ≡ state_after (state_of mid) E =
      state_after-append (state_of old) (others ++ []) (E ++ [])
      ∙ ap (λ s. state_after s (E ++ [])) (state_same at [] [] kind sent)
      ∙ ap (state_after (state_of mid)) (append-nil E) in
      let P : State → Decision → Type 0 = λ s d. SamePieces (state_after (state_of mid) (entered_as kind (entered_by desk.seat at s d))) y (put_as kind x (put_by desk.seat at s x d)) in
      let Q : State → Type 0 = λ s. SamePieces s y (blocks_in desk (state_of old) x turn) in
      subst Q (sym gained) (fact_same P at [] [] kind sent same)

  pub blocks_turn : (at : ℕ) (between after : List Cmd) (kind : Kind) (sent x y : List ℕ) → between ≡ [] → after ≡ []
      → SamePieces (state_after (state_of mid) (entered_as kind (entered_by desk.seat at (state_of mid) comes_to))) y (put_as kind x (put_by desk.seat at (state_of mid) x comes_to))
      → SamePieces (state_after (state_of old) (gained_in desk (state_of old) (turn_of at between after kind sent))) y
      (blocks_in desk (state_of old) x (turn_of at between after kind sent))
  blocks_turn at between after kind sent x y none no_more same =
      let P : List Cmd → Type 0 = λ l. SamePieces (state_after (state_of old) (gained_in desk (state_of old) (turn_of at l [] kind sent))) y
      (blocks_in desk (state_of old) x (turn_of at l [] kind sent)) in
      let Q : List Cmd → Type 0 = λ l. SamePieces (state_after (state_of old) (gained_in desk (state_of old) (turn_of at between l kind sent))) y
      (blocks_in desk (state_of old) x (turn_of at between l kind sent)) in
      subst Q (sym no_more) (subst P (sym none) (blocks_alone at kind sent x y same))
