-- What was heard of a request and what the port did for it make its turn, whatever became of it.
use Rattle.std.proofs.Common.{◌≡◌, ℕ, ◌+◌, ◌<◌, ◌≤◌, ◌||◌, ◌==◌, List, [], ◌∷◌, ◌++◌, All, length, Option, Some, IfSome, Bool, true, false, not, IsTrue, Result, Ok, Err, IfErr, OnErr, OnOk, IsErrOf, refl, sym, ◌∙◌, ap, subst, append-nil, arith, inl}
use Rattle.std.specs.Io.KnownBytes.{append_known, prepend_known}
use Rattle.fh_world.specs.Bytes.{Holds}
use Rattle.fh_world.specs.Causes.{Rose}
use Rattle.fh_model.specs.declared.commands.Cmd.{Cmd}
use Rattle.fh_model.specs.declared.files.FileMeta.{FileMeta}
use Rattle.fh_model.specs.declared.pieces.Piece.{Piece}
use Rattle.fh_model.specs.Content.{content_of, size_of}
use Rattle.fh_model.specs.History.{Kept, state_of, state_after, with_more}
use Rattle.fh_model.specs.Pieces.{SamePieces, end_in, end_of}
use Rattle.fh_model.specs.Resolve.{resolve}
use Rattle.fh_model.specs.State.{State}
use Rattle.fh_model.proofs.Runs.{state_more, with_more_more}
use Rattle.host_seat.specs.Port.{KeepsPieces, Leaves, OfBoth}
use Rattle.host_seat.proofs.PortLaws.{both_from, both_map, keeps_same}
use Rattle.host_seat.specs.declared.port.CommitFault.{CommitFault}
use Rattle.host_seat.specs.declared.port.CommitFault.TheVariants as fault
use Rattle.http_in.specs.Requests.{Request}
use Rattle.session_rules.specs.Asked.{arg_in, asks_last}
use Rattle.session_rules.specs.Connection.{Desk, Turn, Kind, told, broken_off, unavailable, asked_by, closes, cmd_with, decision, entered_as, entered_by, fetched, interim_of, pieces_as, put_as, put_by, said, said_as, size_by, sized_as, state_at, told_by, gained, gained_in, blocks_behind, blocks_in, IsStored, Sends, ShowAll}
use Rattle.session_rules.specs.Decisions.{Called, Decision, decided, loads}
use Rattle.session_rules.specs.Replies.{Said, load_of, pieces_in, said_by, size_in, text_of, out_of_memory}
use Rattle.session_rules.specs.declared.loading.Load.{Load}
use Rattle.session_rules.specs.declared.loading.Load.TheVariants as load
use Rattle.session_http.specs.Ends.{AsksBehind, AsksFor, IsPart, Served}
use Rattle.session_http.specs.Points.{Acts, Finds, Misses, IsStuck}
use Rattle.session_rules.proofs.Blocks.{first_lie, pieces_lie}
use Rattle.session_http.specs.Sending.{BreaksOff, Fetches, IsCause, SendsOn}
use Rattle.session_http.specs.Steps.{Breaks, GoesOn, Hears, IsServed}
use Rattle.session_http.specs.Talk.{Terms, Moment, IsWhole, desk, first}
use Rattle.session_http.specs.declared.bodies.Body.{Body}
use Rattle.session_http.specs.declared.conn.ConnEnd.{ConnEnd}
use Rattle.session_http.specs.declared.conn.ConnEnd.TheVariants.{DiskFault, WriteFault}
use Rattle.session_http.proofs.Ones.{Stays, Tells, turned_by, broken_by, broken_off_by, cause_since}
use Rattle.session_http.proofs.Points.{turn_of, told_same, fact_same, grown_turn, blocks_turn, decision_same, state_mid}
use Rattle.session_http.proofs.Serves.{serve_none}
use Rattle.session_http.proofs.Talks.{below_nothing}

pub memory_is_no_disk : {T : Type 0} (f : CommitFault) → f ≡ fault.NoMemory → IsErrOf {T = T} (Err f) fault.Disk → ⊥
memory_is_no_disk f is e = cc

-- the moments before and behind a write, or a few of them, are those of the sink then
pub record OfSink {K : Type 0} (held : K → Option (List ℕ)) (faults : K → ℕ) (a b : K) (mid new : Moment) : Type 0 where
  pub held_old : mid.held ≡ held a
  pub held_new : new.held ≡ held b
  pub faults_old : mid.write_faults ≡ faults a
  pub faults_new : new.write_faults ≡ faults b

module _ {K : Type 0} (held : K → Option (List ℕ)) (faults : K → ℕ) (a b : K) (mid new : Moment) (of : OfSink held faults a b mid new) where
  wrote_of : (text : List ℕ) → Holds held a b text → new.held ≡ append_known mid.held text
  wrote_of text wrote = of.held_new ∙ wrote ∙ ap (λ o. append_known o text) (sym of.held_old)

  rose_of : Rose (faults a) (faults b) → Rose mid.write_faults new.write_faults
  rose_of rose = omega (arith, rose, of.faults_old, of.faults_new)

-- no content was broken off in it
pub record TellsWhole (t : Terms) (old new : Moment) (asked : Request) (text : List ℕ) : Type 0 where
  pub tells : Tells t old new asked text
  pub whole : IsWhole tells.turn.kind

-- it is of this kind, and asks for the content of this file
pub record TellsAs (t : Terms) (old new : Moment) (asked : Request) (text : List ℕ) (kind : Kind) (meta : FileMeta) : Type 0 where
  pub tells : Tells t old new asked text
  pub kind_is : tells.turn.kind ≡ kind
  pub asks : AsksBehind (desk t old) (first old) tells.turn meta

pub as_whole : (t : Terms) (old new : Moment) (asked : Request) (text : List ℕ) (meta : FileMeta) → TellsAs t old new asked text told meta
    → TellsWhole t old new asked text
as_whole t old new asked text meta h = record { tells = h.tells; whole = subst IsWhole (sym h.kind_is) tt }

-- what became of the block file by one request
stored_one : (d : Desk) (s : State) (turn : Turn) (x y : List ℕ) → SamePieces (state_after s (gained_in d s turn)) y (blocks_in d s x turn)
    → turn.sent ≡ content_of x (fetched d s turn)
    → SamePieces (state_after s (gained d s (turn ∷ []))) y (blocks_behind d s x (turn ∷ [])) × ShowAll d s x (turn ∷ [])
stored_one d s turn x y same shown =
    let P : List Cmd → Type 0 = λ l. SamePieces (state_after s l) y (blocks_in d s x turn) in
    (subst P (sym (append-nil (gained_in d s turn))) same, (shown, tt))

-- nothing is sent where memory is wanting
sends_nothing : (d : Desk) (s : State) (asked : Request) (at : ℕ) (others between : List Cmd) (any : Bool)
    → Sends d s (record { asked = asked; at = at; others = others; between = between; after = []; kind = unavailable any; sent = [] })
sends_nothing d s asked at others between any = record { long = refl; lie = λ k e l. absurd (below_nothing k l); sized = tt }

module _ (t : Terms) (old mid new : Moment) (call : Option Called) (last : Bool) (arg : Option (List ℕ)) (body : Body) (kept : List ℕ)
    (h : Hears t old mid call last arg body kept) where
  pub closing : (close : Bool) (n : ℕ) → n ≡ mid.count + 1 → close ≡ (last || (n == 1000000)) → close ≡ closes (old.count + 1) h.asked.head
  closing close n e is =
      is ∙ ap (λ b. b || (n == 1000000)) h.asked_last
      ∙ ap (λ m. asks_last h.asked.head || (m == 1000000)) (e ∙ ap (λ c. c + 1) h.passes.count)

  -- the block file where nobody is known to call
  stored_nothing : (at : ℕ) (x y : List ℕ) → h.passes.others ≡ [] → SamePieces (first old) y x
      → IsStored (desk t old) (first old) (record { asked = h.asked; at = at; others = h.passes.others; between = []; after = []; kind = unavailable false; sent = [] } ∷ []) x y
  stored_nothing at x y none same _ =
      let P : List Cmd → Type 0 = λ l. SamePieces (state_after (first old) ((l ++ []) ++ [])) y x in
      stored_one (desk t old) (first old) (record { asked = h.asked; at = at; others = h.passes.others; between = []; after = []; kind = unavailable false; sent = [] }) x y
      (subst P (sym none) same) refl

  -- nobody is known to call, as memory was wanting
  tells_nothing : (at : ℕ) → IfSome t.second (λ s. at ≡ s) → new.seen ≡ mid.seen → new.blocks ≡ mid.blocks → (close : Bool)
      → close ≡ closes (old.count + 1) h.asked.head → Tells t old new h.asked (text_of out_of_memory close)
  tells_nothing at timed same blocks close is =
      let turn : Turn = record { asked = h.asked; at = at; others = h.passes.others; between = []; after = []; kind = unavailable false; sent = [] } in
      record {
        turn = turn;
        asked_is = refl;
        is = record { timed = timed; mine = λ a. (h.passes.mine a, refl, refl) };
        history = same ∙ h.passes.grown
            ∙ ap (with_more old.seen) (sym (append-nil h.passes.others) ∙ sym (append-nil (h.passes.others ++ [])));
        said_is = ap (text_of out_of_memory) is;
        sends = sends_nothing (desk t old) (first old) h.asked at h.passes.others [] false;
        blocks = λ alone. both_map (λ x y. SamePieces (first old) y x) (IsStored (desk t old) (first old) (turn ∷ [])) old.blocks new.blocks
            (λ x y. stored_nothing at x y (h.passes.mine alone)) (keeps_same (first old) old.blocks new.blocks (blocks ∙ h.passes.blocks));
      }

  pub whole_nothing : (at : ℕ) → IfSome t.second (λ s. at ≡ s) → new.seen ≡ mid.seen → new.blocks ≡ mid.blocks → (close : Bool)
      → close ≡ closes (old.count + 1) h.asked.head → TellsWhole t old new h.asked (text_of out_of_memory close)
  unfolding tells_nothing
  whole_nothing at timed same blocks close is = record { tells = tells_nothing at timed same blocks close is; whole = tt }

  -- its reply was written
  pub goes_by : Stays mid new → (text : List ℕ) → TellsWhole t old new h.asked text → new.held ≡ append_known mid.held text
      → (goes : Bool) → goes ≡ not last → GoesOn t old new goes
  goes_by stays text tells wrote goes is = record {
    turn = tells.tells.turn;
    turned = turned_by t old mid new call last arg body kept h stays text tells.tells tells.whole wrote;
    asked = ap (λ r. asks_last r.head) tells.tells.asked_is ∙ sym h.asked_last ∙ not_twice last ∙ ap not (sym is);
  }
    where
      not_twice : (b : Bool) → b ≡ not (not b)
      not_twice true = refl
      not_twice false = refl

  -- its reply was not written whole
  pub breaks_by : Stays mid new → (text : List ℕ) → TellsWhole t old new h.asked text → (part : List ℕ) → IsPart text part
      → new.held ≡ append_known mid.held part → Rose mid.write_faults new.write_faults → old.count < 1000000 → Served t old new WriteFault
  breaks_by stays text tells part some wrote rose few = broken_by t old mid new call last arg body kept h stays text tells.tells part some wrote rose few

  pub few_before : mid.count < 1000000 → old.count < 1000000
  few_before few = omega (arith, few, h.passes.count)

  -- its reply was written by this call, or not whole
  pub serves_by : {K X : Type 0} (held : K → Option (List ℕ)) (faults : K → ℕ) (a b : K) → OfSink held faults a b mid new → Stays mid new
      → (text : List ℕ) → TellsWhole t old new h.asked text → mid.count < 1000000 → (r : Result X ConnEnd)
      → OnOk r (Holds held a b text) → OnErr r (Breaks held faults a b text) → IfErr r (λ end. end ≡ WriteFault) → IsServed t old new last r
  serves_by held faults a b of stays text tells few (Ok value) wrote broke is =
      goes_by stays text tells (wrote_of held faults a b mid new of text wrote) (not last) refl
  serves_by held faults a b of stays text tells few (Err end) wrote broke is =
      let Q : ConnEnd → Type 0 = λ end. Served t old new end in
      subst Q (sym is) (breaks_by stays text tells broke.part broke.some (wrote_of held faults a b mid new of broke.part broke.wrote)
      (rose_of held faults a b mid new of broke.rose) (few_before few))

-- a content is told by its own text, and nothing enters with it
pub record IsSent (kind : Kind) : Type 0 where
  pub says : (it : Said) → said_as kind it ≡ it
  pub none : entered_as kind [] ≡ []
  pub stays : (blocks : List ℕ) → put_as kind blocks blocks ≡ blocks
  pub sized : (size : ℕ) (pieces : List Piece) → size ≡ size_of pieces → sized_as kind size pieces

pub sent_told : IsSent told
sent_told = record { says = λ _. refl; none = refl; stays = λ _. refl; sized = λ size pieces is. is }

pub sent_off : (n : ℕ) → IsSent (broken_off n)
sent_off n = record { says = λ _. refl; none = refl; stays = λ _. refl; sized = λ size pieces is. is }

module _ (t : Terms) (old mid new : Moment) (it : Called) (last : Bool) (arg : Option (List ℕ)) (body : Body) (kept : List ℕ)
    (h : Hears t old mid (Some it) last arg body kept) where
  -- what the request comes to, by its argument as it was read
  abbrev pub wanted : Decision
  wanted = decided arg h.asked.content it

  asked_for : wanted ≡ decided (arg_in h.asked.head) h.asked.content it
  asked_for = ap (λ a. decided a h.asked.content it) h.argued

  abbrev turn_at : ℕ → List Cmd → List Cmd → Kind → List ℕ → Turn
  turn_at at between after kind sent =
      turn_of (desk t old) old.seen mid.seen h.asked h.passes.others it h.passes.grown h.known at between after kind sent

  -- where the port is alone, nothing came before
  state_still : IsTrue t.alone → state_of mid.seen ≡ first old
  state_still alone =
      state_mid (desk t old) old.seen mid.seen h.asked h.passes.others it h.passes.grown h.known ∙ ap (state_after (first old)) (h.passes.mine alone)

  -- what a call makes of the block file, where the decision is this
  abbrev PutAs : Kind → ℕ → Decision → List ℕ → List ℕ → Type 0
  PutAs kind at d x y =
      SamePieces (state_after (state_of mid.seen) (entered_as kind (entered_by old.number at (state_of mid.seen) d))) y
      (put_as kind x (put_by old.number at (state_of mid.seen) x d))

  stored_turn : (at : ℕ) (between after : List Cmd) (kind : Kind) (sent : List ℕ) → IsTrue t.alone → between ≡ [] → after ≡ []
      → OfBoth (λ x y. (end_in (state_of mid.seen) ≤ length x → PutAs kind at wanted x y) × (sent ≡ content_of x (fetched (desk t old) (first old) (turn_at at between after kind sent)))) mid.blocks new.blocks
      → OfBoth (IsStored (desk t old) (first old) (turn_at at between after kind sent ∷ [])) old.blocks new.blocks
  stored_turn at between after kind sent alone none no_more both =
      let turn = turn_at at between after kind sent in
      let F : List ℕ → List ℕ → Type 0 = λ x y. (end_in (state_of mid.seen) ≤ length x → PutAs kind at wanted x y) × (sent ≡ content_of x (fetched (desk t old) (first old) turn)) in
      let T : Option (List ℕ) → Type 0 = λ o. OfBoth (IsStored (desk t old) (first old) (turn ∷ [])) o new.blocks in
      subst T h.passes.blocks (both_map F (IsStored (desk t old) (first old) (turn ∷ [])) mid.blocks new.blocks (one alone none no_more) both)
    where
      one : IsTrue t.alone → between ≡ [] → after ≡ [] → (x y : List ℕ)
          → (end_in (state_of mid.seen) ≤ length x → PutAs kind at wanted x y) × (sent ≡ content_of x (fetched (desk t old) (first old) (turn_at at between after kind sent)))
          → IsStored (desk t old) (first old) (turn_at at between after kind sent ∷ []) x y
      one alone none no_more x y f short =
          let L : State → Type 0 = λ s. end_in s ≤ length x in
          let P : Decision → Type 0 = λ d. PutAs kind at d x y in
          stored_one (desk t old) (first old) (turn_at at between after kind sent) x y
          (blocks_turn (desk t old) old.seen mid.seen h.asked h.passes.others it h.passes.grown h.known at between after kind sent x y none no_more
          (subst P asked_for (f.0 (subst L (sym (state_still alone)) short)))) f.1

  -- a fact of the decision in the state of its point
  fact_turn : (P : State → Decision → Type 0) (at : ℕ) (between after : List Cmd) (kind : Kind) (sent : List ℕ) → P (state_after (state_of mid.seen) between) wanted
      → P (state_at (first old) (turn_at at between after kind sent)) (decision (desk t old) (first old) (turn_at at between after kind sent))
  fact_turn P at between after kind sent fact =
      let Q : Decision → Type 0 = λ d. P (state_after (state_of mid.seen) between) d in
      fact_same (desk t old) old.seen mid.seen h.asked h.passes.others it h.passes.grown h.known P at between after kind sent (subst Q asked_for fact)

  grown_at : (at : ℕ) (between after : List Cmd) (kind : Kind) (sent : List ℕ)
      → new.seen ≡ with_more mid.seen (between ++ (entered_as kind (entered_by old.number at (state_after (state_of mid.seen) between) wanted) ++ after))
      → new.seen ≡ with_more old.seen (gained_in (desk t old) (first old) (turn_at at between after kind sent))
  grown_at at between after kind sent e =
      grown_turn (desk t old) old.seen mid.seen h.asked h.passes.others it h.passes.grown h.known new.seen at between after kind sent
      (e ∙ ap (λ d. with_more mid.seen (between ++ (entered_as kind (entered_by old.number at (state_after (state_of mid.seen) between) d) ++ after))) asked_for)

  told_at : (at : ℕ) (between after : List Cmd) (kind : Kind) (sent : List ℕ)
      → told_by old.number at (state_after (state_of mid.seen) between) sent wanted
      ≡ told_by old.number at (state_at (first old) (turn_at at between after kind sent)) sent (decision (desk t old) (first old) (turn_at at between after kind sent))
  told_at at between after kind sent =
      ap (told_by old.number at (state_after (state_of mid.seen) between) sent) asked_for
      ∙ sym (told_same (desk t old) old.seen mid.seen h.asked h.passes.others it h.passes.grown h.known at between after kind sent)

  -- it was answered with a text
  tells_acts : (at : ℕ) → IfSome t.second (λ s. at ≡ s) → (close : Bool) → close ≡ closes (old.count + 1) h.asked.head → (text : List ℕ)
      → Acts t.alone mid.number at mid.seen new.seen mid.blocks new.blocks wanted close text → Tells t old new h.asked text
  tells_acts at timed close is text acts =
      let P : ℕ → Type 0 = λ n. Acts t.alone n at mid.seen new.seen mid.blocks new.blocks wanted close text in
      let here : Acts t.alone old.number at mid.seen new.seen mid.blocks new.blocks wanted close text = subst P h.passes.number acts in
      let turn = turn_at at here.others [] told [] in
      let s = state_after (state_of mid.seen) here.others in
      let E = entered_by old.number at s wanted in
      let Long : State → Decision → Type 0 = λ u d. 0 ≡ size_of (asked_by u d) in
      let Lie : State → Decision → Type 0 = λ u d. All (λ piece. end_of piece ≤ end_in u) (asked_by u d) in
      let Sized : State → Decision → Type 0 = λ u d. size_by u d ≡ size_of (asked_by u d) in
      let Shown : State → Decision → Type 0 = λ u d. asked_by u d ≡ [] in
      let Q : List Piece → Type 0 = λ pieces. All (λ piece. end_of piece ≤ end_in s) pieces in
      let shown = fact_turn Shown at here.others [] told [] here.none in
      record {
        turn = turn;
        asked_is = refl;
        is = record { timed = timed; mine = λ a. (h.passes.mine a, here.mine a, refl) };
        history = grown_at at here.others [] told [] (here.grown ∙ ap (λ l. with_more mid.seen (here.others ++ l)) (sym (append-nil E)));
        said_is = here.says ∙ ap (λ x. text_of x close) (told_at at here.others [] told [])
            ∙ ap (text_of (said (desk t old) (first old) turn)) is;
        sends = record {
          long = fact_turn Long at here.others [] told [] (sym (ap size_of here.none));
          lie = fact_turn Lie at here.others [] told [] (subst Q (sym here.none) (λ k e l. absurd (below_nothing k l)));
          sized = fact_turn Sized at here.others [] told [] (here.empty ∙ sym (ap size_of here.none));
        };
        blocks = λ alone. stored_turn at here.others [] told [] alone (here.mine alone) refl
            (both_map (λ x y. end_in (state_of mid.seen) ≤ length x → PutAs told at wanted x y)
            (λ x y. (end_in (state_of mid.seen) ≤ length x → PutAs told at wanted x y) × ([] ≡ content_of x (fetched (desk t old) (first old) turn))) mid.blocks new.blocks
            (λ x y put. (put, sym (ap (content_of x) shown))) (here.puts alone));
      }

  pub whole_acts : (at : ℕ) → IfSome t.second (λ s. at ≡ s) → (close : Bool) → close ≡ closes (old.count + 1) h.asked.head → (text : List ℕ)
      → Acts t.alone mid.number at mid.seen new.seen mid.blocks new.blocks wanted close text → TellsWhole t old new h.asked text
  unfolding tells_acts
  whole_acts at timed close is text acts = record { tells = tells_acts at timed close is text acts; whole = tt }

  -- memory was wanting for its answer
  tells_misses : (at : ℕ) → IfSome t.second (λ s. at ≡ s) → (close : Bool) → close ≡ closes (old.count + 1) h.asked.head
      → Misses t.alone mid.number at mid.seen new.seen mid.blocks new.blocks wanted → Tells t old new h.asked (text_of out_of_memory close)
  tells_misses at timed close is misses =
      let P : ℕ → Type 0 = λ n. Misses t.alone n at mid.seen new.seen mid.blocks new.blocks wanted in
      let here : Misses t.alone old.number at mid.seen new.seen mid.blocks new.blocks wanted = subst P h.passes.number misses in
      let kind = unavailable here.any in
      let turn = turn_at at here.others [] kind [] in
      let E = entered_as kind (entered_by old.number at (state_after (state_of mid.seen) here.others) wanted) in
      record {
        turn = turn;
        asked_is = refl;
        is = record { timed = timed; mine = λ a. (h.passes.mine a, here.mine a, refl) };
        history = grown_at at here.others [] kind [] (here.grown ∙ ap (λ l. with_more mid.seen (here.others ++ l)) (sym (append-nil E)));
        said_is = ap (text_of out_of_memory) is;
        sends = sends_nothing (desk t old) (first old) h.asked at h.passes.others here.others here.any;
        blocks = λ alone. stored_turn at here.others [] kind [] alone (here.mine alone) refl
            (both_map (λ x y. end_in (state_of mid.seen) ≤ length x → PutAs kind at wanted x y)
            (λ x y. (end_in (state_of mid.seen) ≤ length x → PutAs kind at wanted x y) × ([] ≡ content_of x (fetched (desk t old) (first old) turn))) mid.blocks new.blocks
            (λ x y put. (put, refl)) (here.puts alone));
      }

  pub whole_misses : (at : ℕ) → IfSome t.second (λ s. at ≡ s) → (close : Bool) → close ≡ closes (old.count + 1) h.asked.head
      → Misses t.alone mid.number at mid.seen new.seen mid.blocks new.blocks wanted → TellsWhole t old new h.asked (text_of out_of_memory close)
  unfolding tells_misses
  whole_misses at timed close is misses = record { tells = tells_misses at timed close is misses; whole = tt }

  -- ---- a content was sent, or the first pieces of it

  module _ (at : ℕ) (close : Bool) (head : List ℕ) (rev count : ℕ) (seen : Kept) (blocks : Option (List ℕ)) (finds : Finds t.alone mid.seen seen wanted close head rev count)
      (same : blocks ≡ mid.blocks) (kind : Kind) (is_sent : IsSent kind) (sent : List ℕ)
      (fetches : Fetches t.alone seen new.seen blocks new.blocks (pieces_as kind finds.meta.pieces) sent)
      (lie : All (λ piece. end_of piece ≤ end_in (state_of seen)) (pieces_as kind finds.meta.pieces)) where
    abbrev content_turn : Turn
    content_turn = turn_at at finds.others fetches.others kind sent

    state_found : state_of seen ≡ state_after (state_of mid.seen) finds.others
    state_found = ap state_of finds.grown ∙ state_more mid.seen finds.others

    -- a fact of the load that was found is one of the decision in the state of its point
    fact_found : (P : State → Load → Type 0) → P (state_of seen) (load.File finds.names finds.meta)
        → (Q : State → Decision → Type 0) → ((s : State) → P s (load_of (resolve s finds.user finds.path)) → Q s (loads finds.user finds.path))
        → Q (state_at (first old) content_turn) (decision (desk t old) (first old) content_turn)
    fact_found P fact Q to =
        let R : Load → Type 0 = λ l. P (state_of seen) l in
        let S : State → Type 0 = λ s. P s (load_of (resolve s finds.user finds.path)) in
        let T : Decision → Type 0 = λ d. Q (state_after (state_of mid.seen) finds.others) d in
        fact_turn Q at finds.others fetches.others kind sent
        (subst T (sym finds.wanted) (to (state_after (state_of mid.seen) finds.others) (subst S state_found (subst R (sym finds.there) fact))))

    sends_content : Sends (desk t old) (first old) content_turn
    sends_content = record {
      long = fact_found (λ s l. length sent ≡ size_of (pieces_as kind (pieces_in l))) fetches.long (λ s d. length sent ≡ size_of (pieces_as kind (asked_by s d))) (λ s f. f);
      lie = fact_found (λ s l. All (λ piece. end_of piece ≤ end_in s) (pieces_as kind (pieces_in l))) lie
          (λ s d. All (λ piece. end_of piece ≤ end_in s) (pieces_as kind (asked_by s d))) (λ s f. f);
      sized = fact_found (λ s l. sized_as kind (size_in l) (pieces_in l)) (is_sent.sized finds.meta.size finds.meta.pieces finds.sized)
          (λ s d. sized_as kind (size_by s d) (asked_by s d)) (λ s f. f);
    }

    shown_content : (x : List ℕ) → sent ≡ content_of x (pieces_as kind finds.meta.pieces) → sent ≡ content_of x (fetched (desk t old) (first old) content_turn)
    shown_content x is =
        fact_found (λ s l. sent ≡ content_of x (pieces_as kind (pieces_in l))) is (λ s d. sent ≡ content_of x (pieces_as kind (asked_by s d))) (λ s f. f)

    -- nothing enters with it, and the pieces stay as they were
    put_content : (x y : List ℕ) → SamePieces (state_of mid.seen) y x → PutAs kind at wanted x y
    put_content x y is =
        let P : Decision → Type 0 = λ d. PutAs kind at d x y in
        let Q : List Cmd → Type 0 = λ l. SamePieces (state_after (state_of mid.seen) l) y (put_as kind x x) in
        let R : List ℕ → Type 0 = λ b. SamePieces (state_of mid.seen) y b in
        subst P (sym finds.wanted) (subst Q (sym is_sent.none) (subst R (sym (is_sent.stays x)) is))

    -- where the port is alone, the look changed nothing
    found_still : IsTrue t.alone → state_of seen ≡ state_of mid.seen
    found_still alone = state_found ∙ ap (state_after (state_of mid.seen)) (finds.mine alone)

    blocks_content : IsTrue t.alone → OfBoth (IsStored (desk t old) (first old) (content_turn ∷ [])) old.blocks new.blocks
    blocks_content alone =
        let F : List ℕ → List ℕ → Type 0 = λ x y. (end_in (state_of mid.seen) ≤ length x → PutAs kind at wanted x y) × (sent ≡ content_of x (fetched (desk t old) (first old) content_turn)) in
        let S : List ℕ → List ℕ → Type 0 = λ x y. sent ≡ content_of x (pieces_as kind finds.meta.pieces) in
        let K : List ℕ → List ℕ → Type 0 = λ x y. SamePieces (state_of seen) y x in
        let P : Option (List ℕ) → Type 0 = λ o. OfBoth F o new.blocks in
        stored_turn at finds.others fetches.others kind sent alone (finds.mine alone) (fetches.mine alone)
        (subst P same (both_from S K F blocks new.blocks (one alone) (fetches.shown alone) (fetches.below alone)))
      where
        one : IsTrue t.alone → (x y : List ℕ) → sent ≡ content_of x (pieces_as kind finds.meta.pieces) → SamePieces (state_of seen) y x
            → (end_in (state_of mid.seen) ≤ length x → PutAs kind at wanted x y) × (sent ≡ content_of x (fetched (desk t old) (first old) content_turn))
        one alone x y shown keeps =
            let P : State → Type 0 = λ s. SamePieces s y x in
            ((λ _. put_content x y (subst P (found_still alone) keeps)), shown_content x shown)

    -- the history grew by what others let in alone
    history_content : new.seen ≡ with_more old.seen (gained_in (desk t old) (first old) content_turn)
    history_content =
        let s = state_after (state_of mid.seen) finds.others in
        let nothing : [] ≡ entered_as kind (entered_by old.number at s wanted) =
        sym is_sent.none ∙ ap (λ d. entered_as kind (entered_by old.number at s d)) (sym finds.wanted) in
        grown_at at finds.others fetches.others kind sent
        (fetches.grown ∙ ap (λ k. with_more k fetches.others) finds.grown ∙ with_more_more mid.seen finds.others fetches.others
        ∙ ap (λ l. with_more mid.seen (finds.others ++ (l ++ fetches.others))) nothing)

    said_content : head ++ sent ≡ text_of (said (desk t old) (first old) content_turn) close
    said_content =
        let file = load.File finds.names finds.meta in
        fact_found (λ s l. head ++ sent ≡ text_of (said_as kind (said_by sent l)) close)
        (ap (λ l. l ++ sent) finds.says ∙ ap (λ i. text_of i close) (sym (is_sent.says (said_by sent file))))
        (λ s d. head ++ sent ≡ text_of (said_as kind (told_by old.number at s sent d)) close) (λ s f. f)

    tells_content : IfSome t.second (λ s. at ≡ s) → close ≡ closes (old.count + 1) h.asked.head → Tells t old new h.asked (head ++ sent)
    tells_content timed is = record {
      turn = content_turn;
      asked_is = refl;
      is = record { timed = timed; mine = λ a. (h.passes.mine a, finds.mine a, fetches.mine a) };
      history = history_content;
      said_is = said_content ∙ ap (text_of (said (desk t old) (first old) content_turn)) is;
      sends = sends_content;
      blocks = blocks_content;
    }

    asks_content : AsksBehind (desk t old) (first old) content_turn finds.meta
    asks_content =
        fact_found (λ s l. l ≡ load.File finds.names finds.meta) refl (λ s d. AsksFor s d finds.meta)
        (λ s there. record { user = finds.user; path = finds.path; names = finds.names; loads_it = refl; there = there })

    pub content_as : IfSome t.second (λ s. at ≡ s) → close ≡ closes (old.count + 1) h.asked.head → TellsAs t old new h.asked (head ++ sent) kind finds.meta
    unfolding tells_content
    content_as timed is = record { tells = tells_content timed is; kind_is = refl; asks = asks_content }

  -- the content was sent by this call, or broken off
  pub serves_content : {K X : Type 0} (held : K → Option (List ℕ)) (sink_faults : K → ℕ) (a b : K) → OfSink held sink_faults a b mid new → (at : ℕ) (close : Bool) (head : List ℕ) (rev count : ℕ) (seen : Kept) (blocks : Option (List ℕ)) (faults : ℕ)
      → (finds : Finds t.alone mid.seen seen wanted close head rev count) → blocks ≡ mid.blocks → mid.port_faults ≤ faults → Stays mid new → IfSome t.second (λ s. at ≡ s)
      → close ≡ closes (old.count + 1) h.asked.head → mid.count < 1000000 → (r : Result X ConnEnd)
      → OnOk r (SendsOn t.alone seen new.seen blocks new.blocks held a b head finds.meta.pieces)
      → IfErr r (λ end. BreaksOff end t.alone seen new.seen blocks new.blocks held a b head finds.meta.pieces)
      → IfErr r (λ end. IsCause end faults new.port_faults mid.write_faults new.write_faults) → IsServed t old new last r
  serves_content held sink_faults a b of at close head rev count seen blocks faults finds same later stays timed is few (Ok value) sends broke cause =
      let tells = content_as at close head rev count seen blocks finds same told sent_told sends.sent sends.fetches (pieces_lie (state_of seen) finds.meta finds.kept) timed is in
      goes_by t old mid new (Some it) last arg body kept h stays (head ++ sends.sent) (as_whole t old new h.asked (head ++ sends.sent) finds.meta tells)
      (wrote_of held sink_faults a b mid new of (head ++ sends.sent) sends.wrote) (not last) refl
  serves_content held sink_faults a b of at close head rev count seen blocks faults finds same later stays timed is few (Err end) sends off cause =
      let tells = content_as at close head rev count seen blocks finds same (broken_off off.count) (sent_off off.count) off.sent off.fetches
      (first_lie (state_of seen) finds.meta off.count finds.kept) timed is in
      broken_off_by t old mid new (Some it) last arg body kept h stays (head ++ off.sent) tells.tells off.count tells.kind_is finds.meta tells.asks
      off.part off.some (wrote_of held sink_faults a b mid new of off.part off.wrote)
      (few_before t old mid new (Some it) last arg body kept h few) end off.fewer
      (cause_since end mid.port_faults faults new.port_faults mid.write_faults new.write_faults later cause)

  -- ---- the disk failed as its command was to enter

  none_of : (a b : List Cmd) → a ≡ [] → b ≡ [] → a ++ b ≡ []
  none_of a b e f = ap (λ l. l ++ b) e ∙ f

  pub serve_stuck : (at : ℕ) → IfSome t.second (λ s. at ≡ s)
      → IsStuck t.alone mid.number at mid.seen new.seen mid.blocks new.blocks mid.waits new.waits wanted
      → new.given ≡ mid.given → new.left ≡ mid.left → new.held ≡ mid.held → new.number ≡ mid.number → Rose mid.port_faults new.port_faults → old.count < 1000000
      → Served t old new DiskFault
  serve_stuck at timed stuck given left held number rose few =
      let turn = turn_at at stuck.others [] told [] in
      let there = state_mid (desk t old) old.seen mid.seen h.asked h.passes.others it h.passes.grown h.known in
      let O : State → Type 0 = λ s. Leaves mid.waits (cmd_with mid.number at s stuck.act stuck.bytes ∷ []) new.waits in
      let P : ℕ → Type 0 = λ n. Leaves mid.waits (cmd_with n at (state_after (first old) h.passes.others) stuck.act stuck.bytes ∷ []) new.waits in
      let Q : List Cmd → Type 0 = λ l. Leaves l (cmd_with old.number at (state_after (first old) h.passes.others) stuck.act stuck.bytes ∷ []) new.waits in
      let R : ℕ → Type 0 = λ n. Rose n new.port_faults in
      let T : State → Type 0 = λ s. KeepsPieces s mid.blocks new.blocks in
      let U : Option (List ℕ) → Type 0 = λ o. KeepsPieces (first old) o new.blocks in
      serve_none DiskFault t old new h.bytes (interim_of h.asked.head) (h.passes.others ++ stuck.others) (given ∙ h.passes.gave)
      (h.passes.took ∙ ap (λ o. prepend_known h.bytes o) (sym left)) (held ∙ h.passes.wrote)
      (stuck.grown ∙ ap (λ k. with_more k stuck.others) h.passes.grown ∙ with_more_more old.seen h.passes.others stuck.others)
      (number ∙ h.passes.number) (λ other. absurd (other refl)) (λ a. none_of h.passes.others stuck.others (h.passes.mine a) (stuck.mine a))
      (λ a. subst U h.passes.blocks (subst T (state_still a) (stuck.below a))) few (
        inl (
          refl,
          record {
            turn = turn;
            act = stuck.act;
            bytes = stuck.bytes;
            after = mid.unread;
            begins = h.begins;
            is = record { timed = timed; mine = λ a. (h.passes.mine a, stuck.mine a, refl) };
            entered = refl;
            wanted = decision_same (desk t old) old.seen mid.seen h.asked h.passes.others it h.passes.grown h.known at stuck.others [] told []
                ∙ sym asked_for ∙ stuck.wanted;
            wrote = refl;
            left = subst Q h.passes.waits (subst P h.passes.number (subst O there stuck.left));
          },
        ),
        subst R h.passes.port_faults rose,
      )
