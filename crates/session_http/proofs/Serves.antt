-- What a connection did from a moment on, said of it from its start.
use Rattle.std.proofs.Common.{◌≡◌, ◌≢◌, ℕ, ◌+◌, ◌<◌, ◌≤◌, List, [], ◌∷◌, ◌++◌, All, length, refl, sym, ◌∙◌, ap, subst, append_assoc, append-nil, arith, length-append, inl, inr, ◌⊎◌, Bool, true, false, IsTrue}
use Rattle.std.proofs.lemmas.List.Elements.{All-append, All-cons}
use Rattle.std.proofs.Math.Nat.{add-zero}
use Rattle.std.specs.Io.KnownBytes.{IsAtEnd, append_known, prepend_known}
use Rattle.fh_model.specs.declared.commands.Cmd.{Cmd}
use Rattle.fh_model.specs.History.{state_after, with_more}
use Rattle.fh_model.specs.State.{State}
use Rattle.host_seat.specs.Port.{KeepsPieces, Leaves}
use Rattle.host_seat.proofs.PortLaws.{keeps_same, leaves_more}
use Rattle.http_in.specs.Bodies.{done}
use Rattle.http_in.specs.Requests.{BeginsWithBody}
use Rattle.session_rules.specs.Asked.{asks_last}
use Rattle.session_rules.specs.Connection.{Desk, Turn, cmd_with, decision, gained_in, text_in, texts}
use Rattle.session_http.specs.Begun.{stay}
use Rattle.session_http.specs.Talk.{Terms, Moment, IsTurn, IsWhole, Stored, Talk, desk, first, added, state_behind, replies, replies_behind}
use Rattle.session_http.specs.Ends.{AsksBehind, GoOn, EndsLast, IsBrokenOff, IsPart, IsWritten, IsStopped, EndsBy, Served}
use Rattle.session_http.specs.Steps.{Turned, StopsBy, Stops}
use Rattle.session_http.specs.declared.conn.ConnEnd.{ConnEnd}
use Rattle.session_http.specs.declared.conn.ConnEnd.TheVariants.{Ended, Cut, Bad, ReadFault, WriteFault, DiskFault, NoMemory, Spent}
use Rattle.session_http.proofs.Begun.{begins_one}
use Rattle.session_http.proofs.Talks.{at_most, below_nothing, talk_starts, talk_on, state_on, same_desk, replies_on, rose_since, stored_idle, stored_more}

-- the talk so far, where all requests that were read are answered, and none asked that the connection end
pub record SoFar (t : Terms) (before now : Moment) : Type 0 where
  pub turns : List Turn
  pub talk : Talk t before now turns [] now.unread (replies t before turns)
  pub stored : Stored t before now turns
  pub whole : All (λ turn. IsWhole turn.kind) turns
  pub counted : now.count ≡ before.count + length turns
  pub waits : Leaves before.waits [] now.waits
  pub going : GoOn turns
  pub port_later : before.port_faults ≤ now.port_faults
  pub read_later : before.read_faults ≤ now.read_faults
  pub write_later : before.write_faults ≤ now.write_faults

pub so_far_starts : (t : Terms) (m : Moment) → SoFar t m m
so_far_starts t m = record {
  turns = [];
  talk = talk_starts t m;
  stored = stored_idle t m m (λ _. keeps_same (first m) m.blocks m.blocks refl);
  whole = λ k d h. absurd (below_nothing k h);
  counted = sym (add-zero m.count);
  waits = inl refl;
  going = λ k d h. absurd (below_nothing k h);
  port_later = omega arith;
  read_later = omega arith;
  write_later = omega arith;
}

module _ (t : Terms) (before mid now : Moment) (so : SoFar t before mid) where
  last_on : (answered : List Turn) → EndsLast answered → EndsLast (so.turns ++ answered)
  last_on answered h = (
    so.turns ++ h.0,
    h.1,
    ap (λ (l : List Turn). so.turns ++ l) h.2 ∙ sym (append_assoc so.turns h.0 (h.1 ∷ [])),
    All-append (λ turn. asks_last turn.asked.head ≡ false) so.turns h.0 so.going h.3,
    h.4,
  )

  number_on : (n k m a b c : ℕ) → m ≡ n + k → c ≡ k + a → m + 1 + a ≡ n + 1 + c
  number_on n k m a b c e f = omega (arith, e, f)

  text_on : (answered broken : List Turn) → replies_behind t mid answered broken ≡ replies_behind t before (so.turns ++ answered) broken
  text_on answered broken =
      ap (λ d. texts d (state_behind t mid answered) (mid.count + 1 + length answered) broken) (same_desk t before mid so.turns (replies t before so.turns) so.talk)
      ∙ ap (λ s. texts (desk t before) s (mid.count + 1 + length answered) broken) (state_on t before mid so.turns (replies t before so.turns) so.talk answered)
      ∙ ap (λ k. texts (desk t before) (state_behind t before (so.turns ++ answered)) k broken)
      (number_on before.count (length so.turns) mid.count (length answered) 0 (length (so.turns ++ answered)) so.counted (length-append so.turns answered))

  written_on : (answered broken : List Turn) (rest text : List ℕ) → IsWritten t mid answered broken rest text → IsWritten t before (so.turns ++ answered) broken rest text
  written_on answered broken rest text (inl e) = inl (e ∙ text_on answered broken)
  written_on answered broken rest text (inr h) = inr h

  stopped_on : (answered : List Turn) (behind : List Cmd) (rest part : List ℕ) → IsStopped t mid now answered behind rest part
      → IsStopped t before now (so.turns ++ answered) behind rest part
  stopped_on answered behind rest part h =
      let here = state_after (state_behind t mid answered) h.turn.others in
      let P : ℕ → Type 0 = λ n. Leaves mid.waits (cmd_with n h.turn.at here h.act h.bytes ∷ []) now.waits in
      let Q : State → Type 0 = λ s. Leaves mid.waits (cmd_with before.number h.turn.at (state_after s h.turn.others) h.act h.bytes ∷ []) now.waits in
      let there = state_on t before mid so.turns (replies t before so.turns) so.talk answered in
      record {
        turn = h.turn;
        act = h.act;
        bytes = h.bytes;
        after = h.after;
        begins = h.begins;
        is = h.is;
        entered = h.entered;
        wanted = ap (λ d. decision d (state_behind t before (so.turns ++ answered)) h.turn) (sym (same_desk t before mid so.turns (replies t before so.turns) so.talk))
            ∙ ap (λ s. decision (desk t mid) s h.turn) (sym (state_on t before mid so.turns (replies t before so.turns) so.talk answered))
            ∙ h.wanted;
        wrote = h.wrote;
        left = leaves_more before.waits mid.waits now.waits
            (cmd_with before.number h.turn.at (state_after (state_behind t before (so.turns ++ answered)) h.turn.others) h.act h.bytes ∷ []) so.waits
            (subst Q there (subst P so.talk.number h.left));
      }

  broken_off_on : (answered broken : List Turn) (part : List ℕ) → IsBrokenOff t mid answered broken part → IsBrokenOff t before (so.turns ++ answered) broken part
  broken_off_on answered broken part h =
      let P : List ℕ → Type 0 = λ text. IsPart text part in
      let D : Desk → Type 0 = λ d. AsksBehind d (state_behind t mid answered) h.turn h.meta in
      let S : State → Type 0 = λ s. AsksBehind (desk t before) s h.turn h.meta in
      record {
        turn = h.turn;
        meta = h.meta;
        count = h.count;
        is = h.is;
        off = h.off;
        asks = subst S (state_on t before mid so.turns (replies t before so.turns) so.talk answered)
            (subst D (same_desk t before mid so.turns (replies t before so.turns) so.talk) h.asks);
        fewer = h.fewer;
        some = subst P (text_on answered broken) h.some;
      }

  total_on : (n k m a c max : ℕ) → m ≡ n + k → c ≡ k + a → m + a ≡ max → n + c ≡ max
  total_on n k m a c max e f g = omega (arith, e, f, g)

  few_on : (n k m a c max : ℕ) → m ≡ n + k → c ≡ k + a → m + a < max → n + c < max
  few_on n k m a c max e f g = omega (arith, e, f, g)

  over_on : (answered : List Turn) (rest : List ℕ) → (((rest ≡ []) × IsAtEnd now.left) ⊎ EndsLast answered)
      → ((rest ≡ []) × IsAtEnd now.left) ⊎ EndsLast (so.turns ++ answered)
  over_on answered rest (inl over) = inl over
  over_on answered rest (inr last) = inr (last_on answered last)

  ends_on : (end : ConnEnd) (answered broken : List Turn) (behind : List Cmd) (rest part : List ℕ) → EndsBy end t mid now answered broken behind rest part
      → EndsBy end t before now (so.turns ++ answered) broken behind rest part
  ends_on Ended answered broken behind rest part h = (h.0, h.1, h.2, over_on answered rest h.3)
  ends_on Cut answered broken behind rest part h = h
  ends_on Bad answered broken behind rest part h = h
  ends_on ReadFault answered broken behind rest part h = (h.0, h.1, rose_since before.read_faults mid.read_faults now.read_faults so.read_later h.2)
  ends_on WriteFault answered broken behind rest part h =
      (h.0, written_on answered broken rest h.0 h.1, h.2, rose_since before.write_faults mid.write_faults now.write_faults so.write_later h.3)
  ends_on DiskFault answered broken behind rest part (inl stopped, rose) =
      (inl (stopped.0, stopped_on answered behind rest part stopped.1), rose_since before.port_faults mid.port_faults now.port_faults so.port_later rose)
  ends_on DiskFault answered broken behind rest part (inr off, rose) = (
    inr (broken_off_on answered broken part off.0, leaves_more before.waits mid.waits now.waits [] so.waits off.1),
    rose_since before.port_faults mid.port_faults now.port_faults so.port_later rose,
  )
  ends_on NoMemory answered broken behind rest part (inl h) = inl h
  ends_on NoMemory answered broken behind rest part (inr off) = inr (broken_off_on answered broken part off)
  ends_on Spent answered broken behind rest part h =
      (h.0, h.1, h.2, total_on before.count (length so.turns) mid.count (length answered) (length (so.turns ++ answered)) _ so.counted (length-append so.turns answered) h.3)

  going_on : (end : ConnEnd) (answered : List Turn) → (GoOn answered ⊎ (EndsLast answered × ((end ≡ Ended) ⊎ (end ≡ Spent))))
      → GoOn (so.turns ++ answered) ⊎ (EndsLast (so.turns ++ answered) × ((end ≡ Ended) ⊎ (end ≡ Spent)))
  going_on end answered (inl all) = inl (All-append (λ turn. asks_last turn.asked.head ≡ false) so.turns answered so.going all)
  going_on end answered (inr last) = inr (last_on answered last.0, last.1)

  -- what was done from the middle on is what was done from the start on
  pub served_on : (end : ConnEnd) → Served t mid now end → Served t before now end
  served_on end h =
      let first = replies t before so.turns in
      let all = talk_on t before mid so.turns first so.talk now (h.answered ++ h.broken) h.behind h.rest (replies t mid h.answered ++ h.part) h.talk in
      let P : List Turn → Type 0 = λ l. Talk t before now l h.behind h.rest (first ++ (replies t mid h.answered ++ h.part)) in
      let Q : List ℕ → Type 0 = λ x. Talk t before now ((so.turns ++ h.answered) ++ h.broken) h.behind h.rest x in
      let R : List Turn → Type 0 = λ l. Stored t before now l in
      record {
        answered = so.turns ++ h.answered;
        broken = h.broken;
        behind = h.behind;
        rest = h.rest;
        part = h.part;
        talk = subst Q (sym (append_assoc first (replies t mid h.answered) h.part)
            ∙ ap (λ l. l ++ h.part) (sym (replies_on t before mid so.turns first so.talk so.counted h.answered)))
            (subst P (sym (append_assoc so.turns h.answered h.broken)) all);
        stored = subst R (sym (append_assoc so.turns h.answered h.broken))
            (stored_more t before mid so.turns first so.talk so.stored now (h.answered ++ h.broken) h.talk.each h.stored);
        whole = All-append (λ turn. IsWhole turn.kind) so.turns h.answered so.whole h.whole;
        one = h.one;
        few = λ other. few_on before.count (length so.turns) mid.count (length h.answered) (length (so.turns ++ h.answered)) _ so.counted
            (length-append so.turns h.answered) (h.few other);
        going = going_on end h.answered h.going;
        mine = h.mine;
        waits = λ other. leaves_more before.waits mid.waits now.waits [] so.waits (h.waits other);
        ends = ends_on end h.answered h.broken h.behind h.rest h.part h.ends;
      }

one_later : (n k m c : ℕ) → m ≡ n + k → c ≡ k + 1 → m + 1 ≡ n + c
one_later n k m c e f = omega (arith, e, f)

module _ (t : Terms) (before mid now : Moment) (so : SoFar t before mid) (turn : Turn) (h : Turned t mid now turn) (counted : now.count ≡ mid.count + 1) where
  -- the talk behind it
  pub talk_turned : Talk t before now (so.turns ++ turn ∷ []) [] now.unread (replies t before (so.turns ++ turn ∷ []))
  talk_turned =
      let first = replies t before so.turns in
      let P : List ℕ → Type 0 = λ x. Talk t before now (so.turns ++ turn ∷ []) [] now.unread x in
      subst P (sym (replies_on t before mid so.turns first so.talk so.counted (turn ∷ [])))
      (talk_on t before mid so.turns first so.talk now (turn ∷ []) [] now.unread (replies t mid (turn ∷ [])) h.talk)

  pub counted_turned : now.count ≡ before.count + length (so.turns ++ turn ∷ [])
  counted_turned =
      counted ∙ one_later before.count (length so.turns) mid.count (length (so.turns ++ turn ∷ [])) so.counted (length-append so.turns (turn ∷ []))

  pub stored_turned : Stored t before now (so.turns ++ turn ∷ [])
  stored_turned = stored_more t before mid so.turns (replies t before so.turns) so.talk so.stored now (turn ∷ []) h.talk.each h.stored

  pub whole_turned : All (λ u. IsWhole u.kind) (so.turns ++ turn ∷ [])
  whole_turned =
      All-append (λ u. IsWhole u.kind) so.turns (turn ∷ []) so.whole (All-cons (λ u. IsWhole u.kind) turn [] h.whole (λ k d l. absurd (below_nothing k l)))

  pub one_going : asks_last turn.asked.head ≡ false → GoOn (turn ∷ [])
  one_going goes = All-cons (λ u. asks_last u.asked.head ≡ false) turn [] goes (λ k d l. absurd (below_nothing k l))

  -- it did not ask that the connection end
  pub so_far_on : asks_last turn.asked.head ≡ false → SoFar t before now
  so_far_on goes = record {
    turns = so.turns ++ turn ∷ [];
    talk = talk_turned;
    stored = stored_turned;
    whole = whole_turned;
    counted = counted_turned;
    waits = leaves_more before.waits mid.waits now.waits [] so.waits h.waits;
    going = All-append (λ u. asks_last u.asked.head ≡ false) so.turns (turn ∷ []) so.going (one_going goes);
    port_later = at_most before.port_faults mid.port_faults now.port_faults so.port_later h.port_later;
    read_later = at_most before.read_faults mid.read_faults now.read_faults so.read_later h.read_later;
    write_later = at_most before.write_faults mid.write_faults now.write_faults so.write_later h.write_later;
  }

-- ---- the ends behind a whole request

nothing_le_one : 0 ≤ 1
nothing_le_one = omega arith

one_le_one : 1 ≤ 1
one_le_one = omega arith

whole : (t : Terms) (before now : Moment) (turns : List Turn) → Talk t before now turns [] now.unread (replies t before turns)
    → Talk t before now (turns ++ []) [] now.unread (replies t before turns ++ [])
whole t before now turns h =
    let P : List Turn → Type 0 = λ l. Talk t before now l [] now.unread (replies t before turns ++ []) in
    let Q : List ℕ → Type 0 = λ l. Talk t before now turns [] now.unread l in
    subst P (sym (append-nil turns)) (subst Q (sym (append-nil (replies t before turns))) h)

-- a connection whose requests are all answered, as it ends by the number of them, or by the last one's asking
serve_whole : (end : ConnEnd) (t : Terms) (before now : Moment) (turns : List Turn) → Talk t before now turns [] now.unread (replies t before turns)
    → Stored t before now turns → All (λ turn. IsWhole turn.kind) turns → Leaves before.waits [] now.waits → (end ≢ Spent → before.count + length turns < 1000000)
    → (GoOn turns ⊎ (EndsLast turns × ((end ≡ Ended) ⊎ (end ≡ Spent)))) → EndsBy end t before now turns [] [] now.unread [] → Served t before now end
serve_whole end t before now turns h stored all waits few going ends = record {
  answered = turns;
  broken = [];
  behind = [];
  rest = now.unread;
  part = [];
  talk = whole t before now turns h;
  stored = subst (λ (l : List Turn). Stored t before now l) (sym (append-nil turns)) stored;
  whole = all;
  one = nothing_le_one;
  few = few;
  going = going;
  mine = λ _. refl;
  waits = λ _. waits;
  ends = ends;
}

-- as many requests were answered as a connection may have, and none asked that it end
pub serve_full : (t : Terms) (before now : Moment) → SoFar t before now → now.count ≡ 1000000 → Served t before now Spent
serve_full t before now so full =
    serve_whole Spent t before now so.turns so.talk so.stored so.whole so.waits (λ other. absurd (other refl)) (inl so.going) (refl, refl, refl, sym so.counted ∙ full)

module _ (t : Terms) (before mid now : Moment) (so : SoFar t before mid) (turn : Turn) (h : Turned t mid now turn) (counted : now.count ≡ mid.count + 1) where
  waits_turned : Leaves before.waits [] now.waits
  waits_turned = leaves_more before.waits mid.waits now.waits [] so.waits h.waits

  last_turned : asks_last turn.asked.head ≡ true → EndsLast (so.turns ++ turn ∷ [])
  last_turned asked = (so.turns, turn, refl, so.going, asked)

  -- the last request asked that the connection end
  pub serve_last : asks_last turn.asked.head ≡ true → now.count < 1000000 → Served t before now Ended
  serve_last asked few =
      let turns = so.turns ++ turn ∷ [] in
      let number = counted_turned t before mid now so turn h counted in
      let P : ℕ → Type 0 = λ n. n < 1000000 in
      serve_whole Ended t before now turns (talk_turned t before mid now so turn h counted) (stored_turned t before mid now so turn h counted)
      (whole_turned t before mid now so turn h counted) waits_turned (λ _. subst P number few)
      (inr (last_turned asked, inl refl)) (refl, refl, refl, inr (last_turned asked))

  spent_going : (asked : Bool) → asks_last turn.asked.head ≡ asked
      → GoOn (so.turns ++ turn ∷ []) ⊎ (EndsLast (so.turns ++ turn ∷ []) × ((Spent ≡ Ended) ⊎ (Spent ≡ Spent)))
  spent_going false is = inl (All-append (λ u. asks_last u.asked.head ≡ false) so.turns (turn ∷ []) so.going (one_going t before mid now so turn h counted is))
  spent_going true is = inr (last_turned is, inr refl)

  -- it was the last that a connection may have
  pub serve_spent : now.count ≡ 1000000 → Served t before now Spent
  serve_spent full =
      let turns = so.turns ++ turn ∷ [] in
      let number = counted_turned t before mid now so turn h counted in
      serve_whole Spent t before now turns (talk_turned t before mid now so turn h counted) (stored_turned t before mid now so turn h counted)
      (whole_turned t before mid now so turn h counted) waits_turned (λ other. absurd (other refl))
      (spent_going (asks_last turn.asked.head) refl) (refl, refl, refl, sym number ∙ full)

-- ---- one request, from the moment before it on

count_on : (n m : ℕ) → n < m → n + 0 < m
count_on n m l = omega (arith, l)

-- it was not answered
pub serve_none : (end : ConnEnd) (t : Terms) (old new : Moment) (bytes part : List ℕ) (behind : List Cmd)
    → new.given ≡ append_known old.given bytes → old.left ≡ prepend_known bytes new.left → new.held ≡ append_known old.held part
    → new.seen ≡ with_more old.seen behind → new.number ≡ old.number → (end ≢ DiskFault → Leaves old.waits [] new.waits)
    → (IsTrue t.alone → behind ≡ []) → (IsTrue t.alone → KeepsPieces (first old) old.blocks new.blocks) → old.count < 1000000
    → EndsBy end t old new [] [] behind (old.unread ++ bytes) part → Served t old new end
serve_none end t old new bytes part behind gave took wrote history number waits mine keeps few ends = record {
  answered = [];
  broken = [];
  behind = behind;
  rest = old.unread ++ bytes;
  part = part;
  talk = record {
    bytes = bytes;
    begins = stay (old.unread ++ bytes);
    gave = gave;
    took = took;
    wrote = wrote;
    history = history;
    number = number;
    each = λ k d l. absurd (below_nothing k l);
  };
  stored = stored_idle t old new keeps;
  whole = λ k d l. absurd (below_nothing k l);
  one = nothing_le_one;
  few = λ _. count_on old.count 1000000 few;
  going = inl (λ k d l. absurd (below_nothing k l));
  mine = mine;
  waits = waits;
  ends = ends;
}

stop_ends : (end : ConnEnd) (t : Terms) (old new : Moment) (others : List Cmd) (rest part : List ℕ) → StopsBy end others rest part old new
    → EndsBy end t old new [] [] others rest part
stop_ends Ended t old new others rest part h = (refl, h.0, h.2, inl (h.1, h.3))
stop_ends Cut t old new others rest part h = (refl, h.0, h.1)
stop_ends Bad t old new others rest part h = (refl, h)
stop_ends ReadFault t old new others rest part h = (refl, h.0, h.1)
stop_ends WriteFault t old new others rest part h = (h.0, inr (refl, h.1), h.2, h.3)
stop_ends NoMemory t old new others rest part h = inl (refl, inl h)
stop_ends DiskFault t old new others rest part h = absurd h
stop_ends Spent t old new others rest part h = absurd h

-- no whole request was read
pub serve_stopped : (end : ConnEnd) (t : Terms) (old new : Moment) → Stops t old new end → old.count < 1000000 → Served t old new end
serve_stopped end t old new h few =
    let passes = h.passes in
    serve_none end t old new h.bytes h.part passes.others passes.gave passes.took passes.wrote passes.grown passes.number (λ _. inl passes.waits) passes.mine
    (λ _. keeps_same (first old) old.blocks new.blocks passes.blocks) few
    (stop_ends end t old new passes.others (old.unread ++ h.bytes) h.part h.stops)

module _ (t : Terms) (old new : Moment) (turn : Turn) (bytes : List ℕ) (begins : BeginsWithBody (old.unread ++ bytes) turn.asked (done new.unread))
    (gave : new.given ≡ append_known old.given bytes) (took : old.left ≡ prepend_known bytes new.left)
    (history : new.seen ≡ with_more old.seen (gained_in (desk t old) (first old) turn)) (number : new.number ≡ old.number) (is : IsTurn t turn)
    (stored : Stored t old new (turn ∷ [])) (waits : Leaves old.waits [] new.waits) where
  talk_one : (text : List ℕ) → new.held ≡ append_known old.held text → Talk t old new (turn ∷ []) [] new.unread text
  talk_one text wrote = record {
    bytes = bytes;
    begins = begins_one (old.unread ++ bytes) new.unread turn.asked begins;
    gave = gave;
    took = took;
    wrote = wrote;
    history = history ∙ ap (with_more old.seen) (sym (append-nil (gained_in (desk t old) (first old) turn)) ∙ sym (append-nil (added t old (turn ∷ []))));
    number = number;
    each = All-cons (IsTurn t) turn [] is (λ k d l. absurd (below_nothing k l));
  }

  one_text : (text : List ℕ) → text ≡ text_in (desk t old) (first old) (old.count + 1) turn → text ≡ replies t old (turn ∷ [])
  one_text text told = told ∙ sym (append-nil (text_in (desk t old) (first old) (old.count + 1) turn))

  -- the text of its reply, as that of a reply which may not be written whole
  pub text_behind : (text : List ℕ) → text ≡ text_in (desk t old) (first old) (old.count + 1) turn → text ≡ replies_behind t old [] (turn ∷ [])
  text_behind text told = one_text text told ∙ ap (λ n. texts (desk t old) (first old) n (turn ∷ [])) (sym (add-zero (old.count + 1)))

  -- it was answered
  pub turned : (text : List ℕ) → new.held ≡ append_known old.held text → text ≡ text_in (desk t old) (first old) (old.count + 1) turn → IsWhole turn.kind
      → old.port_faults ≤ new.port_faults → old.read_faults ≤ new.read_faults → old.write_faults ≤ new.write_faults → Turned t old new turn
  turned text wrote told all port_later read_later write_later =
      let P : List ℕ → Type 0 = λ x. Talk t old new (turn ∷ []) [] new.unread x in
      record {
        talk = subst P (one_text text told) (talk_one text wrote);
        stored = stored;
        whole = all;
        waits = waits;
        port_later = port_later;
        read_later = read_later;
        write_later = write_later;
      }

  -- its reply was not written whole
  pub serve_broken : (end : ConnEnd) (part : List ℕ) → new.held ≡ append_known old.held part → EndsBy end t old new [] (turn ∷ []) [] new.unread part
      → old.count < 1000000 → Served t old new end
  serve_broken end part wrote ends few = record {
    answered = [];
    broken = turn ∷ [];
    behind = [];
    rest = new.unread;
    part = part;
    talk = talk_one part wrote;
    stored = stored;
    whole = λ k d l. absurd (below_nothing k l);
    one = one_le_one;
    few = λ _. count_on old.count 1000000 few;
    going = inl (λ k d l. absurd (below_nothing k l));
    mine = λ _. refl;
    waits = λ _. waits;
    ends = ends;
  }
