-- Where no fault rose, the end of a connection is the one that its input spells, or memory was wanting. Bytes that end in a
-- request target whose text is broken may be cut or bad.
use Rattle.std.proofs.Common.{◌≡◌, ℕ, ◌+◌, ◌≤◌, ◌<◌, List, [], ◌∷◌, ◌++◌, length, if◌then◌else◌, Option, None, Some, refl, sym, ◌∙◌, ap, subst, append-nil, arith, length-append, inl, inr, ◌⊎◌, Bool, true, false}
use Rattle.std.proofs.lemmas.List.{length-take}
use Rattle.std.proofs.lemmas.List.Elements.{All-head, All-tail}
use Rattle.std.specs.Io.KnownBytes.{IsAtEnd, prepend_known}
use Rattle.fh_world.specs.Causes.{Rose}
use Rattle.httparse.specs.Grammar.{EndsInTarget, print_blank}
use Rattle.fh_model.specs.declared.commands.Cmd.{Cmd}
use Rattle.http_in.specs.Framing.{IsMisframed}
use Rattle.http_in.specs.Heads.{judged, IsBad, IsOpenTarget}
use Rattle.http_in.specs.Requests.{Request, Requests, none, more, Final, at_end, is_cut, is_bad, is_over, EndsAs}
use Rattle.http_in.proofs.MoreBytes.{ends_more}
use Rattle.http_in.specs.Unique.{IsSettled}
use Rattle.http_in.proofs.OneReading.{one_request, done_or_ends, one_reading_holds}
use Rattle.session_rules.specs.Asked.{asks_last}
use Rattle.session_rules.specs.Connection.{Turn}
use Rattle.session_rules.specs.Replies.{Said}
use Rattle.session_http.specs.Begun.{Begins, stay, step, IsBadHead, IsCutShort, IsRefused}
use Rattle.session_http.specs.Ends.{GoOn, EndsLast, Served}
use Rattle.session_http.specs.Spell.{end_of, ending_of, heeded, Spells}
use Rattle.session_http.specs.Talk.{Terms, Moment, Talk, requests}
use Rattle.session_http.specs.declared.conn.ConnEnd.{ConnEnd}
use Rattle.session_http.specs.declared.conn.ConnEnd.TheVariants.{Ended, Cut, Bad, ReadFault, WriteFault, DiskFault, NoMemory, Spent}
use Rattle.session_http.proofs.Begun.{begins_more}

known_split : (o : Option (List ℕ)) (x y : List ℕ) → Some y ≡ prepend_known x o → (l : List ℕ) × (o ≡ Some l) × (y ≡ x ++ l)
known_split None x y e = cc
known_split (Some l) x y e = (l, refl, cc)

at_end_nil : (o : Option (List ℕ)) (l : List ℕ) → o ≡ Some l → IsAtEnd o → l ≡ []
at_end_nil None l e h = cc
at_end_nil (Some x) l e h = let s : x ≡ l = cc in sym s ∙ h

-- ---- the requests that were read stand at the front of those that were sent

-- those that were sent behind them
pub record Sent (rest : List ℕ) (read sent : List Request) (left : List ℕ) (e : Final) : Type 0 where
  pub later : List Request
  pub all : sent ≡ read ++ later
  pub splits : Requests rest later left e

pub sent_behind : (bytes rest left : List ℕ) (read sent : List Request) (e : Final) → Begins bytes read rest → Requests bytes sent left e → Sent rest read sent left e
sent_behind _ _ left _ sent e (stay bytes) splits = record { later = sent; all = refl; splits = splits }
sent_behind _ _ _ _ _ _ (step bytes after rest r rs begins next) (none _ e ends) = absurd (done_or_ends bytes after r e begins ends)
sent_behind _ _ _ _ _ _ (step bytes after rest r rs begins next) (more _ after' left q qs e begins' next') =
    let same = one_request bytes after after' r q begins begins' in
    let P : List ℕ → Type 0 = λ b. Requests b qs left e in
    let found = sent_behind after rest left rs qs e next (subst P (sym same.1) next') in
    record {
      later = found.later;
      all = ap (λ (h : Request). h ∷ qs) (sym same.0) ∙ ap (λ (t : List Request). r ∷ t) found.all;
      splits = found.splits;
    }

pub front : (t : Terms) (before now : Moment) (turns : List Turn) (behind : List Cmd) (rest text all : List ℕ) → Talk t before now turns behind rest text
    → before.unread ≡ [] → before.left ≡ Some all → (l : List ℕ) × (now.left ≡ Some l) × Begins all (requests turns) (rest ++ l)
front t before now turns behind rest text all h new is =
    let k = known_split now.left h.bytes all (sym is ∙ h.took) in
    let P : List ℕ → Type 0 = λ b. Begins b (requests turns) (rest ++ k.0) in
    let same : (before.unread ++ h.bytes) ++ k.0 ≡ all = ap (λ (u : List ℕ). (u ++ h.bytes) ++ k.0) new ∙ sym k.2 in
    (k.0, k.1, subst P same (begins_more (before.unread ++ h.bytes) rest k.0 (requests turns) h.begins))

-- ---- by who asks that the connection end

if_not : {X : Type 0} (b : Bool) (x y : X) → b ≡ false → (if b then x else y) ≡ y
if_not false x y e = refl
if_not true x y e = cc

if_so : {X : Type 0} (b : Bool) (x y : X) → b ≡ true → (if b then x else y) ≡ x
if_so true x y e = refl
if_so false x y e = cc

-- those that don't ask are passed over
ending_goes : (turns : List Turn) (later : List Request) (e : Final) → GoOn turns → ending_of (requests turns ++ later) e ≡ ending_of later e
ending_goes [] later e h = refl
ending_goes (turn ∷ turns) later e h =
    if_not (asks_last turn.asked.head) Ended (ending_of (requests turns ++ later) e) (All-head (λ u. asks_last u.asked.head ≡ false) turn turns h)
    ∙ ending_goes turns later e (All-tail (λ u. asks_last u.asked.head ≡ false) turn turns h)

heeded_goes : (turns : List Turn) (later : List Request) → GoOn turns → length turns ≤ length (heeded (requests turns ++ later))
heeded_goes [] later h = omega arith
heeded_goes (turn ∷ turns) later h =
    let tail = heeded_goes turns later (All-tail (λ u. asks_last u.asked.head ≡ false) turn turns h) in
    let same = if_not (asks_last turn.asked.head) [] (heeded (requests turns ++ later)) (All-head (λ u. asks_last u.asked.head ≡ false) turn turns h) in
    omega (arith, tail, ap length same)

-- and the one that asks is the last that is heeded
ending_last : (turns : List Turn) (later : List Request) (e : Final) → EndsLast turns → ending_of (requests turns ++ later) e ≡ Ended
ending_last turns later e h = ap (λ (l : List Turn). ending_of (requests l ++ later) e) h.2 ∙ go h.0 h.3 where
  go : (earlier : List Turn) → GoOn earlier → ending_of (requests (earlier ++ h.1 ∷ []) ++ later) e ≡ Ended
  go [] g = if_so (asks_last h.1.asked.head) Ended (ending_of later e) h.4
  go (turn ∷ earlier) g =
      if_not (asks_last turn.asked.head) Ended (ending_of (requests (earlier ++ h.1 ∷ []) ++ later) e) (All-head (λ u. asks_last u.asked.head ≡ false) turn earlier g)
      ∙ go earlier (All-tail (λ u. asks_last u.asked.head ≡ false) turn earlier g)

heeded_last : (turns : List Turn) (later : List Request) → EndsLast turns → length turns ≤ length (heeded (requests turns ++ later))
heeded_last turns later h =
    let P : List Turn → Type 0 = λ l. length l ≤ length (heeded (requests l ++ later)) in
    subst P (sym h.2) (go h.0 h.3) where
      go : (earlier : List Turn) → GoOn earlier → length (earlier ++ h.1 ∷ []) ≤ length (heeded (requests (earlier ++ h.1 ∷ []) ++ later))
      go [] g = omega arith
      go (turn ∷ earlier) g =
          let tail = go earlier (All-tail (λ u. asks_last u.asked.head ≡ false) turn earlier g) in
          let same = if_not (asks_last turn.asked.head) [] (heeded (requests (earlier ++ h.1 ∷ []) ++ later)) (All-head (λ u. asks_last u.asked.head ≡ false) turn earlier g) in
          omega (arith, tail, ap length same)

-- ---- the endings of what was read behind them

cut_ends : (rest before : List ℕ) → IsCutShort rest before → EndsAs rest is_cut
cut_ends rest before (inl h) = inl h.0
cut_ends rest before (inr h) = inr (h.0, h.1)

bad_heads : (rest before : List ℕ) (it : Said) → IsBadHead rest before it → EndsAs rest is_bad
bad_heads rest before it h = by h.0 where
  by : (IsBad rest ⊎ IsMisframed rest) → EndsAs rest is_bad
  by (inl never) = inl never
  by (inr misframed) = inr (inl misframed)

-- bad, or past a limit
refused_ends : (rest before : List ℕ) (it : Said) → IsRefused rest before it → EndsAs rest is_bad ⊎ EndsAs rest is_over
refused_ends rest before it (inl h) = inl (bad_heads rest before it h)
refused_ends rest before it (inr (inl h)) = inr (inl h.0)
refused_ends rest before it (inr (inr (inl h))) = inl (inr (inr (h.0, h.1)))
refused_ends rest before it (inr (inr (inr h))) = inr (inr (h.0, h.1))

-- whatever follows
settled_more : (rest l : List ℕ) (e : Final) → IsSettled e → EndsAs rest e → EndsAs (rest ++ l) e
settled_more rest l e settled ends = ends_more rest l e settled ends

module _ (t : Terms) (before now : Moment) (ending : ConnEnd) (turns : List Turn) (rest l : List ℕ) (s : Spells before.left ending)
    (b : Sent (rest ++ l) (requests turns) s.sent s.rest s.final) where
  -- all that was sent is read
  by_final : (e : Final) → GoOn turns → EndsAs (rest ++ l) e → (end_of e ≡ ending) ⊎ (IsOpenTarget s.rest × IsOpenTarget (rest ++ l))
  by_final e going ends = settle one.2 where
    one : ([] ≡ b.later) × ((rest ++ l) ≡ s.rest) × ((e ≡ s.final) ⊎ IsOpenTarget (rest ++ l))
    one = one_reading_holds (rest ++ l) [] b.later (rest ++ l) s.rest e s.final (none (rest ++ l) e ends) b.splits

    settle : ((e ≡ s.final) ⊎ IsOpenTarget (rest ++ l)) → (end_of e ≡ ending) ⊎ (IsOpenTarget s.rest × IsOpenTarget (rest ++ l))
    settle (inr apart) = inr (subst IsOpenTarget one.1 apart, apart)
    settle (inl same) =
        inl (ap end_of same ∙ ap (λ (rs : List Request). ending_of rs s.final) one.0 ∙ sym (ending_goes turns b.later s.final going)
        ∙ ap (λ (rs : List Request). ending_of rs s.final) (sym b.all) ∙ sym s.ends)

  by_last : EndsLast turns → Ended ≡ ending
  by_last last = sym (ending_last turns b.later s.final last) ∙ ap (λ (rs : List Request). ending_of rs s.final) (sym b.all) ∙ sym s.ends

  -- there were fewer than a connection may have
  too_few : (GoOn turns ⊎ EndsLast turns) → length turns ≡ 1000000 → ⊥
  too_few (inl going) full = omega (arith, heeded_goes turns b.later going, full, few) where
    few : length (heeded (requests turns ++ b.later)) < 1000000
    few = subst (λ rs. length (heeded rs) < 1000000) b.all s.few
  too_few (inr last) full = omega (arith, heeded_last turns b.later last, full, few) where
    few : length (heeded (requests turns ++ b.later)) < 1000000
    few = subst (λ rs. length (heeded rs) < 1000000) b.all s.few

-- no bytes end in a target
some_target : (bytes : List ℕ) → length bytes ≤ 0 → EndsInTarget bytes → ⊥
some_target bytes few h = omega (arith, few, ap length h.5, length-append (print_blank h.0 ++ h.1) (32 ∷ h.2))

nothing_open : (bytes : List ℕ) → bytes ≡ [] → IsOpenTarget bytes → ⊥
nothing_open bytes empty h = some_target (judged bytes) few h.0 where
  few : length (judged bytes) ≤ 0
  few = rw empty (omega (arith, length-take {A = ℕ}))

not_cut : ((Cut ≡ Ended) ⊎ (Cut ≡ Spent)) → ⊥
not_cut (inl e) = cc
not_cut (inr e) = cc

not_bad : ((Bad ≡ Ended) ⊎ (Bad ≡ Spent)) → ⊥
not_bad (inl e) = cc
not_bad (inr e) = cc

module _ (t : Terms) (before now : Moment) (ending : ConnEnd) (new : before.unread ≡ []) (none_yet : before.count ≡ 0) (s : Spells before.left ending) where
  -- the requests that were answered stand at the front of those that were sent
  sent_for : (end : ConnEnd) → (h : Served t before now end) → h.broken ≡ []
      → (l : List ℕ) × (now.left ≡ Some l) × Sent (h.rest ++ l) (requests h.answered) s.sent s.rest s.final
  sent_for end h whole =
      let f = front t before now (h.answered ++ h.broken) h.behind h.rest _ s.bytes h.talk new s.is in
      let P : List Turn → Type 0 = λ b. Sent (h.rest ++ f.0) (requests b) s.sent s.rest s.final in
      let all = sent_behind s.bytes (h.rest ++ f.0) s.rest (requests (h.answered ++ h.broken)) s.sent s.final f.2 s.splits in
      (f.0, f.1, subst P (ap (λ (b : List Turn). h.answered ++ b) whole ∙ append-nil h.answered) all)

  -- it is the end that was spelled, or memory was wanting; inside a target that may have no text, cut or bad
  abbrev pub Found : ConnEnd → Type 0
  Found end = (end ≡ ending) ⊎ ((end ≡ NoMemory) ⊎ (IsOpenTarget s.rest × ((end ≡ Cut) ⊎ (end ≡ Bad))))

  found : (end : ConnEnd) (bytes : List ℕ) → (end ≡ Cut) ⊎ (end ≡ Bad) → ((end ≡ ending) ⊎ (IsOpenTarget s.rest × IsOpenTarget bytes)) → Found end
  found end bytes apart (inl e) = inl e
  found end bytes apart (inr o) = inr (inr (o.0, apart))

  all_read : (bytes : List ℕ) → bytes ≡ [] → ((Ended ≡ ending) ⊎ (IsOpenTarget s.rest × IsOpenTarget bytes)) → Found Ended
  all_read bytes nil (inl e) = inl e
  all_read bytes nil (inr o) = absurd (nothing_open bytes nil o.1)

  ended : Served t before now Ended → Found Ended
  ended h = by h.ends.3 h.going where
    by : (((h.rest ≡ []) × IsAtEnd now.left) ⊎ EndsLast h.answered) → (GoOn h.answered ⊎ (EndsLast h.answered × ((Ended ≡ Ended) ⊎ (Ended ≡ Spent)))) → Found Ended
    by (inr last) going = let f = sent_for Ended h h.ends.0 in inl (by_last t before now ending h.answered h.rest f.0 s f.2 last)
    by (inl over) (inr last) = let f = sent_for Ended h h.ends.0 in inl (by_last t before now ending h.answered h.rest f.0 s f.2 last.0)
    by (inl over) (inl going) =
        let f = sent_for Ended h h.ends.0 in
        let nil : h.rest ++ f.0 ≡ [] = ap (λ (r : List ℕ). r ++ f.0) over.0 ∙ at_end_nil now.left f.0 f.1 over.1 in
        all_read (h.rest ++ f.0) nil (by_final t before now ending h.answered h.rest f.0 s f.2 at_end going nil)

  cut_short : Served t before now Cut → Found Cut
  cut_short h = by h.going where
    by : (GoOn h.answered ⊎ (EndsLast h.answered × ((Cut ≡ Ended) ⊎ (Cut ≡ Spent)))) → Found Cut
    by (inr last) = absurd (not_cut last.1)
    by (inl going) =
        let f = sent_for Cut h h.ends.0 in
        let P : List ℕ → Type 0 = λ b. EndsAs b is_cut in
        let nil = at_end_nil now.left f.0 f.1 h.ends.2 in
        let same : h.rest ≡ h.rest ++ f.0 = sym (append-nil h.rest) ∙ ap (λ (l : List ℕ). h.rest ++ l) (sym nil) in
        found Cut (h.rest ++ f.0) (inl refl) (by_final t before now ending h.answered h.rest f.0 s f.2 is_cut going (subst P same (cut_ends h.rest h.part h.ends.1)))

  bad_bytes : Served t before now Bad → Found Bad
  bad_bytes h = by h.going (refused_ends h.rest h.ends.1.0 h.ends.1.1 h.ends.1.2) where
    by : (GoOn h.answered ⊎ (EndsLast h.answered × ((Bad ≡ Ended) ⊎ (Bad ≡ Spent)))) → (EndsAs h.rest is_bad ⊎ EndsAs h.rest is_over) → Found Bad
    by (inr last) bad = absurd (not_bad last.1)
    by (inl going) (inl bad) =
        let f = sent_for Bad h h.ends.0 in
        found Bad (h.rest ++ f.0) (inr refl) (by_final t before now ending h.answered h.rest f.0 s f.2 is_bad going (settled_more h.rest f.0 is_bad tt bad))
    by (inl going) (inr over) =
        let f = sent_for Bad h h.ends.0 in
        found Bad (h.rest ++ f.0) (inr refl) (by_final t before now ending h.answered h.rest f.0 s f.2 is_over going (settled_more h.rest f.0 is_over tt over))

  full_of : (n a : ℕ) → n ≡ 0 → n + a ≡ 1000000 → a ≡ 1000000
  full_of n a e f = omega (arith, e, f)

  spent : Served t before now Spent → ⊥
  spent h = by h.going where
    by : (GoOn h.answered ⊎ (EndsLast h.answered × ((Spent ≡ Ended) ⊎ (Spent ≡ Spent)))) → ⊥
    by (inl going) = let f = sent_for Spent h h.ends.0 in too_few t before now ending h.answered h.rest f.0 s f.2 (inl going) (full_of before.count (length h.answered) none_yet h.ends.3)
    by (inr last) = let f = sent_for Spent h h.ends.0 in too_few t before now ending h.answered h.rest f.0 s f.2 (inr last.0) (full_of before.count (length h.answered) none_yet h.ends.3)

  pub complete : (end : ConnEnd) → Served t before now end → (Rose before.read_faults now.read_faults → ⊥) → (Rose before.write_faults now.write_faults → ⊥)
      → (Rose before.port_faults now.port_faults → ⊥) → Found end
  complete Ended h read write port = ended h
  complete Cut h read write port = cut_short h
  complete Bad h read write port = bad_bytes h
  complete ReadFault h read write port = absurd (read h.ends.2)
  complete WriteFault h read write port = absurd (write h.ends.3)
  complete DiskFault h read write port = absurd (port h.ends.1)
  complete NoMemory h read write port = inr (inl refl)
  complete Spent h read write port = absurd (spent h)
