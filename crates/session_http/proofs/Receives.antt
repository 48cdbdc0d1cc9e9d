-- How the steps of reading a request make what it leaves.
use Rattle.std.proofs.Common.{◌≡◌, ℕ, ◌≤◌, List, [], ◌++◌, Option, Bool, true, false, IsTrue, refl, sym, ◌∙◌, ap, subst, arith, inl, inr, option_map}
use Rattle.std.specs.Io.KnownBytes.{append_known, prepend_known}
use Rattle.httparse.specs.Grammar.{RequestHead}
use Rattle.fh_world.specs.declared.sink.Sink as sink
use Rattle.fh_world.specs.declared.source.Source as source
use Rattle.fh_world.specs.Bytes.{Holds, Moves}
use Rattle.fh_world.specs.Causes.{Rose}
use Rattle.fh_model.specs.History.{state_of}
use Rattle.host_seat.specs.declared.view.View as view
use Rattle.http_in.specs.declared.head.Head.{Head}
use Rattle.http_in.specs.declared.heads.Step.TheVariants as step
use Rattle.http_in.specs.Heads.{BeginsWithHead}
use Rattle.http_in.specs.Steps.{HeadCall}
use Rattle.session_rules.specs.Asked.{waits}
use Rattle.session_rules.specs.Connection.{interim_if, interim_of}
use Rattle.session_rules.specs.Decisions.{Called}
use Rattle.session_rules.specs.Replies.{Said, bad_request, head_too_large, interim_text}
use Rattle.session_http.specs.Begun.{IsRefused}
use Rattle.session_http.specs.Ends.{IsLastText}
use Rattle.session_http.specs.Points.{Calls}
use Rattle.session_http.specs.Steps.{Breaks, IsSaid, Opens, Passes, SaysLast, Stops}
use Rattle.session_http.specs.Talk.{Terms, Moment, moment, terms}
use Rattle.session_http.specs.declared.conn.ConnEnd.{ConnEnd}
use Rattle.session_http.specs.declared.conn.ConnEnd.TheVariants.{Ended, Cut, Bad, ReadFault, WriteFault, DiskFault, NoMemory, Spent}
use Rattle.fh_model.proofs.Runs.{with_nothing}
use Rattle.session_http.proofs.Heard.{Beside}
use Rattle.session_http.proofs.Ones.{held_more, at_most_to}
use Rattle.session_http.proofs.Points.{known_same, waits_same}
use Rattle.session_http.proofs.Sends.{part_behind}
use Rattle.session_http.proofs.Talks.{at_most, rose_since, known_none}

-- what a write leaves as it was
pub record Same (mid new : Moment) : Type 0 where
  pub seen : new.seen ≡ mid.seen
  pub waits : new.waits ≡ mid.waits
  pub blocks : new.blocks ≡ mid.blocks
  pub number : new.number ≡ mid.number
  pub count : new.count ≡ mid.count
  pub port_faults : new.port_faults ≡ mid.port_faults
  pub given : new.given ≡ mid.given
  pub left : new.left ≡ mid.left
  pub read_faults : new.read_faults ≡ mid.read_faults

-- more text behind what was written
pub passes_on : (t : Terms) (old mid new : Moment) (bytes before text : List ℕ) → Passes t old mid bytes before → Same mid new
    → new.held ≡ append_known mid.held text → mid.write_faults ≤ new.write_faults → Passes t old new bytes (before ++ text)
passes_on t old mid new bytes before text h same wrote later = record {
  others = h.others;
  gave = same.given ∙ h.gave;
  took = h.took ∙ ap (prepend_known bytes) (sym same.left);
  wrote = held_more old.held before text mid.held new.held h.wrote wrote;
  grown = same.seen ∙ h.grown;
  mine = h.mine;
  waits = same.waits ∙ h.waits;
  blocks = same.blocks ∙ h.blocks;
  number = same.number ∙ h.number;
  count = same.count ∙ h.count;
  port_faults = same.port_faults ∙ h.port_faults;
  read_later = at_most_to old.read_faults mid.read_faults new.read_faults h.read_later same.read_faults;
  write_later = at_most old.write_faults mid.write_faults new.write_faults h.write_later later;
}

-- the moments before and behind a write are those of the sink then
pub record Written {K : Type 0} (held : K → Option (List ℕ)) (faults : K → ℕ) (a b : K) (mid new : Moment) : Type 0 where
  pub same : Same mid new
  pub held_old : mid.held ≡ held a
  pub held_new : new.held ≡ held b
  pub faults_old : mid.write_faults ≡ faults a
  pub faults_new : new.write_faults ≡ faults b
  pub later : faults a ≤ faults b

module _ {K : Type 0} (held : K → Option (List ℕ)) (faults : K → ℕ) (a b : K) (mid new : Moment) (w : Written held faults a b mid new) where
  wrote_by : (text : List ℕ) → held b ≡ append_known (held a) text → new.held ≡ append_known mid.held text
  wrote_by text e = w.held_new ∙ e ∙ ap (λ o. append_known o text) (sym w.held_old)

  later_by : (m n x y : ℕ) → m ≡ x → n ≡ y → x ≤ y → m ≤ n
  later_by m n x y e f l = omega (arith, e, f, l)

  rose_by : (m n x y : ℕ) → m ≡ x → n ≡ y → Rose x y → Rose m n
  rose_by m n x y e f l = omega (arith, e, f, l)

  wrote_later : mid.write_faults ≤ new.write_faults
  wrote_later = later_by mid.write_faults new.write_faults (faults a) (faults b) w.faults_old w.faults_new w.later

  pub passes_written : (t : Terms) (old : Moment) (bytes before text : List ℕ) → Passes t old mid bytes before → held b ≡ append_known (held a) text
      → Passes t old new bytes (before ++ text)
  passes_written t old bytes before text h e = passes_on t old mid new bytes before text h w.same (wrote_by text e) wrote_later

  broke : (t : Terms) (old : Moment) (bytes before : List ℕ) → Passes t old mid bytes before → Rose (faults a) (faults b) → Rose old.write_faults new.write_faults
  broke t old bytes before h rose =
      rose_since old.write_faults mid.write_faults new.write_faults h.write_later
      (rose_by mid.write_faults new.write_faults (faults a) (faults b) w.faults_old w.faults_new rose)

  last_text : (rest before : List ℕ) (it : Said) (text : List ℕ) → IsRefused rest before it → IsSaid it text → IsLastText rest (before ++ text)
  last_text rest before it text refused (inl e) = (before, it, refused, inl (ap (λ l. before ++ l) e))
  last_text rest before it text refused (inr e) = (before, it, refused, inr (ap (λ l. before ++ l) e))

  -- the last text of the connection was written behind what was written before it
  pub stops_said : (end : ConnEnd) (t : Terms) (old : Moment) (bytes before : List ℕ) (it : Said) → Passes t old mid bytes before
      → IsRefused (old.unread ++ bytes) before it → SaysLast held faults a b it end → Stops t old new end
  stops_said Bad t old bytes before it h refused says = record {
    bytes = bytes;
    part = before ++ says.0;
    passes = passes_written t old bytes before says.0 h says.2;
    stops = last_text (old.unread ++ bytes) before it says.0 refused says.1;
  }
  stops_said WriteFault t old bytes before it h refused says =
      let breaks = says.2 in
      record {
        bytes = bytes;
        part = before ++ breaks.part;
        passes = passes_written t old bytes before breaks.part h breaks.wrote;
        stops = (
          before ++ says.0,
          inr (last_text (old.unread ++ bytes) before it says.0 refused says.1),
          part_behind before says.0 breaks.part breaks.some,
          broke t old bytes before h breaks.rose,
        );
      }
  stops_said Ended t old bytes before it h refused says = absurd says
  stops_said Cut t old bytes before it h refused says = absurd says
  stops_said ReadFault t old bytes before it h refused says = absurd says
  stops_said DiskFault t old bytes before it h refused says = absurd says
  stops_said NoMemory t old bytes before it h refused says = absurd says
  stops_said Spent t old bytes before it h refused says = absurd says

  interim_is : (h : RequestHead) (interim : Bool) → waits h ≡ interim → IsTrue interim → interim_text ≡ interim_of h
  interim_is h true e is = ap interim_if (sym e)
  interim_is h false e is = cc

  -- the interim text was not written whole
  pub stops_greeting : (t : Terms) (old : Moment) (bytes after : List ℕ) (h : RequestHead) (interim : Bool) → Passes t old mid bytes []
      → BeginsWithHead (old.unread ++ bytes) h after → waits h ≡ interim → IsTrue interim → Breaks held faults a b interim_text → Stops t old new WriteFault
  stops_greeting t old bytes after h interim passes begins e is breaks = record {
    bytes = bytes;
    part = breaks.part;
    passes = passes_written t old bytes [] breaks.part passes breaks.wrote;
    stops = (
      interim_text,
      inl (h, after, begins, interim_is h interim e is),
      breaks.some,
      broke t old bytes [] passes breaks.rose,
    );
  }

pub at_most_self : (n : ℕ) → n ≤ n
at_most_self n = omega arith

module _ {P S K : Type 0} (p : view.Ghosts P) (s : source.Ghosts S) (k : sink.Ghosts K) (second : Option ℕ) (admin : List ℕ) (count : ℕ) where
  abbrev pub t : Terms
  t = terms p.alone second admin

  abbrev pub here : P → S → K → List ℕ → Moment
  here port a ends held = moment p s k port a ends count held

  pub written : (port : P) (a : S) (ends ended : K) (held : List ℕ) → k.faults ends ≤ k.faults ended
      → Written k.held k.faults ends ended (here port a ends held) (here port a ended held)
  written port a ends ended held later = record {
    same = record { seen = refl; waits = refl; blocks = refl; number = refl; count = refl; port_faults = refl; given = refl; left = refl; read_faults = refl };
    held_old = refl;
    held_new = refl;
    faults_old = refl;
    faults_new = refl;
    later = later;
  }

  -- the body was read and nothing else was done
  pub beside : (port : P) (a b : S) (ends : K) (held kept : List ℕ) → s.faults a ≤ s.faults b → Beside (here port a ends held) (here port b ends kept)
  beside port a b ends held kept later =
      record { seen = refl; waits = refl; blocks = refl; number = refl; count = refl; port_faults = refl; held = refl; write_faults = refl; read_later = later }

  -- the next head was read and nothing else was done
  abbrev pub passes_next : (port : P) (a b : S) (ends : K) (held kept bytes : List ℕ) → Moves s.given s.left a b bytes → s.faults a ≤ s.faults b
      → Passes t (here port a ends held) (here port b ends kept) bytes []
  passes_next port a b ends held kept bytes moves later = record {
    others = [];
    gave = moves.gave;
    took = moves.took;
    wrote = known_none (k.held ends);
    grown = with_nothing (p.seen port);
    mine = λ _. refl;
    waits = refl;
    blocks = refl;
    number = refl;
    count = refl;
    port_faults = refl;
    read_later = later;
    write_later = at_most_self (k.faults ends);
  }

  pub stops_end : (port : P) (a b : S) (ends : K) (held kept : List ℕ) → HeadCall s.given s.left a b held kept step.End → s.faults a ≤ s.faults b
      → Stops t (here port a ends held) (here port b ends kept) Ended
  stops_end port a b ends held kept next later = record {
    bytes = next.fresh;
    part = [];
    passes = passes_next port a b ends held kept next.fresh next.moves later;
    stops = (refl, next.step_is.0, refl, next.at_end);
  }

  pub stops_cut : (port : P) (a b : S) (ends : K) (held kept : List ℕ) → HeadCall s.given s.left a b held kept step.Cut → s.faults a ≤ s.faults b
      → Stops t (here port a ends held) (here port b ends kept) Cut
  stops_cut port a b ends held kept next later = record {
    bytes = next.fresh;
    part = [];
    passes = passes_next port a b ends held kept next.fresh next.moves later;
    stops = (inl (next.step_is.0, refl), next.at_end);
  }

  pub stops_read : (port : P) (a b : S) (ends : K) (held kept : List ℕ) → HeadCall s.given s.left a b held kept step.ReadFault → s.faults a ≤ s.faults b
      → Rose (s.faults a) (s.faults b) → Stops t (here port a ends held) (here port b ends kept) ReadFault
  stops_read port a b ends held kept next later rose = record {
    bytes = next.fresh;
    part = [];
    passes = passes_next port a b ends held kept next.fresh next.moves later;
    stops = (inl (next.step_is.0, refl), rose);
  }

  pub stops_memory : (port : P) (a b : S) (ends : K) (held kept : List ℕ) → HeadCall s.given s.left a b held kept step.NoMemory → s.faults a ≤ s.faults b
      → Stops t (here port a ends held) (here port b ends kept) NoMemory
  stops_memory port a b ends held kept next later = record {
    bytes = next.fresh;
    part = [];
    passes = passes_next port a b ends held kept next.fresh next.moves later;
    stops = (next.step_is.0, refl);
  }

  pub stops_bad : (end : ConnEnd) (port : P) (a b : S) (ends ended : K) (held kept : List ℕ) → HeadCall s.given s.left a b held kept step.Bad → s.faults a ≤ s.faults b
      → k.faults ends ≤ k.faults ended → SaysLast k.held k.faults ends ended bad_request end → Stops t (here port a ends held) (here port b ended kept) end
  stops_bad end port a b ends ended held kept next later later_end says =
      stops_said k.held k.faults ends ended (here port b ends kept) (here port b ended kept) (written port b ends ended kept later_end) end t (here port a ends held)
      next.fresh [] bad_request (passes_next port a b ends held kept next.fresh next.moves later) (inl (next.step_is.0, refl, refl)) says

  pub stops_large : (end : ConnEnd) (port : P) (a b : S) (ends ended : K) (held kept : List ℕ) → HeadCall s.given s.left a b held kept step.HeadTooLarge → s.faults a ≤ s.faults b
      → k.faults ends ≤ k.faults ended → SaysLast k.held k.faults ends ended head_too_large end → Stops t (here port a ends held) (here port b ended kept) end
  stops_large end port a b ends ended held kept next later later_end says =
      stops_said k.held k.faults ends ended (here port b ends kept) (here port b ended kept) (written port b ends ended kept later_end) end t (here port a ends held)
      next.fresh [] head_too_large (passes_next port a b ends held kept next.fresh next.moves later) (inr (inl (next.step_is.0, refl, refl))) says

  -- who calls was decided behind it
  module _ (port called : P) (a b : S) (ends ended : K) (held kept : List ℕ) (head : Head) (call : Option Called) (next : HeadCall s.given s.left a b held kept (step.Head head))
      (later : s.faults a ≤ s.faults b)
      (calls : Calls p.alone admin (p.seen port) (p.seen called) head.method.items head.target.items (option_map (λ v. v.items) head.token) call)
      (waits_same_port : p.waits called ≡ p.waits port) (blocks_same : p.blocks called ≡ p.blocks port) (number_same : p.number called ≡ p.number port) (faults_same : p.faults called ≡ p.faults port)
      (later_end : k.faults ends ≤ k.faults ended) where
    passes_called : (end : K) (text : List ℕ) → Holds k.held ends end text → k.faults ends ≤ k.faults end
        → Passes t (here port a ends held) (here called b end kept) next.fresh text
    passes_called end text holds end_later = record {
      others = calls.others;
      gave = next.moves.gave;
      took = next.moves.took;
      wrote = holds;
      grown = calls.grown;
      mine = calls.mine;
      waits = waits_same_port;
      blocks = blocks_same;
      number = number_same;
      count = refl;
      port_faults = faults_same;
      read_later = later;
      write_later = end_later;
    }

    pub opens_by : Holds k.held ends ended (interim_if head.interim) → Opens t (here port a ends held) (here called b ended kept) call head
    opens_by holds =
        let h = next.step_is.0 in
        let is = next.step_is.2 in
        let Q : List ℕ → Type 0 = λ text. Passes t (here port a ends held) (here called b ended kept) next.fresh text in
        record {
          asked = h;
          bytes = next.fresh;
          passes = subst Q (ap interim_if (sym (waits_same h head is))) (passes_called ended (interim_if head.interim) holds later_end);
          begins = next.step_is.1;
          is = is;
          known = known_same admin (state_of (p.seen called)) h head call is calls.is;
        }

    pub stops_greeted : IsTrue head.interim → Breaks k.held k.faults ends ended interim_text → Stops t (here port a ends held) (here called b ended kept) WriteFault
    stops_greeted is breaks =
        let h = next.step_is.0 in
        stops_greeting k.held k.faults ends ended (here called b ends kept) (here called b ended kept) (written called b ends ended kept later_end) t (here port a ends held)
        next.fresh kept h head.interim (passes_called ends [] (known_none (k.held ends)) (at_most_self (k.faults ends))) next.step_is.1
        (waits_same h head next.step_is.2) is breaks
