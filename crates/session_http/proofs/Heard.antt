-- A head and its body, as calls of the reader gave them, are one request.
use Rattle.std.proofs.Common.{◌≡◌, ℕ, ◌-◌, ◌^◌, ◌≤◌, Bool, List, [], ◌++◌, length, Option, refl, sym, ◌∙◌, ap, subst, append_assoc, inl, inr, option_map}
use Rattle.httparse.specs.Grammar.{RequestHead}
use Rattle.std.specs.Io.KnownBytes.{IsAtEnd, append_known, prepend_known}
use Rattle.fh_world.specs.Causes.{Rose}
use Rattle.fh_model.specs.History.{Kept, state_of}
use Rattle.http_in.specs.declared.head.Head.{Head}
use Rattle.http_in.specs.declared.place.Place.{Place}
use Rattle.http_in.specs.declared.place.State.{State}
use Rattle.http_in.specs.declared.place.State.TheVariants.{Inside}
use Rattle.http_in.specs.Bodies.{Ending, BodyFrom, Runs, done, cut, bad, too_large}
use Rattle.http_in.specs.Heads.{BeginsWithHead}
use Rattle.http_in.specs.Parts.{IsHeadOf, limit_of}
use Rattle.http_in.specs.Readings.{StopsInside}
use Rattle.http_in.specs.Requests.{Request, BeginsWithBody}
use Rattle.http_in.specs.Stands.{place_of}
use Rattle.http_in.proofs.MoreBytes.{head_more}
use Rattle.session_rules.specs.Asked.{arg_in}
use Rattle.session_rules.specs.Connection.{interim_of}
use Rattle.session_rules.specs.Decisions.{Called}
use Rattle.session_rules.specs.Replies.{bad_request, body_too_large}
use Rattle.session_http.specs.Begun.{IsRefused}
use Rattle.session_http.specs.Bodies.{GoneOnlyFor, Holds}
use Rattle.session_http.specs.declared.bodies.Body.{Body}
use Rattle.session_http.specs.Points.{is_called}
use Rattle.session_http.specs.Steps.{Hears, HearsAll, IsKnown, Opens, Passes, Stops}
use Rattle.session_http.specs.Talk.{Terms, Moment}
use Rattle.session_http.specs.declared.conn.ConnEnd.TheVariants.{Cut, ReadFault}
use Rattle.session_http.proofs.Limits.{never_unread}
use Rattle.session_http.proofs.Ones.{at_most_to}
use Rattle.session_http.proofs.Points.{last_same}
use Rattle.session_http.proofs.Talks.{at_most, known_more, known_less, rose_since}

-- what reading leaves as it was
pub record Beside (mid new : Moment) : Type 0 where
  pub seen : new.seen ≡ mid.seen
  pub waits : new.waits ≡ mid.waits
  pub blocks : new.blocks ≡ mid.blocks
  pub number : new.number ≡ mid.number
  pub count : new.count ≡ mid.count
  pub port_faults : new.port_faults ≡ mid.port_faults
  pub held : new.held ≡ mid.held
  pub write_faults : new.write_faults ≡ mid.write_faults
  pub read_later : mid.read_faults ≤ new.read_faults

-- the argument in a head is what the definitions read in it
pub arg_same : (h : RequestHead) (head : Head) → IsHeadOf h head → option_map (λ v. v.items) head.arg ≡ arg_in h
arg_same h head is = is.arg_is

same_place : (p q : Place) → Inside p ≡ Inside q → p ≡ q
same_place p q e = cc

module _ (t : Terms) (old mid new : Moment) (call : Option Called) (head : Head) (opens : Opens t old mid call head) (state : State)
    (at : state ≡ Inside (place_of (limit_of head.target.items) head.length)) (place : Place) (inside : state ≡ Inside place)
    (fresh added content : List ℕ) (gave : new.given ≡ append_known mid.given fresh) (took : mid.left ≡ prepend_known fresh new.left)
    (beside : Beside mid new) (gained : content ≡ [] ++ added) where
  abbrev pub bytes : List ℕ
  bytes = opens.bytes ++ fresh

  abbrev pub asked : Request
  asked = record { head = opens.asked; content = content }

  -- the body was read behind the head
  pub passes_body : Passes t old new bytes (interim_of opens.asked)
  passes_body =
      let h = opens.passes in
      record {
        others = h.others;
        gave = gave ∙ ap (λ o. append_known o fresh) h.gave ∙ known_more old.given opens.bytes fresh;
        took = h.took ∙ ap (prepend_known opens.bytes) took ∙ known_less new.left opens.bytes fresh;
        wrote = beside.held ∙ h.wrote;
        grown = beside.seen ∙ h.grown;
        mine = h.mine;
        waits = beside.waits ∙ h.waits;
        blocks = beside.blocks ∙ h.blocks;
        number = beside.number ∙ h.number;
        count = beside.count ∙ h.count;
        port_faults = beside.port_faults ∙ h.port_faults;
        read_later = at_most old.read_faults mid.read_faults new.read_faults h.read_later beside.read_later;
        write_later = at_most_to old.write_faults mid.write_faults new.write_faults h.write_later beside.write_faults;
      }

  -- the bytes at hand begin with the head, however they came
  head_begins : BeginsWithHead (old.unread ++ bytes) opens.asked (mid.unread ++ fresh)
  head_begins =
      let Q : List ℕ → Type 0 = λ b. BeginsWithHead b opens.asked (mid.unread ++ fresh) in
      subst Q (append_assoc old.unread opens.bytes fresh) (head_more (old.unread ++ opens.bytes) fresh mid.unread opens.asked opens.begins)

  pub request_begins : (e : Ending) → BodyFrom place (mid.unread ++ fresh) added e → BeginsWithBody (old.unread ++ bytes) asked e
  request_begins e body =
      let same = same_place place (place_of (limit_of head.target.items) head.length) (sym inside ∙ at) in
      let P : Place → Type 0 = λ p. BodyFrom p (mid.unread ++ fresh) added e in
      let Q : List ℕ → Type 0 = λ g. BodyFrom (place_of (limit_of g) head.length) (mid.unread ++ fresh) added e in
      let R : List ℕ → Type 0 = λ c. BodyFrom (place_of (limit_of opens.asked.target) head.length) (mid.unread ++ fresh) c e in
      record {
        framing = head.length;
        middle = mid.unread ++ fresh;
        begins = head_begins;
        framed = opens.is.length_is;
        body = subst R (sym gained) (subst Q opens.is.target_is (subst P same body));
      }

  known_on : IsKnown t.admin (state_of new.seen) opens.asked call
  known_on =
      let P : Kept → Type 0 = λ k. IsKnown t.admin (state_of k) opens.asked call in
      subst P (sym beside.seen) opens.known

  -- the request is whole
  pub hears : (body : Body) (kept : List ℕ) → Holds body kept content → BodyFrom place (mid.unread ++ fresh) added (done new.unread)
      → Hears t old new call head.last (option_map (λ v. v.items) head.arg) body kept
  hears body kept holds came = record {
    asked = asked;
    bytes = bytes;
    passes = passes_body;
    begins = request_begins (done new.unread) came;
    known = known_on;
    asked_last = last_same opens.asked head opens.is;
    argued = arg_same opens.asked head opens.is;
    holds = holds;
  }

  pub hears_all : (keeps : Bool) (room : ℕ) (body : Body) (kept : List ℕ) → Holds body kept content → GoneOnlyFor keeps room body content → keeps ≡ is_called call
      → BodyFrom place (mid.unread ++ fresh) added (done new.unread) → HearsAll t old new call head.last (option_map (λ v. v.items) head.arg) body kept room
  unfolding hears
  hears_all keeps room body kept holds gone is came =
      record { hears = hears body kept holds came; gone = subst (λ (b : Bool). GoneOnlyFor b room body content) is gone }

  pub stops_cut : BodyFrom place (mid.unread ++ fresh) added cut → IsAtEnd new.left → Stops t old new Cut
  stops_cut body at_end = record {
    bytes = bytes;
    part = interim_of opens.asked;
    passes = passes_body;
    stops = (inr (asked, request_begins cut body, refl), at_end);
  }

  pub stops_read : Rose mid.read_faults new.read_faults → Stops t old new ReadFault
  stops_read rose = record {
    bytes = bytes;
    part = interim_of opens.asked;
    passes = passes_body;
    stops = (inr (opens.asked, mid.unread ++ fresh, head_begins, refl), rose_since old.read_faults mid.read_faults new.read_faults opens.passes.read_later rose);
  }

  pub not_unread : (kept : List ℕ) → StopsInside place (mid.unread ++ fresh) added kept → 2 ^ 64 - 1 ≤ length content → ⊥
  not_unread kept stops many =
      let same = same_place place (place_of (limit_of head.target.items) head.length) (sym inside ∙ at) in
      let P : Place → Type 0 = λ p. Runs p (mid.unread ++ fresh) added stops.0 kept in
      never_unread head.target.items head.length stops.0 (mid.unread ++ fresh) added kept (subst P same stops.1) (subst (λ (c : List ℕ). 2 ^ 64 - 1 ≤ length c) gained many)

  pub refused_bad : BodyFrom place (mid.unread ++ fresh) added bad → IsRefused (old.unread ++ bytes) (interim_of opens.asked) bad_request
  refused_bad body = inr (inr (inl (asked, request_begins bad body, refl, refl)))

  pub refused_large : BodyFrom place (mid.unread ++ fresh) added too_large → IsRefused (old.unread ++ bytes) (interim_of opens.asked) (body_too_large head.target.items)
  refused_large body = inr (inr (inr (asked, request_begins too_large body, refl, ap body_too_large opens.is.target_is)))
