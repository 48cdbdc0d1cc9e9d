-- One request from its reading to its reply: what was heard, what the port did, and what was written make its turn.
use Rattle.std.proofs.Common.{◌≡◌, ◌≢◌, ℕ, ◌+◌, ◌<◌, ◌≤◌, List, [], ◌∷◌, ◌++◌, Option, None, Some, Bool, IsTrue, length, refl, sym, ◌∙◌, ap, subst, append_assoc, arith, inl, inr}
use Rattle.std.specs.Io.KnownBytes.{append_known, prepend_known}
use Rattle.fh_world.specs.Causes.{Rose}
use Rattle.fh_model.specs.declared.commands.Cmd.{Cmd}
use Rattle.fh_model.specs.declared.files.FileMeta.{FileMeta}
use Rattle.fh_model.specs.History.{with_more}
use Rattle.host_seat.specs.Port.{Leaves, OfBoth}
use Rattle.http_in.specs.Bodies.{done}
use Rattle.http_in.specs.Requests.{Request, BeginsWithBody}
use Rattle.session_rules.specs.Connection.{Turn, broken_off, closes, interim_of, said, text_in, gained_in, IsStored, Sends}
use Rattle.session_rules.specs.Decisions.{Called}
use Rattle.session_rules.specs.Replies.{text_of}
use Rattle.session_http.specs.Ends.{AsksBehind, EndsBy, IsBrokenOff, IsPart, Served}
use Rattle.session_http.specs.Sending.{IsCause}
use Rattle.session_http.specs.Steps.{Hears, Turned}
use Rattle.session_http.specs.Talk.{Terms, Moment, IsTurn, IsWhole, Stored, desk, first, replies_behind}
use Rattle.session_http.specs.declared.bodies.Body.{Body}
use Rattle.session_http.specs.declared.conn.ConnEnd.{ConnEnd}
use Rattle.session_http.specs.declared.conn.ConnEnd.TheVariants.{Ended, Cut, Bad, ReadFault, WriteFault, DiskFault, NoMemory, Spent}
use Rattle.session_http.proofs.Sends.{part_behind}
use Rattle.session_http.proofs.Serves.{text_behind, turned, serve_broken}
use Rattle.session_http.proofs.Talks.{at_most, rose_since}

-- what a call of the port and a write leave as it was
pub record Stays (mid new : Moment) : Type 0 where
  pub given : new.given ≡ mid.given
  pub left : new.left ≡ mid.left
  pub read_faults : new.read_faults ≡ mid.read_faults
  pub unread : new.unread ≡ mid.unread
  pub number : new.number ≡ mid.number
  pub waits : Leaves mid.waits [] new.waits
  pub port_later : mid.port_faults ≤ new.port_faults
  pub write_later : mid.write_faults ≤ new.write_faults

pub held_more : (o : Option (List ℕ)) (a b : List ℕ) (m n : Option (List ℕ)) → m ≡ append_known o a → n ≡ append_known m b → n ≡ append_known o (a ++ b)
held_more None a b m n e f = f ∙ ap (λ x. append_known x b) e
held_more (Some x) a b m n e f = f ∙ ap (λ y. append_known y b) e ∙ ap Some (append_assoc x a b)

leaves_from : (a b c : List Cmd) → b ≡ a → Leaves b [] c → Leaves a [] c
leaves_from a b c e h = subst (λ (x : List Cmd). Leaves x [] c) e h

at_most_from : (a b c : ℕ) → b ≡ a → b ≤ c → a ≤ c
at_most_from a b c e h = omega (arith, e, h)

rose_from : (a b c : ℕ) → b ≡ a → Rose b c → Rose a c
rose_from a b c e h = omega (arith, e, h)

pub at_most_to : (a b c : ℕ) → a ≤ b → c ≡ b → a ≤ c
at_most_to a b c h e = omega (arith, h, e)

pub leaves_same : (a b c : List Cmd) → Leaves a [] b → c ≡ b → Leaves a [] c
leaves_same a b c h e = subst (λ (x : List Cmd). Leaves a [] x) (sym e) h

-- a fault that rose in a later call has risen since an earlier one
pub cause_since : (end : ConnEnd) (a b c d e : ℕ) → a ≤ b → IsCause end b c d e → IsCause end a c d e
cause_since WriteFault a b c d e l cause = cause
cause_since DiskFault a b c d e l cause = rose_since a b c l cause
cause_since NoMemory a b c d e l cause = tt
cause_since Ended a b c d e l cause = absurd cause
cause_since Cut a b c d e l cause = absurd cause
cause_since Bad a b c d e l cause = absurd cause
cause_since ReadFault a b c d e l cause = absurd cause
cause_since Spent a b c d e l cause = absurd cause

-- the turn of a request that was asked, and its text
pub record Tells (t : Terms) (old new : Moment) (asked : Request) (text : List ℕ) : Type 0 where
  pub turn : Turn
  pub asked_is : turn.asked ≡ asked
  pub is : IsTurn t turn
  pub history : new.seen ≡ with_more old.seen (gained_in (desk t old) (first old) turn)
  pub said_is : text ≡ text_of (said (desk t old) (first old) turn) (closes (old.count + 1) turn.asked.head)
  pub sends : Sends (desk t old) (first old) turn
  pub blocks : IsTrue t.alone → OfBoth (IsStored (desk t old) (first old) (turn ∷ [])) old.blocks new.blocks

module _ (t : Terms) (old mid new : Moment) (call : Option Called) (last : Bool) (arg : Option (List ℕ)) (body : Body) (kept : List ℕ)
    (h : Hears t old mid call last arg body kept) (stays : Stays mid new) (text : List ℕ) (tells : Tells t old new h.asked text) where
  whole_text : interim_of h.asked.head ++ text ≡ text_in (desk t old) (first old) (old.count + 1) tells.turn
  whole_text =
      ap (λ r. interim_of r.head ++ text) (sym tells.asked_is) ∙ ap (λ l. interim_of tells.turn.asked.head ++ l) tells.said_is

  begins_turn : BeginsWithBody (old.unread ++ h.bytes) tells.turn.asked (done new.unread)
  begins_turn =
      let P : List ℕ → Type 0 = λ u. BeginsWithBody (old.unread ++ h.bytes) tells.turn.asked (done u) in
      let Q : Request → Type 0 = λ r. BeginsWithBody (old.unread ++ h.bytes) r (done mid.unread) in
      subst P (sym stays.unread) (subst Q (sym tells.asked_is) h.begins)

  stored_turn : Stored t old new (tells.turn ∷ [])
  stored_turn = record { sends = (tells.sends, tt); blocks = tells.blocks }

  waits_turn : Leaves old.waits [] new.waits
  waits_turn = leaves_from old.waits mid.waits new.waits h.passes.waits stays.waits

  -- its reply was written
  pub turned_by : IsWhole tells.turn.kind → new.held ≡ append_known mid.held text → Turned t old new tells.turn
  turned_by all wrote =
      turned t old new tells.turn h.bytes begins_turn (stays.given ∙ h.passes.gave) (h.passes.took ∙ ap (prepend_known h.bytes) (sym stays.left)) tells.history
      (stays.number ∙ h.passes.number) tells.is stored_turn waits_turn (interim_of h.asked.head ++ text)
      (held_more old.held (interim_of h.asked.head) text mid.held new.held h.passes.wrote wrote) whole_text all
      (at_most_from old.port_faults mid.port_faults new.port_faults h.passes.port_faults stays.port_later)
      (at_most_to old.read_faults mid.read_faults new.read_faults h.passes.read_later stays.read_faults)
      (at_most old.write_faults mid.write_faults new.write_faults h.passes.write_later stays.write_later)

  text_turn : interim_of h.asked.head ++ text ≡ replies_behind t old [] (tells.turn ∷ [])
  text_turn =
      text_behind t old new tells.turn h.bytes begins_turn (stays.given ∙ h.passes.gave) (h.passes.took ∙ ap (prepend_known h.bytes) (sym stays.left)) tells.history
      (stays.number ∙ h.passes.number) tells.is stored_turn waits_turn (interim_of h.asked.head ++ text) whole_text

  broken_turn : (end : ConnEnd) (part : List ℕ) → new.held ≡ append_known mid.held part
      → EndsBy end t old new [] (tells.turn ∷ []) [] new.unread (interim_of h.asked.head ++ part) → old.count < 1000000 → Served t old new end
  broken_turn end part wrote ends few =
      serve_broken t old new tells.turn h.bytes begins_turn (stays.given ∙ h.passes.gave) (h.passes.took ∙ ap (prepend_known h.bytes) (sym stays.left)) tells.history
      (stays.number ∙ h.passes.number) tells.is stored_turn waits_turn end (interim_of h.asked.head ++ part)
      (held_more old.held (interim_of h.asked.head) part mid.held new.held h.passes.wrote wrote) ends few

  -- its reply was not written whole
  pub broken_by : (part : List ℕ) → IsPart text part → new.held ≡ append_known mid.held part → Rose mid.write_faults new.write_faults → old.count < 1000000
      → Served t old new WriteFault
  broken_by part some wrote rose few =
      broken_turn WriteFault part wrote (
        interim_of h.asked.head ++ text,
        inl text_turn,
        part_behind (interim_of h.asked.head) text part some,
        rose_since old.write_faults mid.write_faults new.write_faults h.passes.write_later rose,
      ) few

  module _ (n : ℕ) (off : tells.turn.kind ≡ broken_off n) (meta : FileMeta) (asks : AsksBehind (desk t old) (first old) tells.turn meta) (part : List ℕ)
      (some : IsPart text part) (wrote : new.held ≡ append_known mid.held part) (few : old.count < 1000000) where
    is_broken_off : n < length meta.pieces → IsBrokenOff t old [] (tells.turn ∷ []) (interim_of h.asked.head ++ part)
    is_broken_off fewer =
        let P : List ℕ → Type 0 = λ x. IsPart x (interim_of h.asked.head ++ part) in
        record {
          turn = tells.turn;
          meta = meta;
          count = n;
          is = refl;
          off = off;
          asks = asks;
          fewer = fewer;
          some = subst P text_turn (part_behind (interim_of h.asked.head) text part some);
        }

    port_rose : Rose mid.port_faults new.port_faults → Rose old.port_faults new.port_faults
    port_rose rose = rose_from old.port_faults mid.port_faults new.port_faults h.passes.port_faults rose

    -- the content that it asks for was broken off
    pub broken_off_by : (end : ConnEnd) → (end ≢ WriteFault → n < length meta.pieces) → IsCause end mid.port_faults new.port_faults mid.write_faults new.write_faults
        → Served t old new end
    broken_off_by WriteFault fewer cause = broken_by part some wrote cause few
    broken_off_by DiskFault fewer cause = broken_turn DiskFault part wrote (inr (is_broken_off (fewer (λ e. cc)), waits_turn), port_rose cause) few
    broken_off_by NoMemory fewer cause = broken_turn NoMemory part wrote (inr (is_broken_off (fewer (λ e. cc)))) few
    broken_off_by Ended fewer cause = absurd cause
    broken_off_by Cut fewer cause = absurd cause
    broken_off_by Bad fewer cause = absurd cause
    broken_off_by ReadFault fewer cause = absurd cause
    broken_off_by Spent fewer cause = absurd cause
