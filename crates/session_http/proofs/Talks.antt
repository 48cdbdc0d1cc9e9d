-- A talk goes on: what is done from a moment on comes behind what was done up to it.
use Rattle.std.proofs.Common.{◌≡◌, ℕ, ◌+◌, ◌<◌, ◌≤◌, arith, List, [], ◌∷◌, ◌++◌, All, Option, None, Some, IsTrue, length, refl, sym, ◌∙◌, ap, subst, append_assoc, append-nil}
use Rattle.std.proofs.lemmas.List.Elements.{All-append}
use Rattle.std.specs.Io.KnownBytes.{append_known, prepend_known}
use Rattle.fh_world.specs.Causes.{Rose}
use Rattle.fh_model.specs.declared.commands.Cmd.{Cmd}
use Rattle.fh_model.specs.History.{state_of, state_after, with_more}
use Rattle.fh_model.specs.Pieces.{SamePieces}
use Rattle.fh_model.specs.State.{State}
use Rattle.fh_model.proofs.Runs.{state_more, with_more_more, state_after-append}
use Rattle.host_seat.specs.Port.{KeepsPieces, OfBoth}
use Rattle.host_seat.proofs.PortLaws.{both_map, both_on}
use Rattle.http_in.specs.Requests.{Request}
use Rattle.session_rules.specs.Connection.{Desk, IsAlone, Turn, texts, gained, IsStored, SendAll}
use Rattle.session_rules.proofs.Blocks.{SendAll-append, stored_none, stored_on}
use Rattle.session_rules.proofs.Turns.{gained-append, texts-append}
use Rattle.session_http.specs.Begun.{Begins, stay}
use Rattle.session_http.specs.Talk.{Terms, Moment, IsTurn, Stored, Talk, desk, requests, first, added, state_behind, replies}
use Rattle.session_http.proofs.Begun.{begins_more, begins_on}

pub known_more : (o : Option (List ℕ)) (a b : List ℕ) → append_known (append_known o a) b ≡ append_known o (a ++ b)
known_more None a b = refl
known_more (Some x) a b = ap Some (append_assoc x a b)

pub known_less : (o : Option (List ℕ)) (a b : List ℕ) → prepend_known a (prepend_known b o) ≡ prepend_known (a ++ b) o
known_less None a b = refl
known_less (Some x) a b = ap Some (sym (append_assoc a b x))

pub known_none : (o : Option (List ℕ)) → o ≡ append_known o []
known_none None = refl
known_none (Some x) = ap Some (sym (append-nil x))

pub known_nothing : (o : Option (List ℕ)) → o ≡ prepend_known [] o
known_nothing None = refl
known_nothing (Some x) = refl

pub below_nothing : (k : ℕ) → k < 0 → ⊥
below_nothing k h = omega arith

requests_on : (turns more : List Turn) → requests (turns ++ more) ≡ requests turns ++ requests more
requests_on [] more = refl
requests_on (turn ∷ turns) more = ap (λ (rs : List Request). turn.asked ∷ rs) (requests_on turns more)

pub talk_starts : (t : Terms) (m : Moment) → Talk t m m [] [] m.unread []
talk_starts t m =
    let P : List ℕ → Type 0 = λ b. Begins b [] m.unread in
    record {
      bytes = [];
      begins = subst P (sym (append-nil m.unread)) (stay m.unread);
      gave = known_none m.given;
      took = known_nothing m.left;
      wrote = known_none m.held;
      history = ap (λ (h : List Cmd). record { start = m.seen.start; history = h }) (sym (append-nil m.seen.history));
      number = refl;
      each = λ k d h. absurd (below_nothing k h);
    }

-- ---- the block file

-- no request was answered, and the pieces stayed as they were
pub stored_idle : (t : Terms) (before now : Moment) → (IsTrue t.alone → KeepsPieces (first before) before.blocks now.blocks) → Stored t before now []
stored_idle t before now keeps = record {
  sends = tt;
  blocks = λ alone. both_map (λ old new. SamePieces (first before) new old) (IsStored (desk t before) (first before) []) before.blocks now.blocks
      (stored_none (desk t before) (first before)) (keeps alone);
}

-- where the port is alone, nobody else's commands came in any turn
pub all_alone : (t : Terms) (turns : List Turn) → All (IsTurn t) turns → IsTrue t.alone → All IsAlone turns
all_alone t turns each alone = λ k d less. (each k d less).mine alone

module _ (t : Terms) (before mid : Moment) (turns : List Turn) (text : List ℕ) (h : Talk t before mid turns [] mid.unread text) where
  -- what the port has seen is what these requests added
  pub talk_seen : mid.seen ≡ with_more before.seen (added t before turns)
  talk_seen = h.history ∙ ap (with_more before.seen) (append-nil (added t before turns))

  -- and the machine that it knows is the one behind them
  pub talk_state : first mid ≡ state_behind t before turns
  talk_state = ap state_of talk_seen ∙ state_more before.seen (added t before turns)

  pub same_desk : desk t mid ≡ desk t before
  same_desk = ap (λ n. record { admin = t.admin; seat = n }) h.number

  -- what more requests add is the same from here as from the start
  pub added_on : (more : List Turn) → added t mid more ≡ gained (desk t before) (state_behind t before turns) more
  added_on more = ap (λ d. gained d (first mid) more) same_desk ∙ ap (λ s. gained (desk t before) s more) talk_state

  pub added_all : (more : List Turn) → added t before (turns ++ more) ≡ added t before turns ++ added t mid more
  added_all more =
      gained-append (desk t before) (first before) turns more ∙ ap (λ l. added t before turns ++ l) (sym (added_on more))

  pub state_on : (more : List Turn) → state_behind t mid more ≡ state_behind t before (turns ++ more)
  state_on more =
      ap (λ s. state_after s (added t mid more)) talk_state
      ∙ sym (state_after-append (first before) (added t before turns) (added t mid more))
      ∙ ap (state_after (first before)) (sym (added_all more))

  module _ (counted : mid.count ≡ before.count + length turns) where
    one_more : (n k m : ℕ) → m ≡ n + k → m + 1 ≡ n + 1 + k
    one_more n k m e = omega (arith, e)

    texts_on : (more : List Turn) → replies t mid more ≡ texts (desk t before) (state_behind t before turns) (before.count + 1 + length turns) more
    texts_on more =
        ap (λ d. texts d (first mid) (mid.count + 1) more) same_desk
        ∙ ap (λ s. texts (desk t before) s (mid.count + 1) more) talk_state
        ∙ ap (λ k. texts (desk t before) (state_behind t before turns) k more) (one_more before.count (length turns) mid.count counted)

    -- so the texts of all replies are joined
    pub replies_on : (more : List Turn) → replies t before (turns ++ more) ≡ replies t before turns ++ replies t mid more
    replies_on more =
        texts-append (desk t before) (first before) (before.count + 1) turns more ∙ ap (λ l. replies t before turns ++ l) (sym (texts_on more))

  pub talk_on : (now : Moment) (more : List Turn) (behind : List Cmd) (rest next : List ℕ) → Talk t mid now more behind rest next
      → Talk t before now (turns ++ more) behind rest (text ++ next)
  talk_on now more behind rest next g =
      let P : List ℕ → Type 0 = λ b. Begins b (requests turns) (mid.unread ++ g.bytes) in
      let Q : List Request → Type 0 = λ rs. Begins (before.unread ++ (h.bytes ++ g.bytes)) rs rest in
      let begun = subst P (append_assoc before.unread h.bytes g.bytes) (begins_more (before.unread ++ h.bytes) mid.unread g.bytes (requests turns) h.begins) in
      record {
        bytes = h.bytes ++ g.bytes;
        begins = subst Q (sym (requests_on turns more))
            (begins_on (before.unread ++ (h.bytes ++ g.bytes)) (mid.unread ++ g.bytes) rest (requests turns) (requests more) begun g.begins);
        gave = g.gave ∙ ap (λ o. append_known o g.bytes) h.gave ∙ known_more before.given h.bytes g.bytes;
        took = h.took ∙ ap (prepend_known h.bytes) g.took ∙ known_less now.left h.bytes g.bytes;
        wrote = g.wrote ∙ ap (λ o. append_known o next) h.wrote ∙ known_more before.held text next;
        history = g.history ∙ ap (λ k. with_more k (added t mid more ++ behind)) talk_seen
            ∙ with_more_more before.seen (added t before turns) (added t mid more ++ behind)
            ∙ ap (with_more before.seen) (sym (append_assoc (added t before turns) (added t mid more) behind) ∙ ap (λ l. l ++ behind) (sym (added_all more)));
        number = g.number ∙ h.number;
        each = All-append (IsTurn t) turns more h.each g.each;
      }

  -- more requests behind them
  pub stored_more : Stored t before mid turns → (now : Moment) (more : List Turn) → All (IsTurn t) more → Stored t mid now more → Stored t before now (turns ++ more)
  stored_more stored now more each next =
      let d = desk t before in
      let s = first before in
      let P : Desk → Type 0 = λ e. SendAll e (first mid) more in
      let Q : State → Type 0 = λ u. SendAll d u more in
      let sends : SendAll d (state_behind t before turns) more = subst Q talk_state (subst P same_desk next.sends) in
      let R : Desk → Type 0 = λ e. OfBoth (IsStored e (first mid) more) mid.blocks now.blocks in
      let T : State → Type 0 = λ u. OfBoth (IsStored d u more) mid.blocks now.blocks in
      record {
        sends = SendAll-append d s turns more stored.sends sends;
        blocks = λ alone. both_on (IsStored d s turns) (IsStored d (state_behind t before turns) more) (IsStored d s (turns ++ more)) before.blocks mid.blocks now.blocks
            (λ x y z p q. stored_on d s turns more x y z (all_alone t turns h.each alone) (all_alone t more each alone) sends p q)
            (stored.blocks alone) (subst T talk_state (subst R same_desk (next.blocks alone)));
      }

pub at_most : (a b c : ℕ) → a ≤ b → b ≤ c → a ≤ c
at_most a b c h g = omega (arith, h, g)

-- a fault that rose later has risen since the start
pub rose_since : (a b c : ℕ) → a ≤ b → Rose b c → Rose a c
rose_since a b c l h = omega (arith, h)
