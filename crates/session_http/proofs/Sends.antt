-- A content that is sent block by block: what was fetched and written goes on by one block.
use Rattle.std.proofs.Common.{◌≡◌, ⊎_elim, ℕ, ◌+◌, ◌<◌, ◌≤◌, Bool, IsTrue, List, [], ◌∷◌, ◌++◌, length, take, slice_get, Option, None, Some, IfSome, refl, sym, ◌∙◌, ap, subst, arith, append_assoc, append-nil, length-append}
use Rattle.std.proofs.lemmas.Grind.{flat_map-append}
use Rattle.std.proofs.lemmas.List.{take_more}
use Rattle.std.proofs.lemmas.Option.{slice_get_cases, slice_get_within, get_or_from_slice_get}
use Rattle.std.proofs.Math.Seq.{take-append-add, take-length}
use Rattle.std.specs.Io.KnownBytes.{append_known}
use Rattle.fh_world.specs.Bytes.{Holds}
use Rattle.fh_model.specs.declared.commands.Cmd.{Cmd}
use Rattle.fh_model.specs.declared.files.FileMeta.{FileMeta}
use Rattle.fh_model.specs.declared.pieces.Piece.{Piece}
use Rattle.fh_model.specs.Content.{content_of, size_of, slice_of}
use Rattle.fh_model.specs.History.{Kept, state_of, state_after, with_more}
use Rattle.fh_model.specs.Pieces.{block_in, end_in, end_of}
use Rattle.fh_model.specs.State.{State}
use Rattle.fh_model.proofs.HeldLaws.{block_ends, same_slice}
use Rattle.fh_model.proofs.KeptBlockLaws.{kept_block, later_block}
use Rattle.fh_model.proofs.Runs.{state_more, with_more_more, with_nothing}
use Rattle.fh_model.proofs.VersionLaws.{versions_stay}
use Rattle.host_seat.specs.Port.{IsBlock, KeepsPieces, OfBoth, OthersEnter, block_at}
use Rattle.host_seat.proofs.PortLaws.{both_on, both_same, keeps_on, keeps_same}
use Rattle.session_http.specs.Ends.{IsPart}
use Rattle.session_http.specs.Sending.{BreaksOff, Fetches, HasBlock, IsVersion, SendsOn}
use Rattle.session_http.specs.Steps.{Breaks}
use Rattle.session_http.specs.declared.conn.ConnEnd.{ConnEnd}
use Rattle.session_http.specs.declared.conn.ConnEnd.TheVariants.{WriteFault}
use Rattle.session_http.proofs.Talks.{known_more}

-- ---- the block file from one moment to the next

shown_on : (s : State) (pieces : List Piece) (sent : List ℕ) (a b c : Option (List ℕ)) → OfBoth (λ blocks _. sent ≡ content_of blocks pieces) a b → KeepsPieces s b c
    → OfBoth (λ blocks _. sent ≡ content_of blocks pieces) a c
shown_on s pieces sent a b c =
    both_on (λ x y. sent ≡ content_of x pieces) (λ x y. take (end_in s) y ≡ take (end_in s) x) (λ x y. sent ≡ content_of x pieces) a b c
    (λ x y z p q. p)

-- ---- pieces

size_more : (pieces : List Piece) (piece : Piece) → size_of (pieces ++ piece ∷ []) ≡ size_of pieces + piece.len
size_more [] piece = omega arith
size_more (first ∷ pieces) piece = omega (arith, size_more pieces piece)

content_more : (blocks : List ℕ) (pieces : List Piece) (piece : Piece) → content_of blocks (pieces ++ piece ∷ []) ≡ content_of blocks pieces ++ slice_of blocks piece
content_more blocks pieces piece =
    flat_map-append (slice_of blocks) pieces (piece ∷ []) ∙ ap (λ (l : List ℕ). content_of blocks pieces ++ l) (append-nil (slice_of blocks piece))

take_next : (pieces : List Piece) (block : ℕ) (piece : Piece) → slice_get pieces block ≡ Some piece → take (block + 1) pieces ≡ take block pieces ++ piece ∷ []
take_next pieces block piece is =
    take_more pieces block piece (slice_get_within pieces block piece is)
    ∙ ap (λ (p : Piece). take block pieces ++ p ∷ []) (get_or_from_slice_get pieces block piece piece is)

shown_more : (s : State) (pieces more : List Piece) (piece : Piece) (sent bytes : List ℕ) → end_of piece ≤ end_in s → more ≡ pieces ++ piece ∷ [] → (a c : Option (List ℕ))
    → OfBoth (λ blocks _. sent ≡ content_of blocks pieces) a c → KeepsPieces s a c → IfSome c (λ told. bytes ≡ slice_of told piece)
    → OfBoth (λ blocks _. sent ++ bytes ≡ content_of blocks more) a c
shown_more s pieces more piece sent bytes ends is None None shown keeps slice = tt
shown_more s pieces more piece sent bytes ends is None (Some y) shown keeps slice = absurd shown
shown_more s pieces more piece sent bytes ends is (Some x) None shown keeps slice = absurd shown
shown_more s pieces more piece sent bytes ends is (Some x) (Some y) shown keeps slice =
    ap (λ (l : List ℕ). l ++ bytes) shown
    ∙ ap (λ (l : List ℕ). content_of x pieces ++ l) (slice ∙ same_slice y x piece (end_in s) ends keeps)
    ∙ sym (content_more x pieces piece)
    ∙ ap (content_of x) (sym is)

-- ---- a version that was known at a point, at a later one

same_more : (old : Kept) (others : List Cmd) (alone : Bool) (new : Kept) → new ≡ with_more old others → (IsTrue alone → others ≡ []) → IsTrue alone → new ≡ old
same_more old others alone new grown mine is = grown ∙ ap (with_more old) (mine is) ∙ sym (with_nothing old)

state_later : (old new : Kept) (others : List Cmd) → new ≡ with_more old others → state_of new ≡ state_after (state_of old) others
state_later old new others grown = ap state_of grown ∙ state_more old others

-- it has the same blocks there
found_later : (old new : Kept) (others : List Cmd) (meta : FileMeta) (rev count block : ℕ) → new ≡ with_more old others → IsVersion (state_of old) meta rev count
    → block_at new rev block ≡ Some (slice_get meta.pieces block)
found_later old new others meta rev count block grown is =
    ap (λ (s : State). block_in s rev block) (state_later old new others grown)
    ∙ ap (λ r. block_in (state_after (state_of old) others) r block) is.rev_is
    ∙ later_block (state_of old) others meta block is.kept

same_some : {A : Type 0} (a b : A) → Some a ≡ Some b → a ≡ b
same_some a b e = cc

-- and each block that a version has is found
pub has_block : (old new : Kept) (others : List Cmd) (meta : FileMeta) (rev count block : ℕ) → new ≡ with_more old others → IsVersion (state_of old) meta rev count
    → block < count → HasBlock (state_of new) rev block
has_block old new others meta rev count block grown is less = record {
  meta = meta;
  kept = rw (state_later old new others grown) (versions_stay (state_of old) others meta.rev meta is.kept);
  rev_is = is.rev_is;
  within = omega (arith, less, is.count_is);
}

-- ---- what was fetched

-- nothing yet
pub fetches_none : (alone : Bool) (kept : Kept) (blocks : Option (List ℕ)) (pieces : List Piece) → Fetches alone kept kept blocks blocks (take 0 pieces) []
fetches_none alone kept blocks pieces = record {
  others = [];
  long = refl;
  grown = with_nothing kept;
  mine = λ is. refl;
  shown = λ is. both_same (λ x y. [] ≡ content_of x []) blocks (λ x. refl);
  below = λ is. keeps_same (state_of kept) blocks blocks refl;
}

module _ (alone : Bool) (old mid new : Kept) (before between after : Option (List ℕ)) (pieces : List Piece) (sent : List ℕ)
    (f : Fetches alone old mid before between pieces sent) (enter : OthersEnter alone mid new)
    (keeps : IsTrue alone → KeepsPieces (state_of mid) between after) where
  grown_on : new ≡ with_more old (f.others ++ enter.others)
  grown_on = enter.grown ∙ ap (λ k. with_more k enter.others) f.grown ∙ with_more_more old f.others enter.others

  mine_on : IsTrue alone → f.others ++ enter.others ≡ []
  mine_on is = ap (λ (l : List Cmd). l ++ enter.others) (f.mine is) ∙ enter.mine is

  kept_on : IsTrue alone → KeepsPieces (state_of old) between after
  kept_on is = subst (λ (k : Kept). KeepsPieces (state_of k) between after) (same_more old f.others alone mid f.grown f.mine is) (keeps is)

  -- another call that fetched nothing
  pub fetches_stay : Fetches alone old new before after pieces sent
  fetches_stay = record {
    others = f.others ++ enter.others;
    long = f.long;
    grown = grown_on;
    mine = mine_on;
    shown = λ is. shown_on (state_of old) pieces sent before between after (f.shown is) (kept_on is);
    below = λ is. keeps_on (state_of old) before between after (f.below is) (kept_on is);
  }

-- and one that fetched the next block
pub fetches_on : (alone : Bool) (old mid new : Kept) (before between after : Option (List ℕ)) (meta : FileMeta) (rev count block : ℕ) (sent bytes : List ℕ)
    → IsVersion (state_of old) meta rev count → Fetches alone old mid before between (take block meta.pieces) sent → OthersEnter alone mid new
    → (IsTrue alone → KeepsPieces (state_of mid) between after) → IsBlock (block_at new rev block) after bytes
    → Fetches alone old new before after (take (block + 1) meta.pieces) (sent ++ bytes)
fetches_on alone old mid new before between after meta rev count block sent bytes is f enter keeps b =
    let stay = fetches_stay alone old mid new before between after (take block meta.pieces) sent f enter keeps in
    let piece_is : slice_get meta.pieces block ≡ Some b.piece =
    same_some (slice_get meta.pieces block) (Some b.piece) (sym (found_later old new stay.others meta rev count block stay.grown is) ∙ b.there) in
    let next : take (block + 1) meta.pieces ≡ take block meta.pieces ++ b.piece ∷ [] = take_next meta.pieces block b.piece piece_is in
    let ends : end_of b.piece ≤ end_in (state_of old) =
    block_ends (state_of old) meta.rev block b.piece (kept_block (state_of old) meta block is.kept ∙ ap Some piece_is) in
    record {
      others = stay.others;
      long = omega (arith, length-append sent bytes, stay.long, b.len, size_more (take block meta.pieces) b.piece, ap size_of next);
      grown = stay.grown;
      mine = stay.mine;
      shown = λ alone_is. shown_more (state_of old) (take block meta.pieces) (take (block + 1) meta.pieces) b.piece sent bytes ends next before after
          (stay.shown alone_is) (stay.below alone_is) b.slice;
      below = stay.below;
    }

-- ---- what was sent

-- the first of a text and of what stands behind it
pub part_behind : (front text part : List ℕ) → IsPart text part → IsPart (front ++ text) (front ++ part)
part_behind front text part some = (length front + some.0, ap (λ (l : List ℕ). front ++ l) some.1 ∙ sym (take-append-add front text some.0))

all_of : (text : List ℕ) → IsPart text text
all_of text = (length text, sym (take-length text))

-- the head alone
pub sends_head : {K : Type 0} (held : K → Option (List ℕ)) (alone : Bool) (kept : Kept) (blocks : Option (List ℕ)) (sink sink_now : K) (text : List ℕ) (pieces : List Piece)
    → Holds held sink sink_now text → SendsOn alone kept kept blocks blocks held sink sink_now text (take 0 pieces)
sends_head held alone kept blocks sink sink_now text pieces wrote = record {
  sent = [];
  fetches = fetches_none alone kept blocks pieces;
  wrote = wrote ∙ ap (append_known (held sink)) (sym (append-nil text));
}

pub breaks_head : {K : Type 0} (held : K → Option (List ℕ)) (faults : K → ℕ) (alone : Bool) (kept : Kept) (blocks : Option (List ℕ)) (sink sink_now : K) (text : List ℕ) (pieces : List Piece)
    → (end : ConnEnd) → end ≡ WriteFault → Breaks held faults sink sink_now text → BreaksOff end alone kept kept blocks blocks held sink sink_now text pieces
breaks_head held faults alone kept blocks sink sink_now text pieces end is broken =
    let P : List ℕ → Type 0 = λ l. IsPart l broken.part in
    record {
      count = 0;
      sent = [];
      part = broken.part;
      fetches = fetches_none alone kept blocks pieces;
      fewer = λ other. absurd (other is);
      some = subst P (sym (append-nil text)) broken.some;
      wrote = broken.wrote;
    }

module _ {K : Type 0} (held : K → Option (List ℕ)) (alone : Bool) (old mid new : Kept) (before between after : Option (List ℕ)) (sink sink_mid : K) (text : List ℕ)
    (meta : FileMeta) (rev count block : ℕ) (is : IsVersion (state_of old) meta rev count)
    (so : SendsOn alone old mid before between held sink sink_mid text (take block meta.pieces)) (enter : OthersEnter alone mid new)
    (keeps : IsTrue alone → KeepsPieces (state_of mid) between after) where
  -- the next block was not fetched
  pub breaks_fetch : (end : ConnEnd) → block < count → BreaksOff end alone old new before after held sink sink_mid text meta.pieces
  breaks_fetch end less = record {
    count = block;
    sent = so.sent;
    part = text ++ so.sent;
    fetches = fetches_stay alone old mid new before between after (take block meta.pieces) so.sent so.fetches enter keeps;
    fewer = λ _. omega (arith, less, is.count_is);
    some = all_of (text ++ so.sent);
    wrote = so.wrote;
  }

  module _ (sink_now : K) (bytes : List ℕ) (b : IsBlock (block_at new rev block) after bytes) where
    wrote_on : (part : List ℕ) → Holds held sink_mid sink_now part → Holds held sink sink_now ((text ++ so.sent) ++ part)
    wrote_on part wrote = wrote ∙ ap (λ x. append_known x part) so.wrote ∙ known_more (held sink) (text ++ so.sent) part

    -- it was fetched and written
    pub sends_on : Holds held sink_mid sink_now bytes → SendsOn alone old new before after held sink sink_now text (take (block + 1) meta.pieces)
    sends_on wrote = record {
      sent = so.sent ++ bytes;
      fetches = fetches_on alone old mid new before between after meta rev count block so.sent bytes is so.fetches enter keeps b;
      wrote = wrote_on bytes wrote ∙ ap (append_known (held sink)) (append_assoc text so.sent bytes);
    }

    -- it was fetched, and not written whole
    pub breaks_write : (faults : K → ℕ) (end : ConnEnd) → end ≡ WriteFault → Breaks held faults sink_mid sink_now bytes
        → BreaksOff end alone old new before after held sink sink_now text meta.pieces
    breaks_write faults end failed broken =
        let P : List ℕ → Type 0 = λ l. IsPart l ((text ++ so.sent) ++ broken.part) in
        record {
          count = block + 1;
          sent = so.sent ++ bytes;
          part = (text ++ so.sent) ++ broken.part;
          fetches = fetches_on alone old mid new before between after meta rev count block so.sent bytes is so.fetches enter keeps b;
          fewer = λ other. absurd (other failed);
          some = subst P (append_assoc text so.sent bytes) (part_behind (text ++ so.sent) bytes broken.part broken.some);
          wrote = wrote_on broken.part broken.wrote;
        }

-- ---- faults that don't come for a block that a version has

no_piece : (pieces : List Piece) (block : ℕ) → block < length pieces → slice_get pieces block ≡ None → ⊥
no_piece pieces block less none =
    ⊎_elim
    (λ there. let e : None ≡ Some there.0 = sym none ∙ there.2 in cc)
    (λ past. omega (arith, less, past.0))
    (slice_get_cases pieces block).1

found_has : (old new : Kept) (others : List Cmd) (rev block : ℕ) → new ≡ with_more old others → (has : HasBlock (state_of old) rev block)
    → block_at new rev block ≡ Some (slice_get has.meta.pieces block)
found_has old new others rev block grown has =
    found_later old new others has.meta rev (length has.meta.pieces) block grown (record { kept = has.kept; rev_is = has.rev_is; count_is = refl })

pub never_no_rev : (alone : Bool) (old new : Kept) (rev block : ℕ) → HasBlock (state_of old) rev block → OthersEnter alone old new → block_at new rev block ≡ None → ⊥
never_no_rev alone old new rev block has enter none =
    let e : None ≡ Some (slice_get has.meta.pieces block) = sym none ∙ found_has old new enter.others rev block enter.grown has in
    cc

pub never_no_block : (alone : Bool) (old new : Kept) (rev block : ℕ) → HasBlock (state_of old) rev block → OthersEnter alone old new → block_at new rev block ≡ Some None → ⊥
never_no_block alone old new rev block has enter none =
    no_piece has.meta.pieces block has.within
    (same_some (slice_get has.meta.pieces block) None (sym (found_has old new enter.others rev block enter.grown has) ∙ none))
