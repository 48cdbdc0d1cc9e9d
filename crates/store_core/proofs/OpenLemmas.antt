-- What files stand for while a store is opened.
use Rattle.std.proofs.Common.{◌≡◌, inl, inr, ℕ, ◌≤◌, ◌^◌, List, [], length, Result, Ok, Err, IfOk, IfErr, IsErrOf, take, refl, sym, ◌∙◌, ap, subst, arith}
use Rattle.fh_world.specs.declared.FileNo.{FileNo}
use Rattle.fh_world.specs.declared.FileNo.TheVariants as file
use Rattle.fh_world.specs.declared.Disk as disk
use Rattle.fh_model.specs.History.{Kept}
use Rattle.fh_model.specs.Pieces.{end_in}
use Rattle.fh_model.specs.State.{State, opening}
use Rattle.fh_world.specs.Disk.{Files, Only, Rests, LeavesOnly}
use Rattle.fh_world.proofs.Moments.{weaker, joined}
use Rattle.gate_journal.specs.Journal.{slot_of}
use Rattle.gate_journal.specs.Slot.{found}
use Rattle.gate_journal.specs.declared.Journal.{Journal}
use Rattle.store_core.specs.declared.faults.StoreFault.{StoreFault}
use Rattle.store_core.specs.declared.faults.StoreFault.TheVariants as fault
use Rattle.store_core.specs.declared.head.HeadRead.{HeadRead}
use Rattle.store_core.specs.declared.head.HeadRead.TheVariants as head
use Rattle.store_core.specs.Bodies.{read_slot}
use Rattle.store_core.specs.Files.{Contents, New, of_slot, by_head, contents, Stands, IsNewOrMade, KeepsMeaning}
use Rattle.store_core.specs.Head.{head_in}
use Rattle.store_core.specs.Open.{IsSaid, LeavesMeaning, ReadsSlot}
use Rattle.store_core.specs.Store.{StandFor, IsSettledStore}
use Rattle.store_core.proofs.StateLemmas.{stands_by}

by_same : (h : HeadRead) (old new : Files) → ((g : FileNo) → new g ≡ old g) → by_head h new ≡ by_head h old
by_same head.New old new same = refl
by_same (head.NotAStore place) old new same = refl
by_same (head.Names slot) old new same =
    ap (λ (bytes : List ℕ). of_slot (read_slot (length (new file.Blocks)) bytes)) (same slot)
    ∙ ap (λ (blocks : List ℕ). of_slot (read_slot (length blocks) (old slot))) (same file.Blocks)

-- the same bytes stand for the same
pub same_contents : (old new : Files) → ((g : FileNo) → new g ≡ old g) → contents new ≡ contents old
same_contents old new same = ap (λ (bytes : List ℕ). by_head (head_in bytes) new) (same file.Head) ∙ by_same (head_in (old file.Head)) old new same

pub keeps_same : (old new : Files) → ((g : FileNo) → new g ≡ old g) → KeepsMeaning old new
keeps_same old new same = inl (same_contents old new same, same file.Blocks)

-- what stood for no store yet may stand for a new one
pub new_means : (old files : Files) → contents old ≡ New → IsNewOrMade files → KeepsMeaning old files
new_means old files none made = inr (none, made)

-- refusals that the outside makes
said_of : (found : Contents) (refused : StoreFault) → ((place : ℕ) → ((refused ≡ fault.Damaged place) → ⊥) × ((refused ≡ fault.NotAStore place) → ⊥)) → IsSaid found refused
said_of found fault.Disk outside = tt
said_of found fault.NoMemory outside = tt
said_of found (fault.NotAStore place) outside = absurd ((outside place).1 refl)
said_of found (fault.Damaged place) outside = absurd ((outside place).0 refl)

pub outside_said : {T : Type 0} (found : Contents) (P : Type 0) (r : Result T StoreFault) → ((place : ℕ) → (IsErrOf r (fault.Damaged place) → ⊥) × (IsErrOf r (fault.NotAStore place) → ⊥)) → IfErr r (λ refused. P → IsSaid found refused)
outside_said found P (Ok value) outside = tt
outside_said {T = T} found P (Err refused) outside = λ p.
    let failed : StoreFault → Result T StoreFault = λ x. Err x in
    said_of found refused (λ place. ((λ e. (outside place).0 (ap failed e)), (λ e. (outside place).1 (ap failed e))))

module _ {D : Type 0} (d : disk.Ghosts D) (old mid : D) where
  -- nothing was written
  pub looked : LeavesOnly d.moment d.left_since old mid (λ files. (g : FileNo) → d.may_leave old g (files g)) → LeavesOnly d.moment d.left_since old mid (LeavesMeaning (d.may_leave old) (d.seen old))
  looked run = weaker d.moment d.left_since old mid _ _ run (λ files left. inl left)

  -- and nothing later on
  pub looked_on : (new : D) → ((g : FileNo) (c : List ℕ) → d.may_leave mid g c → d.may_leave old g c) → LeavesOnly d.moment d.left_since old mid (LeavesMeaning (d.may_leave old) (d.seen old)) → LeavesOnly d.moment d.left_since mid new (λ files. (g : FileNo) → d.may_leave mid g (files g))
      → LeavesOnly d.moment d.left_since old new (LeavesMeaning (d.may_leave old) (d.seen old))
  looked_on new less first run = joined d.moment d.left_since old mid new _ first (weaker d.moment d.left_since mid new _ _ run (λ files left. inl (λ g. less g (files g) (left g))))

  -- a new store was made
  pub made_on : (new : D) → contents (d.seen old) ≡ New → LeavesOnly d.moment d.left_since old mid (LeavesMeaning (d.may_leave old) (d.seen old)) → LeavesOnly d.moment d.left_since mid new IsNewOrMade
      → LeavesOnly d.moment d.left_since old new (LeavesMeaning (d.may_leave old) (d.seen old))
  made_on new none first run = joined d.moment d.left_since old mid new _ first (weaker d.moment d.left_since mid new _ _ run (λ files made. inr (new_means (d.seen old) files none made)))

-- two facts of what is Ok give a third
pub if_ok : {T E : Type 0} (r : Result T E) (P Q R : T → Type 0) → ((x : T) → P x → Q x → R x) → IfOk r P → IfOk r Q → IfOk r R
if_ok (Ok x) P Q R third first second = third x first second
if_ok (Err e) P Q R third first second = tt

pub if_ok_one : {T E : Type 0} (r : Result T E) (P R : T → Type 0) → ((x : T) → P x → R x) → IfOk r P → IfOk r R
if_ok_one (Ok x) P R then first = then x first
if_ok_one (Err e) P R then first = tt

-- a new store has no piece
pub made_end : {J E : Type 0} (r : Result (J × Kept) E) → IfOk r (λ made. (made.1.start ≡ opening) × (made.1.history ≡ [])) → IfOk r (λ made. end_in made.1.start ≤ 2 ^ 62)
made_end (Ok made) is = let none : end_in made.1.start ≡ 0 = ap end_in is.0 in omega (arith, none)
made_end (Err e) is = tt

-- a store that was read is settled
module _ {D : Type 0} (d : disk.Ghosts D) (old mid new : D) where
  pub read_settled : (slot : FileNo) (j : Journal) (state : State) → slot_of j ≡ slot → head_in (d.seen old file.Head) ≡ head.Names slot
      → ((g : FileNo) → d.seen mid g ≡ d.seen old g) → ((g : FileNo) → Only (d.seen mid g) (d.may_leave mid g))
      → Rests (d.seen mid) (d.seen new) (d.may_leave mid) (d.may_leave new)
      → ReadsSlot d mid new slot j (length (d.seen mid file.Blocks)) state → IsSettledStore d new j state
  read_settled slot j state at named same durable rests reads =
      let before : d.seen mid file.Head ≡ d.seen old file.Head = same file.Head in
      let name : head.Names slot ≡ head.Names (slot_of j) = ap (λ (s : FileNo). head.Names s) (sym at) in
      let size = length (d.seen mid file.Blocks) in
      record {
        named = record {
          now = ap head_in (rests.seen file.Head ∙ before) ∙ named ∙ name;
          left = λ c may. ap head_in (durable file.Head c (rests.crash file.Head c may) ∙ before) ∙ named ∙ name;
        };
        bodies = reads.bodies;
        slot = reads.settled;
        len = size;
        stand = reads.stand;
        blocks = record {
          now = omega (arith, ap length (rests.seen file.Blocks));
          left = λ c may.
              let only : c ≡ d.seen mid file.Blocks = durable file.Blocks c (rests.crash file.Blocks c may) in
              (omega (arith, ap length only), ap (take (end_in state)) (only ∙ sym (rests.seen file.Blocks)));
        };
      }

  pub read_stands : (slot : FileNo) (j : Journal) (state : State) → head_in (d.seen old file.Head) ≡ head.Names slot → ((g : FileNo) → d.seen mid g ≡ d.seen old g)
      → ReadsSlot d mid new slot j (length (d.seen mid file.Blocks)) state → Stands (d.seen old) state (d.seen old file.Blocks)
  read_stands slot j state named same reads =
      stands_by (d.seen old) slot reads.bodies state (length (d.seen mid file.Blocks)) (d.seen old file.Blocks) named
      (ap found (sym (same slot)) ∙ reads.held) reads.stand (omega (arith, ap length (same file.Blocks))) refl

  -- over the block file as long as it is
  pub reads_over : (slot : FileNo) (j : Journal) (len : ℕ) (state : State) → ((g : FileNo) → d.seen mid g ≡ d.seen old g) → len ≡ length (d.seen old file.Blocks)
      → ReadsSlot d mid new slot j len state → ReadsSlot d old new slot j (length (d.seen old file.Blocks)) state
  reads_over slot j len state same is reads = record {
    bodies = reads.bodies;
    held = ap found (sym (same slot)) ∙ reads.held;
    settled = reads.settled;
    stand = subst (λ n. StandFor n reads.bodies state) is reads.stand;
  }
