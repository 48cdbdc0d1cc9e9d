-- What a `MemDisk` shows: all that its calls may have left, by replaying them. The newest call comes first.
use Rattle.std.specs.Prelude.{◌≡◌, ◌⊎◌, ℕ, ◌+◌, ◌≤◌, Bool, true, false, MatchBool, List, [], ◌∷◌, ◌++◌, length, take, drop, nat_le, if◌then◌else◌, refl}
use Rattle.std.proofs.Common.{inl, inr, arith, ◌∙◌, ap, append_assoc, ◌-◌, length-append, length-drop, length-take-le}
use Rattle.std.proofs.lemmas.List.{take_at, drop_at}
use Rattle.std.proofs.lemmas.Bool.Decides.{nat_tests}
use Rattle.fh_world.specs.declared.disk.FileNo.{FileNo}
use Rattle.fh_world.specs.declared.disk.FileNo.TheVariants.{Head, SlotA, SlotB, Blocks}
use Rattle.fh_world.specs.declared.contents.Contents.{Contents}
use Rattle.fh_world.specs.declared.contents.Step.{Step}
use Rattle.fh_world.specs.declared.contents.Step.TheVariants.{Written, Synced}
use Rattle.fh_world.specs.Disk.{Files, Torn}

-- the files of a disk in memory
abbrev pub content : Contents → Files
content c Head = c.head.items
content c SlotA = c.slot_a.items
content c SlotB = c.slot_b.items
content c Blocks = c.blocks.items

-- whether two files are one
abbrev pub same_file : FileNo → FileNo → Bool
same_file Head Head = true
same_file SlotA SlotA = true
same_file SlotB SlotB = true
same_file Blocks Blocks = true
same_file _ _ = false

-- a file after a write that begins within it
abbrev pub overlaid : ℕ → List ℕ → List ℕ → List ℕ
overlaid at bytes old = if nat_le at (length old) then take at old ++ bytes ++ drop (at + length bytes) old else old

-- four files with these bytes
abbrev pub four : List ℕ → List ℕ → List ℕ → List ℕ → Files
four head slot_a slot_b blocks Head = head
four head slot_a slot_b blocks SlotA = slot_a
four head slot_a slot_b blocks SlotB = slot_b
four head slot_a slot_b blocks Blocks = blocks

-- what a read gives after these calls
abbrev pub seen_after : List Step → Files
seen_after [] g = []
seen_after (Written file at bytes ∷ earlier) g = if same_file file g then overlaid at bytes.items (seen_after earlier g) else seen_after earlier g
seen_after (Synced file ∷ earlier) g = seen_after earlier g

-- what a crash after these calls may leave of each file
abbrev pub MayLeave : List Step → FileNo → List ℕ → Type 0
MayLeave [] g c = c ≡ []
MayLeave (Written file at bytes ∷ earlier) g c = MatchBool (same_file file g) ((d : List ℕ) × MayLeave earlier g d × Torn at (length bytes.items) d c) (MayLeave earlier g c)
MayLeave (Synced file ∷ earlier) g c = MatchBool (same_file file g) (c ≡ seen_after earlier g) (MayLeave earlier g c)

-- what a crash after at least t of these calls might have left
abbrev pub LeftSince : List Step → ℕ → Files → Type 0
LeftSince [] t image = (g : FileNo) → MayLeave [] g (image g)
LeftSince (step ∷ earlier) t image = ((g : FileNo) → MayLeave (step ∷ earlier) g (image g)) ⊎ ((t ≤ length earlier) × LeftSince earlier t image)

-- what is written within a file is a torn write that was whole
pub torn_whole : (at : ℕ) (bytes old : List ℕ) → at ≤ length old → Torn at (length bytes) old (take at old ++ bytes ++ drop (at + length bytes) old)
torn_whole at bytes old within =
    let n = length bytes in
    let front : length (take at old) ≡ at = length-take-le at old within in
    let both : length (take at old ++ bytes) ≡ at + n = omega (arith, length-append (take at old) bytes) in
    let rest = drop (at + n) old in
    let size : length (take at old ++ bytes ++ rest) ≡ at + n + (length old - (at + n)) = omega (arith, length-append (take at old ++ bytes) rest, length-drop (at + n) old) in
    record {
      before = ap (take at) (append_assoc (take at old) bytes rest) ∙ take_at (take at old) (bytes ++ rest) at front;
      after = drop_at (take at old ++ bytes) rest (at + n) both;
      no_shorter = omega arith;
      no_longer = omega arith;
    }

pub torn_none : (at n : ℕ) (c : List ℕ) → Torn at n c c
torn_none at n c = record { before = refl; after = refl; no_shorter = omega arith; no_longer = omega arith }

pub torn_overlaid : (at : ℕ) (bytes old : List ℕ) → Torn at (length bytes) old (overlaid at bytes old)
torn_overlaid at bytes old = go (nat_le at (length old)) refl
  where
    go : (b : Bool) → nat_le at (length old) ≡ b → Torn at (length bytes) old (if b then take at old ++ bytes ++ drop (at + length bytes) old else old)
    go true is = torn_whole at bytes old (grind (arith, nat_tests))
    go false is = torn_none at (length bytes) old

-- a process that dies leaves what it has written
pub seen_may_leave : (steps : List Step) (g : FileNo) → MayLeave steps g (seen_after steps g)
seen_may_leave [] g = refl
seen_may_leave (Written file at bytes ∷ earlier) g = go (same_file file g) (seen_may_leave earlier g)
  where
    go : (b : Bool) → MayLeave earlier g (seen_after earlier g) → MatchBool b ((d : List ℕ) × MayLeave earlier g d × Torn at (length bytes.items) d (if b then overlaid at bytes.items (seen_after earlier g) else seen_after earlier g)) (MayLeave earlier g (if b then overlaid at bytes.items (seen_after earlier g) else seen_after earlier g))
    go true before = (seen_after earlier g, before, torn_overlaid at bytes.items (seen_after earlier g))
    go false before = before
seen_may_leave (Synced file ∷ earlier) g = go (same_file file g) (seen_may_leave earlier g)
  where
    go : (b : Bool) → MayLeave earlier g (seen_after earlier g) → MatchBool b (seen_after earlier g ≡ seen_after earlier g) (MayLeave earlier g (seen_after earlier g))
    go true before = refl
    go false before = before

pub left_now : (steps : List Step) (t : ℕ) (image : Files) → t ≤ length steps → ((g : FileNo) → MayLeave steps g (image g)) → LeftSince steps t image
left_now [] t image le now = now
left_now (step ∷ earlier) t image le now = inl now

pub only_left : (steps : List Step) (image : Files) → LeftSince steps (length steps) image → (g : FileNo) → MayLeave steps g (image g)
only_left [] image left = left
only_left (step ∷ earlier) image (inl now) = now
only_left (step ∷ earlier) image (inr before) = absurd (omega (arith, before.0))
