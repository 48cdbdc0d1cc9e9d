-- What a call adds to what a crash may leave of a disk in memory.
use Rattle.std.proofs.Common.{◌≡◌, ◌≢◌, ◌⊎◌, inl, inr, ⊎_elim, ℕ, ◌≤◌, Bool, true, false, MatchBool, List, ◌∷◌, length, refl, sym, subst, arith, Vec}
use Rattle.fh_world.specs.declared.disk.FileNo.{FileNo}
use Rattle.fh_world.specs.declared.disk.FileNo.TheVariants.{Head, SlotA, SlotB, Blocks}
use Rattle.fh_world.specs.declared.contents.Step.{Step}
use Rattle.fh_world.specs.declared.contents.Step.TheVariants.{Written, Synced}
use Rattle.fh_world.specs.Disk.{Files, Torn, Overwritten, Writes, Elapses}
use Rattle.fh_world.specs.Replay.{same_file, seen_after, MayLeave, LeftSince, torn_whole, seen_may_leave}
use Rattle.std.specs.declared.alloc.Global.{Global}

pub same_file_same : (f : FileNo) → same_file f f ≡ true
same_file_same Head = refl
same_file_same SlotA = refl
same_file_same SlotB = refl
same_file_same Blocks = refl

-- two files are the same, or the test tells them apart
pub file_cases : (f g : FileNo) → (g ≡ f) ⊎ (same_file f g ≡ false)
file_cases Head Head = inl refl
file_cases SlotA SlotA = inl refl
file_cases SlotB SlotB = inl refl
file_cases Blocks Blocks = inl refl
file_cases Head SlotA = inr refl
file_cases Head SlotB = inr refl
file_cases Head Blocks = inr refl
file_cases SlotA Head = inr refl
file_cases SlotA SlotB = inr refl
file_cases SlotA Blocks = inr refl
file_cases SlotB Head = inr refl
file_cases SlotB SlotA = inr refl
file_cases SlotB Blocks = inr refl
file_cases Blocks Head = inr refl
file_cases Blocks SlotA = inr refl
file_cases Blocks SlotB = inr refl

pub same_file_other : (f g : FileNo) → g ≢ f → same_file f g ≡ false
same_file_other f g other = ⊎_elim (λ same. absurd (other same)) (λ is. is) (file_cases f g)

-- one call more
pub elapses_step : (step : Step) (earlier later : List Step) → later ≡ step ∷ earlier → Elapses (length earlier) (length later) (LeftSince earlier) (LeftSince later) (MayLeave later)
elapses_step step earlier later is = subst (λ (l : List Step). Elapses (length earlier) (length l) (LeftSince earlier) (LeftSince l) (MayLeave l)) (sym is) (record {
  later = omega arith;
  nothing_else = λ t image le left. ⊎_elim (λ now. inr now) (λ before. inl before.1) left;
  keeps = λ t image le left. inr (le, left);
})

-- what a write makes of the files and of what a crash may leave
pub written_step : (files_old files_new : Files) (earlier later : List Step) (file : FileNo) (at : ℕ) (bytes : List ℕ) (kept : Vec ℕ Global) → later ≡ Written file at kept ∷ earlier → kept.items ≡ bytes
    → at ≤ length (files_old file) → Overwritten at bytes (files_old file) (files_new file) → ((g : FileNo) → g ≢ file → files_new g ≡ files_old g) → Writes file at (length bytes) files_old files_new (MayLeave earlier) (MayLeave later)
written_step files_old files_new earlier later file at bytes kept is same within holds others = record {
  seen = subst (Torn at (length bytes) (files_old file)) (sym holds) (torn_whole at bytes (files_old file) within);
  crash = λ c may.
      let both = subst (λ (l : List Step). MayLeave l file c) is may in
      let torn = subst (λ (b : Bool). MatchBool b ((d : List ℕ) × MayLeave earlier file d × Torn at (length kept.items) d c) (MayLeave earlier file c)) (same_file_same file) both in
      (torn.0, torn.1, subst (λ (l : List ℕ). Torn at (length l) torn.0 c) same torn.2);
  others_seen = others;
  others_crash = λ g other c may.
      let both = subst (λ (l : List Step). MayLeave l g c) is may in
      subst (λ (b : Bool). MatchBool b ((d : List ℕ) × MayLeave earlier g d × Torn at (length kept.items) d c) (MayLeave earlier g c)) (same_file_other file g other) both;
}

-- a sync leaves what a read gave, and nothing else
pub synced_step : (earlier later : List Step) (file : FileNo) → later ≡ Synced file ∷ earlier → (g : FileNo) (c : List ℕ) → MayLeave later g c → MayLeave earlier g c
synced_step earlier later file is g c may =
    let both = subst (λ (l : List Step). MayLeave l g c) is may in
    go (same_file file g) both
  where
    go : (b : Bool) → MatchBool b (c ≡ seen_after earlier g) (MayLeave earlier g c) → MayLeave earlier g c
    go true same = subst (MayLeave earlier g) (sym same) (seen_may_leave earlier g)
    go false before = before

-- what the test tells apart is not the same
pub apart : (f g : FileNo) → same_file f g ≡ false → g ≢ f
apart f g test same =
    let both : same_file f f ≡ false = subst (λ (h : FileNo). same_file f h ≡ false) same test in
    let yes = same_file_same f in
    cc
