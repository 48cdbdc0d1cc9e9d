-- How a replay goes on.
use Rattle.std.proofs.Common.{◌≡◌, ◌≢◌, ⊎_elim, ℕ, ◌+◌, ◌<◌, ◌≤◌, Bool, MatchBool, List, [], ◌∷◌, length, take, drop, reverse, get_or, ◌-◌, sym, ◌∙◌, ap, subst, arith, Vec, if◌then◌else◌}
use Rattle.std.proofs.lemmas.List.{take_more, drop-drop, reverse-append}
use Rattle.std.specs.declared.alloc.Global.{Global}
use Rattle.fh_world.specs.declared.disk.FileNo.{FileNo}
use Rattle.fh_world.specs.declared.contents.Step.{Step}
use Rattle.fh_world.specs.declared.contents.Step.TheVariants.{Written, Synced}
use Rattle.fh_world.specs.Disk.{Files, Torn}
use Rattle.fh_world.specs.Replay.{overlaid, seen_after, MayLeave, torn_overlaid}
use Rattle.fh_world.proofs.MemoryLemmas.{same_file_same, file_cases, apart}

-- a shorter write that is torn is a longer one that is
pub torn_more : (at m n : ℕ) (c d : List ℕ) → m ≤ n → Torn at m c d → Torn at n c d
torn_more at m n c d less torn =
    let e : at + m + (n - m) ≡ at + n = omega arith in
    let after : drop (at + m + (n - m)) d ≡ drop (at + m + (n - m)) c = sym (drop-drop (n - m) (at + m) d) ∙ ap (drop (n - m)) torn.after ∙ drop-drop (n - m) (at + m) c in
    record {
      before = torn.before;
      after = subst (λ (k : ℕ). drop k d ≡ drop k c) e after;
      no_shorter = torn.no_shorter;
      no_longer = omega (arith, torn.no_longer);
    }

module _ (old new : Files) (earlier : List Step) (file : FileNo) (at : ℕ) (kept : Vec ℕ Global) (others : (g : FileNo) → g ≢ file → new g ≡ old g) where
  pub seen_written : ((g : FileNo) → old g ≡ seen_after earlier g) → new file ≡ overlaid at kept.items (old file) → (g : FileNo) → new g ≡ seen_after (Written file at kept ∷ earlier) g
  seen_written so_far own g = ⊎_elim
      (λ same. subst (λ (f : FileNo). new f ≡ seen_after (Written file at kept ∷ earlier) f) (sym same)
      (own ∙ ap (overlaid at kept.items) (so_far file) ∙ ap (λ (b : Bool). if b then overlaid at kept.items (seen_after earlier file) else seen_after earlier file) (sym (same_file_same file))))
      (λ apart_test. others g (apart file g apart_test) ∙ so_far g ∙ ap (λ (b : Bool). if b then overlaid at kept.items (seen_after earlier g) else seen_after earlier g) (sym apart_test))
      (file_cases file g)

  pub left_written : (bytes : List ℕ) → length bytes ≤ length kept.items → ((g : FileNo) → MayLeave earlier g (old g)) → new file ≡ overlaid at bytes (old file) → (g : FileNo) → MayLeave (Written file at kept ∷ earlier) g (new g)
  left_written bytes less so_far own g = ⊎_elim
      (λ same. subst (λ (f : FileNo). MayLeave (Written file at kept ∷ earlier) f (new f)) (sym same)
      (subst (λ (b : Bool). MatchBool b ((d : List ℕ) × MayLeave earlier file d × Torn at (length kept.items) d (new file)) (MayLeave earlier file (new file))) (sym (same_file_same file))
      (old file, so_far file, torn_more at (length bytes) (length kept.items) (old file) (new file) less (subst (Torn at (length bytes) (old file)) (sym own) (torn_overlaid at bytes (old file))))))
      (λ apart_test. subst (λ (b : Bool). MatchBool b ((d : List ℕ) × MayLeave earlier g d × Torn at (length kept.items) d (new g)) (MayLeave earlier g (new g))) (sym apart_test)
      (subst (MayLeave earlier g) (sym (others g (apart file g apart_test))) (so_far g)))
      (file_cases file g)

pub left_synced : (old new : Files) (earlier : List Step) (file : FileNo) → ((g : FileNo) → g ≢ file → new g ≡ old g) → ((g : FileNo) → MayLeave earlier g (old g)) → new file ≡ seen_after earlier file → (g : FileNo) → MayLeave (Synced file ∷ earlier) g (new g)
left_synced old new earlier file others so_far own g = ⊎_elim
    (λ same. subst (λ (f : FileNo). MayLeave (Synced file ∷ earlier) f (new f)) (sym same)
    (subst (λ (b : Bool). MatchBool b (new file ≡ seen_after earlier file) (MayLeave earlier file (new file))) (sym (same_file_same file)) own))
    (λ apart_test. subst (λ (b : Bool). MatchBool b (new g ≡ seen_after earlier g) (MayLeave earlier g (new g))) (sym apart_test)
    (subst (MayLeave earlier g) (sym (others g (apart file g apart_test))) (so_far g)))
    (file_cases file g)

-- the calls so far, and one more
pub reverse_more : (steps : List Step) (i : ℕ) (d : Step) → i < length steps → reverse (take (i + 1) steps) ≡ get_or steps i d ∷ reverse (take i steps)
reverse_more steps i d less = ap reverse (take_more steps i d less) ∙ reverse-append (take i steps) (get_or steps i d ∷ [])
