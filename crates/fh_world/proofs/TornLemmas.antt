-- What is torn.
use Rattle.std.proofs.Common.{◌≡◌, ℕ, ◌+◌, ◌-◌, ◌≤◌, List, drop, refl, sym, ◌∙◌, ap, arith}
use Rattle.std.proofs.lemmas.List.{drop-drop}
use Rattle.fh_world.specs.Disk.{Torn}

-- nothing may have been written
pub torn_same : (at n : ℕ) (c : List ℕ) → Torn at n c c
torn_same at n c = record { before = refl; after = refl; no_shorter = omega arith; no_longer = omega arith }

pub torn_wider : (at n m : ℕ) (old new : List ℕ) → n ≤ m → Torn at n old new → Torn at m old new
torn_wider at n m old new le torn =
    let more : at + n + (m - n) ≡ at + m = omega (arith, le) in
    record {
      before = torn.before;
      after =
          ap (λ k. drop k new) (sym more) ∙ sym (drop-drop (m - n) (at + n) new) ∙ ap (drop (m - n)) torn.after
          ∙ drop-drop (m - n) (at + n) old ∙ ap (λ k. drop k old) more;
      no_shorter = torn.no_shorter;
      no_longer = omega (arith, le, torn.no_longer);
    }

pub torn_joined : (at n : ℕ) (old mid new : List ℕ) → Torn at n old mid → Torn at n mid new → Torn at n old new
torn_joined at n old mid new first second = record {
  before = second.before ∙ first.before;
  after = second.after ∙ first.after;
  no_shorter = omega (arith, first.no_shorter, second.no_shorter);
  no_longer = omega (arith, first.no_longer, second.no_longer);
}
