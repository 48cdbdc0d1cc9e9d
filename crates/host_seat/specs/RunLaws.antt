-- Runs of a store, one after another.
use Rattle.std.proofs.Common.{◌≡◌, inl, inr, refl, sym, ◌∙◌, ap, subst, ℕ, ◌≤◌, List, [], ◌++◌, append-nil, take, arith, IsTrue, Option, None, Some}
use Rattle.fh_world.specs.declared.FileNo.{FileNo}
use Rattle.fh_world.specs.declared.FileNo.TheVariants as file
use Rattle.fh_world.specs.declared.Disk as disk
use Rattle.fh_world.specs.Disk.{Files, LeavesOnly}
use Rattle.fh_world.proofs.Moments.{started, joined, weaker}
use Rattle.fh_model.specs.declared.commands.Cmd.{Cmd}
use Rattle.fh_model.specs.History.{Kept, state_of, with_more, next_of, entered, Follows}
use Rattle.fh_model.specs.Pieces.{SamePieces, end_in}
use Rattle.fh_model.specs.State.{State}
use Rattle.fh_model.proofs.Runs.{state_more, with_more_more}
use Rattle.store_core.specs.Commit.{StandsAround, IsFaulted}
use Rattle.store_core.specs.Files.{Stands}
use Rattle.store_core.specs.Store.{Opened, with_waiting, finished, IsKept, StandsFor}
use Rattle.store_core.proofs.BlockLemmas.{after_grows, fewer_same}
use Rattle.host_seat.specs.Direct.{Between, Ran}

pub follows_same : (kept : Kept) → Follows kept kept
follows_same kept = ([], ap (λ (h : List Cmd). record { start = kept.start; history = h }) (sym (append-nil kept.history)))

pub follows_more : (a b c : Kept) → Follows b a → Follows c b → Follows c a
follows_more a b c first second =
    (first.0 ++ second.0, second.1 ∙ ap (λ k. with_more k second.0) first.1 ∙ with_more_more a first.0 second.0)

pub follows_waiting : (kept : Kept) (waiting : Option Cmd) → Follows (with_waiting kept waiting) kept
follows_waiting kept None = follows_same kept
follows_waiting kept (Some cmd) = (_, refl)

-- the pieces end no earlier than before
follows_end : (later kept : Kept) → Follows later kept → end_in (state_of kept) ≤ end_in (state_of later)
follows_end later kept follows =
    omega (arith, after_grows (state_of kept) follows.0, ap (λ k. end_in (state_of k)) follows.1, ap end_in (state_more kept follows.0))

stands_between : (image : Kept) (waiting : Option Cmd) (blocks : List ℕ) (files : Files) → StandsFor files image waiting blocks → Between image (with_waiting image waiting) blocks files
stands_between image waiting blocks files (inl h) = (image, follows_same image, follows_waiting image waiting, h)
stands_between image waiting blocks files (inr h) = (with_waiting image waiting, follows_waiting image waiting, follows_same (with_waiting image waiting), h)

-- with a block file that has the same bytes of the pieces
stands_on : (files : Files) (s : State) (blocks more : List ℕ) → SamePieces s more blocks → Stands files s blocks → Stands files s more
stands_on files s blocks more same stands = record {
  start = stands.start;
  commands = stands.commands;
  stored = stands.stored;
  after = stands.after;
  same = stands.same ∙ sym same;
}

module _ {D : Type 0} (d : disk.Ghosts D) where
  pub ran_nothing : ((at : D) (image : Files) → d.left_since at (d.moment at) image → (g : FileNo) → d.may_leave at g (image g)) → (a : Opened D) → Ran d a a
  ran_nothing only_now a = record {
    place = refl;
    later = omega arith;
    follows = follows_same a.image;
    all_follows = follows_same (finished a);
    same = λ told. refl;
    kept = λ told kept. kept;
    crash = λ told kept. started d.moment d.left_since a.disk (Between a.image (finished a) (d.seen a.disk file.Blocks))
        (λ image left. stands_between a.image a.waiting (d.seen a.disk file.Blocks) image (kept image (λ g. only_now a.disk image left g)));
  }

  pub ran_on : (a b c : Opened D) → Ran d a b → Ran d b c → Ran d a c
  ran_on a b c first second =
      let before = d.seen a.disk file.Blocks in let between = d.seen b.disk file.Blocks in let blocks = d.seen c.disk file.Blocks in
      record {
        place = second.place ∙ first.place;
        later = omega (arith, first.later, second.later);
        follows = follows_more a.image b.image c.image first.follows second.follows;
        all_follows = follows_more (finished a) (finished b) (finished c) first.all_follows second.all_follows;
        same = λ told. fewer_same (end_in (state_of (finished a))) (end_in (state_of (finished b))) blocks between
            (follows_end (finished b) (finished a) first.all_follows) (second.same told) ∙ first.same told;
        kept = λ told kept. second.kept told (first.kept told kept);
        crash = λ told kept. joined d.moment d.left_since a.disk b.disk c.disk (Between a.image (finished c) blocks)
            (weaker d.moment d.left_since a.disk b.disk (Between a.image (finished b) between) (Between a.image (finished c) blocks) (first.crash told kept)
            (λ image h. (
              h.0,
              h.1,
              follows_more h.0 (finished b) (finished c) h.2 second.all_follows,
              stands_on image (state_of h.0) between blocks (fewer_same (end_in (state_of h.0)) (end_in (state_of (finished b))) blocks between (follows_end (finished b) h.0 h.2) (second.same told)) h.3,
            )))
            (weaker d.moment d.left_since b.disk c.disk (Between b.image (finished c) blocks) (Between a.image (finished c) blocks) (second.crash told (first.kept told kept))
            (λ image h. (h.0, follows_more a.image b.image h.0 first.follows h.1, h.2, h.3)));
      }

-- ---- a commit

follows_next : (kept : Kept) (cmd : Cmd) → Follows (next_of kept cmd) kept
follows_next kept cmd = (entered (state_of kept) cmd, refl)

follows_is : (a b c : Kept) → b ≡ c → Follows b a → Follows c a
follows_is a b c e h = subst (λ (k : Kept). Follows k a) e h

between_around : {D : Type 0} (old : Opened D) (cmd : Cmd) (last : Kept) → Follows last (next_of (finished old) cmd) → (blocks : List ℕ) (files : Files) → StandsAround old cmd blocks files → Between old.image last blocks files
between_around old cmd last follows blocks files (inl s) =
    (old.image, follows_same old.image, follows_more old.image (finished old) last (follows_waiting old.image old.waiting) (follows_more (finished old) (next_of (finished old) cmd) last (follows_next (finished old) cmd) follows), s)
between_around old cmd last follows blocks files (inr (inl s)) =
    (finished old, follows_waiting old.image old.waiting, follows_more (finished old) (next_of (finished old) cmd) last (follows_next (finished old) cmd) follows, s)
between_around old cmd last follows blocks files (inr (inr s)) =
    (next_of (finished old) cmd, follows_more old.image (finished old) (next_of (finished old) cmd) (follows_waiting old.image old.waiting) (follows_next (finished old) cmd), follows, s)

between_for : {D : Type 0} (old : Opened D) (last : Kept) → Follows last (finished old) → (blocks : List ℕ) (files : Files) → StandsFor files old.image old.waiting blocks → Between old.image last blocks files
between_for old last follows blocks files (inl s) = (old.image, follows_same old.image, follows_more old.image (finished old) last (follows_waiting old.image old.waiting) follows, s)
between_for old last follows blocks files (inr s) = (finished old, follows_waiting old.image old.waiting, follows, s)

module _ {D : Type 0} (d : disk.Ghosts D) (old new : Opened D) (place : d.place new.disk ≡ d.place old.disk) (later : d.faults old.disk ≤ d.faults new.disk)
    (kept : IsTrue d.tells → IsKept d new) where
  -- a call that only reads
  pub ran_reads : (new.image ≡ old.image) × (new.waiting ≡ old.waiting) → d.seen new.disk file.Blocks ≡ d.seen old.disk file.Blocks
      → (IsTrue d.tells → LeavesOnly d.moment d.left_since old.disk new.disk (λ files. StandsFor files old.image old.waiting (d.seen new.disk file.Blocks))) → Ran d old new
  ran_reads is seen run =
      let all : finished new ≡ finished old = ap (λ k. with_waiting k new.waiting) is.0 ∙ ap (with_waiting old.image) is.1 in
      let last : Follows (finished new) (finished old) = follows_is (finished old) (finished old) (finished new) (sym all) (follows_same (finished old)) in
      record {
        place = place;
        later = later;
        follows = follows_is old.image old.image new.image (sym is.0) (follows_same old.image);
        all_follows = last;
        same = λ told. ap (take (end_in (state_of (finished old)))) seen;
        kept = λ told _. kept told;
        crash = λ told _. weaker d.moment d.left_since old.disk new.disk (λ files. StandsFor files old.image old.waiting (d.seen new.disk file.Blocks)) (Between old.image (finished new) (d.seen new.disk file.Blocks)) (run told)
            (between_for old (finished new) last (d.seen new.disk file.Blocks));
      }

  module _ (cmd : Cmd) (idle : old.waiting ≡ None) (below : IsTrue d.tells → SamePieces (state_of old.image) (d.seen new.disk file.Blocks) (d.seen old.disk file.Blocks))
      (run : IsTrue d.tells → LeavesOnly d.moment d.left_since old.disk new.disk (StandsAround old cmd (d.seen new.disk file.Blocks))) where
    same_pieces : IsTrue d.tells → SamePieces (state_of (finished old)) (d.seen new.disk file.Blocks) (d.seen old.disk file.Blocks)
    same_pieces told = subst (λ (w : Option Cmd). SamePieces (state_of (with_waiting old.image w)) (d.seen new.disk file.Blocks) (d.seen old.disk file.Blocks)) (sym idle) (below told)

    -- the command is the last of what finished
    ran_to : finished new ≡ next_of (finished old) cmd → Follows new.image old.image → Ran d old new
    ran_to is follows =
        let last : Follows (finished new) (next_of (finished old) cmd) = follows_is (next_of (finished old) cmd) (next_of (finished old) cmd) (finished new) (sym is) (follows_same (next_of (finished old) cmd)) in
        record {
          place = place;
          later = later;
          follows = follows;
          all_follows = follows_more (finished old) (next_of (finished old) cmd) (finished new) (follows_next (finished old) cmd) last;
          same = same_pieces;
          kept = λ told _. kept told;
          crash = λ told _. weaker d.moment d.left_since old.disk new.disk (StandsAround old cmd (d.seen new.disk file.Blocks)) (Between old.image (finished new) (d.seen new.disk file.Blocks)) (run told)
              (between_around old cmd (finished new) last (d.seen new.disk file.Blocks));
        }

    -- it entered, or was refused
    pub ran_commits : (new.image ≡ next_of (finished old) cmd) × (new.waiting ≡ None) → Ran d old new
    ran_commits is =
        ran_to (ap (with_waiting new.image) is.1 ∙ is.0)
        (follows_is old.image (next_of (finished old) cmd) new.image (sym is.0)
        (follows_more old.image (finished old) (next_of (finished old) cmd) (follows_waiting old.image old.waiting) (follows_next (finished old) cmd)))

    module _ (unwritten : new.waiting ≡ None → IsTrue d.tells → LeavesOnly d.moment d.left_since old.disk new.disk (λ files. StandsFor files old.image old.waiting (d.seen new.disk file.Blocks))) where
      -- nothing is left of it
      ran_without : new.waiting ≡ None → finished new ≡ finished old → Follows new.image old.image → Ran d old new
      ran_without none is follows =
          let last : Follows (finished new) (finished old) = follows_is (finished old) (finished old) (finished new) (sym is) (follows_same (finished old)) in
          record {
            place = place;
            later = later;
            follows = follows;
            all_follows = last;
            same = same_pieces;
            kept = λ told _. kept told;
            crash = λ told _. weaker d.moment d.left_since old.disk new.disk (λ files. StandsFor files old.image old.waiting (d.seen new.disk file.Blocks)) (Between old.image (finished new) (d.seen new.disk file.Blocks)) (unwritten none told)
                (between_for old (finished new) last (d.seen new.disk file.Blocks));
          }

      -- a fault, over a store in which nothing waited
      pub ran_fails : IsFaulted old cmd new → Ran d old new
      ran_fails (inl before) =
          ran_without (before.1 ∙ idle) (ap (λ k. with_waiting k new.waiting) before.0 ∙ ap (with_waiting old.image) before.1)
          (follows_is old.image old.image new.image (sym before.0) (follows_same old.image))
      ran_fails (inr (inl done)) =
          ran_without done.1 (ap (with_waiting new.image) done.1 ∙ done.0) (follows_is old.image (finished old) new.image (sym done.0) (follows_waiting old.image old.waiting))
      ran_fails (inr (inr left)) =
          ran_to (ap (with_waiting new.image) left.1 ∙ ap (λ k. next_of k cmd) left.0) (follows_is old.image (finished old) new.image (sym left.0) (follows_waiting old.image old.waiting))
