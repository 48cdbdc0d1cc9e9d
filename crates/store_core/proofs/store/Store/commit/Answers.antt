use Rattle.std.proofs.Common.{◌≡◌, ℕ, true, false, None, List, IfOk, OnOk, OnErr, IsTrue, is_some, sym, ◌∙◌, ap, subst}
use Rattle.fh_model.specs.declared.commands.Cmd.{Cmd}
use Rattle.fh_model.specs.History.{state_of, next_of, reply_of}
use Rattle.fh_model.specs.Pieces.{blocks_with, data_of, end_in, piece_of, with_piece}
use Rattle.fh_model.specs.Step.{step}
use Rattle.fh_world.specs.declared.FileNo.TheVariants as file
use Rattle.fh_world.specs.Disk.{LeavesOnly}
use Rattle.store_core.specs.Commit.{BeginsWith, IsFaulted, StandsAround, placed_in}
use Rattle.store_core.specs.Store.{finished, with_waiting}
use Rattle.store_core.proofs.HeldLemmas.{commit_held}
use Rattle.store_core.proofs.store.Store.commit.Goals as goal

pub let_in-requires-clause-piece : goal.let_in-requires-clause-piece
let_in-requires-clause-piece g c =
    let s = c.args.self.now in
    let end = c.next_place-place.ensures.place in
    let all : state_of s.image ≡ state_of (finished s) = ap (λ w. state_of (with_waiting s.image w)) (sym c.requires.idle) in
    let cmd = placed_in s c.args.bytes.now c.args.cmd in
    let is : c.placed.result.0 ≡ cmd =
    c.placed.ensures.cmd ∙ ap (λ n. record c.args.cmd { act = with_piece (piece_of n c.args.bytes.now) c.args.cmd.act }) (end ∙ ap end_in all) in
    let content : c.data_in-content.result.now ≡ data_of c.args.cmd.act c.args.bytes.now = c.data_in-content.ensures.data in
    c.placed.ensures.piece ∙ ap (λ n. piece_of n (data_of c.args.cmd.act c.args.bytes.now)) end ∙ ap (λ (b : List ℕ). piece_of (end_in (state_of s.image)) b) (sym content)

pub returns-clause-reply : goal.returns-clause-reply
returns-clause-reply g c =
    let s = c.args.self.now in
    let end = c.next_place-place.ensures.place in
    let all : state_of s.image ≡ state_of (finished s) = ap (λ w. state_of (with_waiting s.image w)) (sym c.requires.idle) in
    let cmd = placed_in s c.args.bytes.now c.args.cmd in
    let is : c.placed.result.0 ≡ cmd =
    c.placed.ensures.cmd ∙ ap (λ n. record c.args.cmd { act = with_piece (piece_of n c.args.bytes.now) c.args.cmd.act }) (end ∙ ap end_in all) in
    subst (λ (k : Cmd). IfOk c.let_in.result (λ reply. reply ≡ reply_of (finished s) k)) is c.let_in.ensures.reply

pub returns-clause-image : goal.returns-clause-image
returns-clause-image g c =
    let s = c.args.self.now in
    let end = c.next_place-place.ensures.place in
    let all : state_of s.image ≡ state_of (finished s) = ap (λ w. state_of (with_waiting s.image w)) (sym c.requires.idle) in
    let cmd = placed_in s c.args.bytes.now c.args.cmd in
    let is : c.placed.result.0 ≡ cmd =
    c.placed.ensures.cmd ∙ ap (λ n. record c.args.cmd { act = with_piece (piece_of n c.args.bytes.now) c.args.cmd.act }) (end ∙ ap end_in all) in
    subst (λ (k : Cmd). OnOk c.let_in.result ((c.let_in.new.self.image ≡ next_of (finished s) k) × (c.let_in.new.self.waiting ≡ None))) is c.let_in.ensures.image

pub returns-clause-fault : goal.returns-clause-fault
returns-clause-fault g c =
    let s = c.args.self.now in
    let end = c.next_place-place.ensures.place in
    let all : state_of s.image ≡ state_of (finished s) = ap (λ w. state_of (with_waiting s.image w)) (sym c.requires.idle) in
    let cmd = placed_in s c.args.bytes.now c.args.cmd in
    let is : c.placed.result.0 ≡ cmd =
    c.placed.ensures.cmd ∙ ap (λ n. record c.args.cmd { act = with_piece (piece_of n c.args.bytes.now) c.args.cmd.act }) (end ∙ ap end_in all) in
    subst (λ (k : Cmd). OnErr c.let_in.result (IsFaulted s k c.let_in.new.self)) is c.let_in.ensures.fault

pub returns-clause-refused : goal.returns-clause-refused
returns-clause-refused g c =
    let s = c.args.self.now in
    let end = c.next_place-place.ensures.place in
    let all : state_of s.image ≡ state_of (finished s) = ap (λ w. state_of (with_waiting s.image w)) (sym c.requires.idle) in
    let cmd = placed_in s c.args.bytes.now c.args.cmd in
    let is : c.placed.result.0 ≡ cmd =
    c.placed.ensures.cmd ∙ ap (λ n. record c.args.cmd { act = with_piece (piece_of n c.args.bytes.now) c.args.cmd.act }) (end ∙ ap end_in all) in
    subst (λ (k : Cmd). (step (state_of s.image) k).enters ≡ false → c.let_in.new.self ≡ s) is c.let_in.ensures.refused

pub returns-clause-any_moment : goal.returns-clause-any_moment
returns-clause-any_moment g c =
    let s = c.args.self.now in
    let end = c.next_place-place.ensures.place in
    let all : state_of s.image ≡ state_of (finished s) = ap (λ w. state_of (with_waiting s.image w)) (sym c.requires.idle) in
    let cmd = placed_in s c.args.bytes.now c.args.cmd in
    let is : c.placed.result.0 ≡ cmd =
    c.placed.ensures.cmd ∙ ap (λ n. record c.args.cmd { act = with_piece (piece_of n c.args.bytes.now) c.args.cmd.act }) (end ∙ ap end_in all) in
    subst (λ (k : Cmd). IsTrue g.D.Disk.tells → LeavesOnly g.D.Disk.moment g.D.Disk.left_since s.disk c.let_in.new.self.disk (StandsAround s k (g.D.Disk.seen c.let_in.new.self.disk file.Blocks))) is c.let_in.ensures.any_moment

pub returns-clause-stored : goal.returns-clause-stored
returns-clause-stored g c =
    let s = c.args.self.now in
    let end = c.next_place-place.ensures.place in
    let all : state_of s.image ≡ state_of (finished s) = ap (λ w. state_of (with_waiting s.image w)) (sym c.requires.idle) in
    let cmd = placed_in s c.args.bytes.now c.args.cmd in
    let is : c.placed.result.0 ≡ cmd =
    c.placed.ensures.cmd ∙ ap (λ n. record c.args.cmd { act = with_piece (piece_of n c.args.bytes.now) c.args.cmd.act }) (end ∙ ap end_in all) in
    let content : c.data_in-content.result.now ≡ data_of c.args.cmd.act c.args.bytes.now = c.data_in-content.ensures.data in
    subst (λ (k : Cmd). OnOk c.let_in.result ((step (state_of s.image) k).enters ≡ true → IsTrue g.D.Disk.tells → BeginsWith (blocks_with (state_of s.image) (data_of c.args.cmd.act c.args.bytes.now) (g.D.Disk.seen s.disk file.Blocks)) (g.D.Disk.seen c.let_in.new.self.disk file.Blocks))) is
    (subst (λ (b : List ℕ). OnOk c.let_in.result ((step (state_of s.image) c.placed.result.0).enters ≡ true → IsTrue g.D.Disk.tells → BeginsWith (blocks_with (state_of s.image) b (g.D.Disk.seen s.disk file.Blocks)) (g.D.Disk.seen c.let_in.new.self.disk file.Blocks))) content c.let_in.ensures.stored)

pub returns-clause-left : goal.returns-clause-left
returns-clause-left g c =
    let s = c.args.self.now in
    let end = c.next_place-place.ensures.place in
    let all : state_of s.image ≡ state_of (finished s) = ap (λ w. state_of (with_waiting s.image w)) (sym c.requires.idle) in
    let cmd = placed_in s c.args.bytes.now c.args.cmd in
    let is : c.placed.result.0 ≡ cmd =
    c.placed.ensures.cmd ∙ ap (λ n. record c.args.cmd { act = with_piece (piece_of n c.args.bytes.now) c.args.cmd.act }) (end ∙ ap end_in all) in
    let content : c.data_in-content.result.now ≡ data_of c.args.cmd.act c.args.bytes.now = c.data_in-content.ensures.data in
    subst (λ (b : List ℕ). OnErr c.let_in.result (is_some c.let_in.new.self.waiting ≡ true → IsTrue g.D.Disk.tells → BeginsWith (blocks_with (state_of s.image) b (g.D.Disk.seen s.disk file.Blocks)) (g.D.Disk.seen c.let_in.new.self.disk file.Blocks))) content c.let_in.ensures.left

pub returns-clause-held : goal.returns-clause-held
returns-clause-held g c = λ told held.
    commit_held g.D.Disk c.args.self.now c.let_in.new.self c.let_in.result c.args.bytes.now c.args.cmd c.requires.idle (c.next_place-place.ensures.within told)
    (returns-clause-image g c) (returns-clause-fault g c) (returns-clause-refused g c) told (returns-clause-stored g c) (c.let_in.ensures.below told) held
