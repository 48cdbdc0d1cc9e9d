use Rattle.std.proofs.Common.{rules, ◌≡◌, Some}
use Rattle.fh_model.specs.History.{state_of}
use Rattle.fh_model.specs.Pieces.{block_in}
use Rattle.store_core.proofs.FetchLemmas.{piece_lies, rests_run, sound_rests}
use Rattle.store_core.proofs.StateLemmas.{sound_kept, still_run}
use Rattle.store_core.proofs.store.Store.fetch.Goals as goal

pub returns-in_err-piece-clause-kept : goal.returns-in_err-piece-clause-kept
returns-in_err-piece-clause-kept g c =
    let at = c.self.inside in
    rw (← c.self.view_is) (λ told. sound_kept g.D.Disk at.disk at.journal at.image at.waiting told c.self.invariant)

pub returns-in_err-piece-clause-any_moment : goal.returns-in_err-piece-clause-any_moment
returns-in_err-piece-clause-any_moment g c =
    let at = c.self.inside in
    rw (← c.self.view_is) (λ told. still_run g.D.Disk at.disk at.journal at.image at.waiting c.self.invariant g.met.D.Disk.only_now told)

pub returns-in_err-bytes-clause-kept : goal.returns-in_err-bytes-clause-kept
returns-in_err-bytes-clause-kept g c = λ told.
    let at = c.self.inside in
    sound_kept g.D.Disk at.disk at.journal at.image at.waiting told c.self.invariant

pub returns-in_err-bytes-clause-any_moment : goal.returns-in_err-bytes-clause-any_moment
returns-in_err-bytes-clause-any_moment g c =
    let at = c.self.inside in
    rw (← c.self.view_is) (λ told. still_run g.D.Disk at.disk at.journal at.image at.waiting c.self.invariant g.met.D.Disk.only_now told)

pub get-requires-clause-lies : goal.get-requires-clause-lies
get-requires-clause-lies g c = λ told.
    let at = c.self.inside in
    let there : block_in (state_of at.image) c.args.rev c.args.block ≡ Some (Some c.in_ok-piece.piece) = search rules in
    piece_lies g.D.Disk at.disk at.journal at.image at.waiting c.self.invariant c.args.rev c.args.block c.in_ok-piece.piece there told

pub returns-in_err-get-clause-kept : goal.returns-in_err-get-clause-kept
returns-in_err-get-clause-kept g c = λ told.
    let at = c.self.inside in
    sound_kept g.D.Disk c.get.new.disk at.journal at.image at.waiting told (sound_rests g.D.Disk at.disk c.get.new.disk c.get.ensures.rests at.journal at.image at.waiting c.self.invariant)

pub returns-in_err-get-clause-any_moment : goal.returns-in_err-get-clause-any_moment
returns-in_err-get-clause-any_moment g c =
    let at = c.self.inside in
    rw (← c.self.view_is) (λ told. rests_run g.D.Disk at.disk c.get.new.disk c.get.ensures.rests at.journal at.image at.waiting c.self.invariant c.get.ensures.any_moment told)

pub returns-clause-kept : goal.returns-clause-kept
returns-clause-kept g c = λ told.
    let at = c.self.inside in
    sound_kept g.D.Disk c.get.new.disk at.journal at.image at.waiting told (sound_rests g.D.Disk at.disk c.get.new.disk c.get.ensures.rests at.journal at.image at.waiting c.self.invariant)

pub returns-clause-any_moment : goal.returns-clause-any_moment
returns-clause-any_moment g c =
    let at = c.self.inside in
    rw (← c.self.view_is) (λ told. rests_run g.D.Disk at.disk c.get.new.disk c.get.ensures.rests at.journal at.image at.waiting c.self.invariant c.get.ensures.any_moment told)

pub invariant_of-self-2 : goal.invariant_of-self-2
invariant_of-self-2 g c =
    let at = c.self.inside in
    sound_rests g.D.Disk at.disk c.get.new.disk c.get.ensures.rests at.journal at.image at.waiting c.self.invariant

pub invariant_of-self-in_err-get : goal.invariant_of-self-in_err-get
invariant_of-self-in_err-get g c =
    let at = c.self.inside in
    sound_rests g.D.Disk at.disk c.get.new.disk c.get.ensures.rests at.journal at.image at.waiting c.self.invariant
