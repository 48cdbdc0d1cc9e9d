use Rattle.std.proofs.Common.{rules, ◌≡◌, ◌≢◌, ◌∙◌, length, sym, ap}
use Rattle.std.proofs.lemmas.Result.{err_from_is_err_and}
use Rattle.fh_model.specs.History.{Kept, next_of}
use Rattle.store_core.proofs.AppendLemmas.{idle_waits}
use Rattle.store_core.proofs.StateLemmas.{longer_enters, sound_kept, no_run, still_run}
use Rattle.store_core.proofs.store.Store.let_in.Goals as goal

pub returns-in_err-next-clause-kept : goal.returns-in_err-next-clause-kept
returns-in_err-next-clause-kept g c = rw (← c.self.view_is) (λ told. sound_kept g.D.Disk c.self.inside.disk c.self.inside.journal c.self.inside.image c.self.inside.waiting told c.self.invariant)

pub returns-in_err-next-clause-any_moment : goal.returns-in_err-next-clause-any_moment
returns-in_err-next-clause-any_moment g c = rw (← c.self.view_is) (no_run g.D.Disk c.self.inside.disk c.self.inside.journal c.self.inside.image c.self.inside.waiting c.self.invariant g.met.D.Disk.only_now _)

pub returns-in_err-next-clause-unwritten : goal.returns-in_err-next-clause-unwritten
returns-in_err-next-clause-unwritten g c =
    let p = err_from_is_err_and c.from_residual.result c.from_residual.ensures.1 in
    rw p.1 (rw (← c.self.view_is) (λ idle told. still_run g.D.Disk c.self.inside.disk c.self.inside.journal c.self.inside.image c.self.inside.waiting c.self.invariant g.met.D.Disk.only_now told))

pub returns-then-kept-clause-kept : goal.returns-then-kept-clause-kept
returns-then-kept-clause-kept g c = rw (← c.self.view_is) (λ told. sound_kept g.D.Disk c.self.inside.disk c.self.inside.journal c.self.inside.image c.self.inside.waiting told c.self.invariant)

pub returns-then-kept-clause-any_moment : goal.returns-then-kept-clause-any_moment
returns-then-kept-clause-any_moment g c = rw (← c.self.view_is) (no_run g.D.Disk c.self.inside.disk c.self.inside.journal c.self.inside.image c.self.inside.waiting c.self.invariant g.met.D.Disk.only_now _)

pub returns-in_err-framed-clause-kept : goal.returns-in_err-framed-clause-kept
returns-in_err-framed-clause-kept g c = rw (← c.self.view_is) (λ told. sound_kept g.D.Disk c.self.inside.disk c.self.inside.journal c.self.inside.image c.self.inside.waiting told c.self.invariant)

pub returns-in_err-framed-clause-any_moment : goal.returns-in_err-framed-clause-any_moment
returns-in_err-framed-clause-any_moment g c = rw (← c.self.view_is) (no_run g.D.Disk c.self.inside.disk c.self.inside.journal c.self.inside.image c.self.inside.waiting c.self.invariant g.met.D.Disk.only_now _)

pub returns-in_err-framed-clause-unwritten : goal.returns-in_err-framed-clause-unwritten
returns-in_err-framed-clause-unwritten g c =
    let p = err_from_is_err_and c.from_residual-in_err-framed.result c.from_residual-in_err-framed.ensures.1 in
    rw p.1 (rw (← c.self.view_is) (λ idle told. still_run g.D.Disk c.self.inside.disk c.self.inside.journal c.self.inside.image c.self.inside.waiting c.self.invariant g.met.D.Disk.only_now told))

pub returns-in_err-next-clause-left : goal.returns-in_err-next-clause-left
returns-in_err-next-clause-left g c =
    let idle = rw (← c.self.view_is) at c.requires.idle in
    let p = err_from_is_err_and c.from_residual.result c.from_residual.ensures.1 in
    rw p.1 (rw (← c.self.view_is) (λ waits told. absurd (idle_waits c.self.inside.waiting idle waits)))

pub returns-in_err-framed-clause-left : goal.returns-in_err-framed-clause-left
returns-in_err-framed-clause-left g c =
    let idle = rw (← c.self.view_is) at c.requires.idle in
    let p = err_from_is_err_and c.from_residual-in_err-framed.result c.from_residual-in_err-framed.ensures.1 in
    rw p.1 (rw (← c.self.view_is) (λ waits told. absurd (idle_waits c.self.inside.waiting idle waits)))

pub append-requires-clause-enters : goal.append-requires-clause-enters
append-requires-clause-enters g c =
    let at = c.self.inside in
    let next : c.in_ok-next.next ≡ next_of at.image c.args.placed.0 = c.in_ok-next.ensures.image in
    let apart : length at.image.history ≢ length c.in_ok-next.next.history = search rules in
    rw (← c.self.view_is) (longer_enters at.image c.args.placed.0 (λ same. apart (same ∙ ap (λ (k : Kept). length k.history) (sym next))))

pub returns-in_err-append-clause-unwritten : goal.returns-in_err-append-clause-unwritten
returns-in_err-append-clause-unwritten g c =
    let p = err_from_is_err_and c.from_residual-in_err-append.result c.from_residual-in_err-append.ensures.1 in
    rw p.1 c.in_err-append.ensures.unwritten
