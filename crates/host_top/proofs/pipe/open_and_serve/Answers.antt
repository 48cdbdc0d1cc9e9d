use Rattle.std.proofs.Common.{inl, inr, ap, ◌∙◌}
use Rattle.host_top.specs.Status.{refusal_of}
use Rattle.host_top.proofs.Ends.{pipe_served, refused_opening}
use Rattle.host_top.proofs.pipe.open_and_serve.Goals as goal

pub returns-in-Err-clause-ran : goal.returns-in-Err-clause-ran
returns-in-Err-clause-ran g c =
    inr (refused_opening g.D.Disk g.S.Source g.K.Sink c.args.disk c.in-Err.disk c.args.input c.args.output c.in-Err.fault c.refusal_of.result
    c.refusal_of.ensures c.in-Err.ensures.refused c.in-Err.ensures.cause c.in-Err.ensures.meaning c.in-Err.ensures.any_moment)

pub returns-clause-ran : goal.returns-clause-ran
returns-clause-ran g c =
    let served = c.serve_store-status.result in
    rw c.into_disk.ensures.disk
    (inl (pipe_served g.D.Disk g.S.Source g.K.Sink (g.C.Clock.second c.args.clock.now) c.args.admin.now c.args.disk c.args.input served.2 c.args.output served.3 served.0
    c.in-Ok.store served.1 c.in-Ok.ensures.image c.in-Ok.ensures.found c.in-Ok.ensures.kept c.in-Ok.ensures.meaning c.in-Ok.ensures.any_moment c.in-Ok.ensures.later c.serve_store-status.ensures.served))

pub returns-in-Err-clause-disk_told : goal.returns-in-Err-clause-disk_told
returns-in-Err-clause-disk_told g c = λ other. c.in-Err.ensures.quiet (λ e. other (c.refusal_of.ensures ∙ ap refusal_of e))

pub returns-clause-disk_told : goal.returns-clause-disk_told
returns-clause-disk_told g c = rw c.into_disk.ensures.disk (λ other. c.serve_store-status.ensures.disk_told other ∙ c.in-Ok.ensures.once.kept)
