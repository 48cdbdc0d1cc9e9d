use Rattle.std.proofs.Common.{◌∷◌, rules}
use Rattle.host_top.proofs.Lent.{ran_lent}
use Rattle.host_top.proofs.pipe.serve_lent.Goals as goal

pub returns-clause-ran : goal.returns-clause-ran
returns-clause-ran g c =
    let d = g.D.Disk in let s = g.S.Source in let k = g.K.Sink in
    let lent = ran_lent d s k (λ x. x.now) (λ x. x.now) (λ x. x.now) (λ x. x.ghost_name ∷ d.place x.now) (λ x. x.ghost_name ∷ s.place x.now) (λ x. x.ghost_name ∷ k.place x.now)
    (g.C.Clock.second c.args.clock.now) c.args.admin.now _ c.serve_disk-status.result.1 _ c.serve_disk-status.result.2 _ c.serve_disk-status.result.3 c.serve_disk-status.result.0 c.serve_disk-status.ensures.ran in
    search rules
