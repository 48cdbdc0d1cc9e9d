use Rattle.store_core.proofs.FetchLemmas.{sound_lies}
use Rattle.store_core.proofs.StateLemmas.{idle_end}
use Rattle.store_core.proofs.store.Store.next_place.Goals as goal

pub end-requires : goal.end-requires
end-requires g c =
    let at = c.self.inside in
    let idle = rw (← c.self.view_is) at c.requires in
    idle_end g.D.Disk at.disk at.journal at.image at.waiting c.self.invariant idle

pub returns-clause-within : goal.returns-clause-within
returns-clause-within g c =
    let at = c.self.inside in
    rw (← c.self.view_is) (λ told. sound_lies g.D.Disk at.disk at.journal at.image at.waiting c.self.invariant told)
