use Rattle.store_core.proofs.StateLemmas.{sound_kept}
use Rattle.store_core.proofs.store.Store.into_disk.Goals as goal

pub returns-clause-kept : goal.returns-clause-kept
returns-clause-kept g c = rw (← c.self.view_is) (λ told. sound_kept g.D.Disk c.self.inside.disk c.self.inside.journal c.self.inside.image c.self.inside.waiting told c.self.invariant)
