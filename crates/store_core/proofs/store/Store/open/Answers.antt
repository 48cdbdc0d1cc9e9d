use Rattle.std.proofs.Common.{rules, None}
use Rattle.store_core.specs.Store.{IsSound}
use Rattle.store_core.proofs.StateLemmas.{sound_kept}
use Rattle.store_core.proofs.store.Store.open.Goals as goal

pub returns-in-Ok-clause-kept : goal.returns-in-Ok-clause-kept
returns-in-Ok-clause-kept g c =
    let sound : IsSound g.D.Disk c.open_on.new.disk c.in-Ok.journal c.in-Ok.image None = search rules in
    λ told. sound_kept g.D.Disk c.open_on.new.disk c.in-Ok.journal c.in-Ok.image None told sound
