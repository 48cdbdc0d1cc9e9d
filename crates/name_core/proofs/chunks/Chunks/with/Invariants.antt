use Rattle.std.proofs.Common.{◌≡◌, ◌++◌, take}
use Rattle.name_core.proofs.chunks.Chunks.with.Given as goal

abbrev pub invariant-loop-item : goal.invariant-loop-item
invariant-loop-item g l = l.list ≡ l.self ++ take l.item-index l.items
