use Rattle.std.proofs.Common.{◌≡◌, map, take}
use Rattle.name_core.proofs.machine.tags_of.Given as goal

abbrev pub invariant-loop-tag : goal.invariant-loop-tag
invariant-loop-tag l = l.texts.items ≡ map (λ tag. tag.now) (take l.tag-index l.tags)
