use Rattle.std.proofs.Common.{take}
use Rattle.std.specs.List.{All}
use Rattle.byte_formats.proofs.list.have_spellings.Given as goal

abbrev pub invariant-loop-item : goal.invariant-loop-item
invariant-loop-item g l = All g.T.Field.is_short (take l.item-index l.items) × All g.T.Field.fits (take l.item-index l.items)
