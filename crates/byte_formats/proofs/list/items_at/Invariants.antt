use Rattle.std.proofs.Common.{◌≡◌, ◌-◌}
use Rattle.byte_formats.specs.Formats.{times_at}
use Rattle.byte_formats.proofs.Loop.{with_front}
use Rattle.byte_formats.proofs.list.items_at.Given as goal

abbrev pub invariant-loop : goal.invariant-loop
invariant-loop g l = with_front l.items.items (times_at g.T.Field.reads (l.count - l.counter) l.rest) ≡ times_at g.T.Field.reads l.count l.bytes
