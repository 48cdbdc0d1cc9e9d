use Rattle.std.proofs.Common.{◌≡◌, ◌-◌}
use Rattle.byte_formats.specs.Texts.{characters_at, fault_of}
use Rattle.byte_formats.specs.declared.text.Awaited.TheVariants.{Lead}
use Rattle.byte_formats.proofs.text.fault_at.Given as goal

abbrev pub invariant-loop-done : goal.invariant-loop-done
invariant-loop-done l = fault_of (characters_at l.awaited (l.len - l.done) l.rest) ≡ fault_of (characters_at Lead l.len l.bytes)
