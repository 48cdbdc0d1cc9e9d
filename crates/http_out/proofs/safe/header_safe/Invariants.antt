use Rattle.std.proofs.Common.{◌≡◌, flat_map, string_bytes}
use Rattle.http_out.specs.HeaderSafe.{safe_char}
use Rattle.http_out.proofs.safe.header_safe.Given as goal

abbrev pub invariant-loop-c : goal.invariant-loop-c
invariant-loop-c l = string_bytes l.out ≡ flat_map safe_char l.yielded
