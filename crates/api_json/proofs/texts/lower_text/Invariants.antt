use Rattle.std.proofs.Common.{◌≡◌, ◌++◌, drop, string_bytes}
use Rattle.fh_model.specs.Paths.{lower_of}
use Rattle.api_json.proofs.texts.lower_text.Given as goal

abbrev pub invariant-loop-name : goal.invariant-loop-name
invariant-loop-name l = string_bytes l.out ++ lower_of (drop l.name-index l.names) ≡ lower_of l.names
