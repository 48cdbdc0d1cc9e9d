use Rattle.std.proofs.Common.{◌≡◌, ◌++◌, drop, string_bytes}
use Rattle.fh_model.specs.Paths.{display_of}
use Rattle.api_json.proofs.texts.display_text.Given as goal

abbrev pub invariant-loop-name : goal.invariant-loop-name
invariant-loop-name l = string_bytes l.out ++ display_of (drop l.name-index l.names) ≡ display_of l.names
