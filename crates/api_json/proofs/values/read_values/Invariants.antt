use Rattle.std.proofs.Common.{◌≡◌, drop}
use Rattle.serde_json.specs.View.{view}
use Rattle.api_json.specs.Values.{values_of}
use Rattle.api_json.proofs.Runs.{behind}
use Rattle.api_json.proofs.values.read_values.Given as goal

abbrev pub invariant-loop-field : goal.invariant-loop-field
invariant-loop-field l =
    values_of (view l.argument) l.fields ≡ behind l.values.items (values_of (view l.argument) (drop l.field-index l.fields))
