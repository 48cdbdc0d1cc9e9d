-- Values of fields, one after the other.
use Rattle.std.proofs.Common.{List, ◌++◌}
use Rattle.std.specs.declared.result.Result.{Result}
use Rattle.std.specs.declared.result.Result.TheVariants.{Ok, Err}
use Rattle.api_json.specs.declared.reading.ReadFault.{ReadFault}
use Rattle.api_json.specs.declared.values.Held.{Held}

-- more values behind those that were read
abbrev pub behind : List Held → Result (List Held) ReadFault → Result (List Held) ReadFault
behind front (Err found) = Err found
behind front (Ok values) = Ok (front ++ values)
