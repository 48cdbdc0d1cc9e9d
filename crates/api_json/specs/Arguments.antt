-- What an argument says, and the request that it makes.
use Rattle.std.specs.Prelude.{ℕ, if◌then◌else◌, List, [], ◌∷◌, Option, None, Some, Result, Ok, Err}
use Rattle.std.specs.Str.{is_utf8}
use Rattle.serde_json.specs.Data.{Data, null}
use Rattle.serde_json.specs.Read as json
use Rattle.api_types.specs.declared.request.Request.{Request}
use Rattle.api_types.specs.declared.route.Route.{Route}
use Rattle.api_json.specs.declared.reading.ReadFault.{ReadFault}
use Rattle.api_json.specs.declared.reading.ReadFault.TheVariants.{BadJson}
use Rattle.api_json.specs.declared.values.Held.{Held}
use Rattle.api_json.specs.Fields.{fields_of}
use Rattle.api_json.specs.Requests.{request_of}
use Rattle.api_json.specs.Values.{values_of}

-- the value of the bytes; no bytes count as null
abbrev pub argument_of : List ℕ → Option Data
argument_of [] = Some null
argument_of (first ∷ bytes) = if is_utf8 (first ∷ bytes) then json.read (first ∷ bytes) else None

abbrev pub made : Route → Result (List Held) ReadFault → Result Request ReadFault
made route (Err found) = Err found
made route (Ok values) = Ok (request_of route values)

abbrev pub request_in : Route → Option Data → Result Request ReadFault
request_in route None = Err BadJson
request_in route (Some argument) = made route (values_of argument (fields_of route))

-- the request that the bytes make, or why they make none
abbrev pub read_of : Route → List ℕ → Result Request ReadFault
read_of route bytes = request_in route (argument_of bytes)
