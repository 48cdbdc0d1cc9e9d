-- The plain text that tells what is wrong with an argument.
use Rattle.std.specs.Prelude.{ℕ, codes, List, ◌++◌}
use Rattle.api_types.specs.Routes.{function_of}
use Rattle.api_types.specs.declared.route.Route.{Route}
use Rattle.api_json.specs.declared.complaints.ArgumentFault.{ArgumentFault}
use Rattle.api_json.specs.declared.complaints.ArgumentFault.TheVariants.{BadJson, BadField, MissingHeader}
use Rattle.api_json.specs.Fields.{name_text}

abbrev pub fault_text : ArgumentFault → List ℕ
fault_text BadJson = codes "bad json"
fault_text (BadField name) = codes "bad field " ++ name_text name
fault_text MissingHeader = codes "missing header Dropbox-API-Arg"

abbrev pub complaint_text : Route → ArgumentFault → List ℕ
complaint_text route fault = codes "Error in call to API function \"" ++ (function_of route ++ (codes "\": " ++ fault_text fault))
