-- The table of routes.
use Rattle.std.specs.Prelude.{ℕ, codes, Bool, true, false, List, [], ◌∷◌, ◌++◌, find, Option}
use Rattle.std.specs.Str.{bytes_eq}
use Rattle.api_types.specs.declared.route.Route.{Route}
use Rattle.api_types.specs.declared.route.Route.TheVariants.{CreateFolder, GetMetadata, Upload, Download}

abbrev pub routes : List Route
routes = CreateFolder ∷ GetMetadata ∷ Upload ∷ Download ∷ []

-- the function that a route calls
abbrev pub function_of : Route → List ℕ
function_of CreateFolder = codes "files/create_folder_v2"
function_of GetMetadata = codes "files/get_metadata"
function_of Upload = codes "files/upload"
function_of Download = codes "files/download"

-- The body of the request or that of the reply is a file's content, so the argument stands in a header.
abbrev pub has_content : Route → Bool
has_content CreateFolder = false
has_content GetMetadata = false
has_content Upload = true
has_content Download = true

abbrev pub target_of : Route → List ℕ
target_of route = codes "/2/" ++ function_of route

-- the route whose target this is; each other target has none
abbrev pub route_of : List ℕ → Option Route
route_of target = find (λ route. bytes_eq (target_of route) target) routes
