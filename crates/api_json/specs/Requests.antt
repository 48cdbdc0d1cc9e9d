-- The request of a route, from the values of its fields. Each value has the kind of its field, so what is said here of a
-- value of another kind never comes to pass.
use Rattle.std.specs.Prelude.{ℕ, ◌&&◌, Bool, true, false, List, [], ◌∷◌, Option, None}
use Rattle.fh_model.specs.declared.commands.Commit.{Commit}
use Rattle.fh_model.specs.declared.commands.Mode.{Mode}
use Rattle.fh_model.specs.declared.commands.Mode.TheVariants as mode
use Rattle.fh_model.specs.declared.pieces.Bytes32.{Bytes32}
use Rattle.api_types.specs.declared.request.Request.{Request}
use Rattle.api_types.specs.declared.request.Request.TheVariants as request
use Rattle.api_types.specs.declared.route.Route.{Route}
use Rattle.api_types.specs.declared.route.Route.TheVariants.{CreateFolder, GetMetadata, Upload, Download}
use Rattle.api_json.specs.declared.fields.Field.{Field}
use Rattle.api_json.specs.declared.fields.Kind.{Kind}
use Rattle.api_json.specs.declared.fields.Kind.TheVariants as kind
use Rattle.api_json.specs.declared.values.Held.{Held}
use Rattle.api_json.specs.declared.values.Held.TheVariants.{Text, Flag, Moment, Digest}
use Rattle.api_json.specs.declared.values.Held.TheVariants as held

abbrev pub has_kind : Kind → Held → Bool
has_kind kind.Text (Text text) = true
has_kind (kind.Flag default) (Flag flag) = true
has_kind kind.Moment (Moment moment) = true
has_kind kind.Digest (Digest digest) = true
has_kind kind.Mode (held.Mode told) = true
has_kind _ _ = false

-- each field has a value of its kind
abbrev pub fit : List Field → List Held → Bool
fit [] [] = true
fit [] (value ∷ values) = false
fit (field ∷ fields) [] = false
fit (field ∷ fields) (value ∷ values) = has_kind field.kind value && fit fields values

-- the first value has this kind
abbrev pub begins_with : Kind → List Held → Bool
begins_with kind [] = false
begins_with kind (value ∷ values) = has_kind kind value

abbrev pub first_text : List Held → List ℕ
first_text (Text text ∷ values) = text
first_text _ = []

abbrev pub first_flag : List Held → Bool
first_flag (Flag flag ∷ values) = flag
first_flag _ = false

abbrev pub first_moment : List Held → Option ℕ
first_moment (Moment moment ∷ values) = moment
first_moment _ = None

abbrev pub first_digest : List Held → Option Bytes32
first_digest (Digest digest ∷ values) = digest
first_digest _ = None

abbrev pub first_mode : List Held → Mode
first_mode (held.Mode told ∷ values) = told
first_mode _ = mode.Add

abbrev pub rest_of : List Held → List Held
rest_of [] = []
rest_of (value ∷ values) = values

-- the path, the mode, whether a vacant name is asked for, the moment, and whether equal contents conflict
abbrev pub commit_of : List Held → Commit
commit_of values = record {
  path = first_text values;
  mode = first_mode (rest_of values);
  rename = first_flag (rest_of (rest_of values));
  strict = first_flag (rest_of (rest_of (rest_of (rest_of values))));
  client = first_moment (rest_of (rest_of (rest_of values)));
}

abbrev pub request_of : Route → List Held → Request
request_of CreateFolder values = request.CreateFolder (first_text values) (first_flag (rest_of values))
request_of GetMetadata values = request.GetMetadata (first_text values)
request_of Upload values = request.Upload (commit_of values) (first_digest (rest_of (rest_of (rest_of (rest_of (rest_of values))))))
request_of Download values = request.Download (first_text values)
