-- The table of routes and the fields of their arguments, in the order in which these are tested.
use Rattle.std.specs.Prelude.{ℕ, codes, false, List, [], ◌∷◌}
use Rattle.api_types.specs.declared.route.Route.{Route}
use Rattle.api_types.specs.declared.route.Route.TheVariants.{CreateFolder, GetMetadata, Upload, Download}
use Rattle.api_json.specs.declared.fields.Field.{Field}
use Rattle.api_json.specs.declared.fields.FieldName.{FieldName}
use Rattle.api_json.specs.declared.fields.FieldName.TheVariants as name
use Rattle.api_json.specs.declared.fields.Kind.{Kind}
use Rattle.api_json.specs.declared.fields.Kind.TheVariants as kind
use Rattle.api_json.specs.declared.fields.Rule.{Rule}
use Rattle.api_json.specs.declared.fields.Rule.TheVariants.{Any, BelowRoot, Only, Adds}

abbrev pub field : FieldName → Kind → Rule → Field
field called holds rule = record { name = called; kind = holds; rule = rule }

abbrev pub fields_of : Route → List Field
fields_of CreateFolder =
    field name.Path kind.Text Any ∷
    field name.Autorename (kind.Flag false) (Only false) ∷ []
fields_of GetMetadata =
    field name.Path kind.Text BelowRoot ∷
    field name.IncludeDeleted (kind.Flag false) (Only false) ∷ []
fields_of Upload =
    field name.Path kind.Text Any ∷
    field name.Mode kind.Mode Adds ∷
    field name.Autorename (kind.Flag false) (Only false) ∷
    field name.ClientModified kind.Moment Any ∷
    field name.StrictConflict (kind.Flag false) (Only false) ∷
    field name.ContentHash kind.Digest Any ∷ []
fields_of Download =
    field name.Path kind.Text Any ∷ []

-- the key of a field
abbrev pub name_text : FieldName → List ℕ
name_text name.Path = codes "path"
name_text name.Autorename = codes "autorename"
name_text name.IncludeDeleted = codes "include_deleted"
name_text name.Mode = codes "mode"
name_text name.ClientModified = codes "client_modified"
name_text name.StrictConflict = codes "strict_conflict"
name_text name.ContentHash = codes "content_hash"
