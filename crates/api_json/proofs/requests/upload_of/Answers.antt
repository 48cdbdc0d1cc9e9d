use Rattle.std.proofs.Common.{false, List, [], ◌∷◌}
use Rattle.api_json.specs.declared.fields.Field.{Field}
use Rattle.api_json.specs.declared.fields.FieldName.TheVariants as name
use Rattle.api_json.specs.declared.fields.Kind.TheVariants as kind
use Rattle.api_json.specs.declared.fields.Rule.TheVariants.{Any, Only, Adds}
use Rattle.api_json.specs.Fields.{field}
use Rattle.api_json.proofs.FieldKinds.{first_fits, next_fits}
use Rattle.api_json.proofs.requests.upload_of.Goals as goal

-- the fields of an upload from each on
abbrev from_hash : List Field
from_hash = field name.ContentHash kind.Digest Any ∷ []

abbrev from_strict : List Field
from_strict = field name.StrictConflict (kind.Flag false) (Only false) ∷ from_hash

abbrev from_moment : List Field
from_moment = field name.ClientModified kind.Moment Any ∷ from_strict

abbrev from_rename : List Field
from_rename = field name.Autorename (kind.Flag false) (Only false) ∷ from_moment

abbrev from_mode : List Field
from_mode = field name.Mode kind.Mode Adds ∷ from_rename

pub take_moment-client-requires : goal.take_moment-client-requires
take_moment-client-requires c =
    let behind_path = next_fits (field name.Path kind.Text Any) from_mode c.args.values.items c.take_text-path.new.values.items c.take_text-path.ensures.rest c.requires in
    let behind_mode = next_fits (field name.Mode kind.Mode Adds) from_rename c.take_text-path.new.values.items c.take_mode-mode.new.values.items c.take_mode-mode.ensures.rest behind_path in
    let behind_rename = next_fits (field name.Autorename (kind.Flag false) (Only false)) from_moment c.take_mode-mode.new.values.items c.take_flag-rename.new.values.items c.take_flag-rename.ensures.rest behind_mode in
    first_fits (field name.ClientModified kind.Moment Any) from_strict c.take_flag-rename.new.values.items behind_rename

pub take_flag-strict-requires : goal.take_flag-strict-requires
take_flag-strict-requires c =
    let behind_path = next_fits (field name.Path kind.Text Any) from_mode c.args.values.items c.take_text-path.new.values.items c.take_text-path.ensures.rest c.requires in
    let behind_mode = next_fits (field name.Mode kind.Mode Adds) from_rename c.take_text-path.new.values.items c.take_mode-mode.new.values.items c.take_mode-mode.ensures.rest behind_path in
    let behind_rename = next_fits (field name.Autorename (kind.Flag false) (Only false)) from_moment c.take_mode-mode.new.values.items c.take_flag-rename.new.values.items c.take_flag-rename.ensures.rest behind_mode in
    let behind_moment = next_fits (field name.ClientModified kind.Moment Any) from_strict c.take_flag-rename.new.values.items c.take_moment-client.new.values.items c.take_moment-client.ensures.rest behind_rename in
    first_fits (field name.StrictConflict (kind.Flag false) (Only false)) from_hash c.take_moment-client.new.values.items behind_moment

pub take_digest-content_hash-requires : goal.take_digest-content_hash-requires
take_digest-content_hash-requires c =
    let behind_path = next_fits (field name.Path kind.Text Any) from_mode c.args.values.items c.take_text-path.new.values.items c.take_text-path.ensures.rest c.requires in
    let behind_mode = next_fits (field name.Mode kind.Mode Adds) from_rename c.take_text-path.new.values.items c.take_mode-mode.new.values.items c.take_mode-mode.ensures.rest behind_path in
    let behind_rename = next_fits (field name.Autorename (kind.Flag false) (Only false)) from_moment c.take_mode-mode.new.values.items c.take_flag-rename.new.values.items c.take_flag-rename.ensures.rest behind_mode in
    let behind_moment = next_fits (field name.ClientModified kind.Moment Any) from_strict c.take_flag-rename.new.values.items c.take_moment-client.new.values.items c.take_moment-client.ensures.rest behind_rename in
    let behind_strict = next_fits (field name.StrictConflict (kind.Flag false) (Only false)) from_hash c.take_moment-client.new.values.items c.take_flag-strict.new.values.items c.take_flag-strict.ensures.rest behind_moment in
    first_fits (field name.ContentHash kind.Digest Any) [] c.take_flag-strict.new.values.items behind_strict
