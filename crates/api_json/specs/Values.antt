-- The value of a field: what an argument has at its key, where this keeps the field's rule.
use Rattle.std.specs.Prelude.{ℕ, ◌==◌, ◌||◌, ◌&&◌, nat_le, codes, Bool, true, false, not, if◌then◌else◌, List, [], ◌∷◌, drop, length, take, Option, None, Some, Result, Ok, Err}
use Rattle.std.specs.Char.{is_ascii_digit}
use Rattle.std.specs.List.{list_all}
use Rattle.std.specs.Str.{bytes_eq}
use Rattle.hex.specs.Hex.{decode_sized}
use Rattle.hex.specs.declared.FromHexError.{FromHexError}
use Rattle.serde_json.specs.Data.{Data, null, boolean, string}
use Rattle.serde_json.specs.Find.{get}
use Rattle.fh_model.specs.declared.commands.Mode.{Mode}
use Rattle.fh_model.specs.declared.commands.Mode.TheVariants as mode
use Rattle.fh_model.specs.declared.limits.TheConstants.{NAMESPACE_MAX_DIGITS}
use Rattle.fh_model.specs.declared.pieces.Bytes32.{Bytes32}
use Rattle.fh_model.specs.PathRule.{is_bad_revision, is_lower_hex, number_of}
use Rattle.api_types.specs.Stamps.{moment_of}
use Rattle.api_json.specs.declared.fields.Field.{Field}
use Rattle.api_json.specs.declared.fields.Kind.{Kind}
use Rattle.api_json.specs.declared.fields.Kind.TheVariants as kind
use Rattle.api_json.specs.declared.fields.Rule.{Rule}
use Rattle.api_json.specs.declared.fields.Rule.TheVariants.{BelowRoot, Only, Adds}
use Rattle.api_json.specs.declared.reading.ReadFault.{ReadFault}
use Rattle.api_json.specs.declared.reading.ReadFault.TheVariants.{BadField}
use Rattle.api_json.specs.declared.values.Held.{Held}
use Rattle.api_json.specs.declared.values.Held.TheVariants.{Text, Flag, Moment, Digest}
use Rattle.api_json.specs.declared.values.Held.TheVariants as held
use Rattle.api_json.specs.Fields.{name_text}

-- ---- by kind, of what is found at the key

abbrev pub text_in : Option Data → Option Held
text_in (Some (string text)) = Some (Text text)
text_in _ = None

-- null counts as absent
abbrev pub flag_in : Bool → Option Data → Option Held
flag_in default None = Some (Flag default)
flag_in default (Some null) = Some (Flag default)
flag_in default (Some (boolean flag)) = Some (Flag flag)
flag_in default (Some _) = None

-- a moment is told by its own text alone
abbrev pub told_moment : Option ℕ → Option Held
told_moment None = None
told_moment (Some seconds) = Some (Moment (Some seconds))

abbrev pub moment_in : Option Data → Option Held
moment_in None = Some (Moment None)
moment_in (Some null) = Some (Moment None)
moment_in (Some (string text)) = told_moment (moment_of text)
moment_in (Some _) = None

abbrev pub digest_by : Result (List ℕ) FromHexError → Option Bytes32
digest_by (Ok bytes) = Some (record { bytes = bytes })
digest_by (Err found) = None

-- 32 bytes, as 64 lower-case hex digits
abbrev pub digest_of : List ℕ → Option Bytes32
digest_of text = if list_all is_lower_hex text then digest_by (decode_sized text 32) else None

abbrev pub told_digest : Option Bytes32 → Option Held
told_digest None = None
told_digest (Some digest) = Some (Digest (Some digest))

abbrev pub digest_in : Option Data → Option Held
digest_in None = Some (Digest None)
digest_in (Some null) = Some (Digest None)
digest_in (Some (string text)) = told_digest (digest_of text)
digest_in (Some _) = None

-- a mode without fields
abbrev pub simple_mode : List ℕ → Option Mode
simple_mode tag =
    if bytes_eq tag (codes "add") then Some mode.Add
    else if bytes_eq tag (codes "overwrite") then Some mode.Overwrite
    else None

-- the mode with a rev, by what is found at `update`
abbrev pub update_of : Option Data → Option Mode
update_of (Some (string digits)) = if is_bad_revision digits then None else Some (mode.Update (number_of digits))
update_of _ = None

-- an object with its tag, by what is found at `.tag`
abbrev pub tagged_mode : Data → Option Data → Option Mode
tagged_mode found (Some (string tag)) =
    if bytes_eq tag (codes "update") then update_of (get (codes "update") found) else simple_mode tag
tagged_mode found _ = None

abbrev pub mode_of : Data → Option Mode
mode_of (string tag) = simple_mode tag
mode_of found = tagged_mode found (get (codes ".tag") found)

abbrev pub told_mode : Option Mode → Option Held
told_mode None = None
told_mode (Some told) = Some (held.Mode told)

abbrev pub mode_in : Option Data → Option Held
mode_in None = Some (held.Mode mode.Add)
mode_in (Some null) = Some (held.Mode mode.Add)
mode_in (Some found) = told_mode (mode_of found)

abbrev pub held_in : Kind → Option Data → Option Held
held_in kind.Text found = text_in found
held_in (kind.Flag default) found = flag_in default found
held_in kind.Moment found = moment_in found
held_in kind.Digest found = digest_in found
held_in kind.Mode found = mode_in found

-- ---- by rule

-- 1 to 18 digits
abbrev pub are_namespace_digits : List ℕ → Bool
are_namespace_digits digits = not (length digits == 0) && (nat_le (length digits) NAMESPACE_MAX_DIGITS && list_all is_ascii_digit digits)

-- no text, or a namespace without names
abbrev pub is_root_path : List ℕ → Bool
is_root_path path = length path == 0 || (bytes_eq (take 3 path) (codes "ns:") && are_namespace_digits (drop 3 path))

abbrev pub is_add : Mode → Bool
is_add mode.Add = true
is_add mode.Overwrite = false
is_add (mode.Update rev) = false

abbrev pub keeps : Rule → Held → Bool
keeps BelowRoot (Text path) = not (is_root_path path)
keeps (Only flag) (Flag value) = if flag then value else not value
keeps Adds (held.Mode told) = is_add told
keeps _ _ = true

-- ---- of an argument

abbrev pub checked : Field → Option Held → Result Held ReadFault
checked field None = Err (BadField field.name)
checked field (Some value) = if keeps field.rule value then Ok value else Err (BadField field.name)

abbrev pub value_of : Data → Field → Result Held ReadFault
value_of argument field = checked field (held_in field.kind (get (name_text field.name) argument))

abbrev pub before : Result Held ReadFault → Result (List Held) ReadFault → Result (List Held) ReadFault
before (Err found) rest = Err found
before (Ok value) (Err found) = Err found
before (Ok value) (Ok values) = Ok (value ∷ values)

-- the values of all fields, or the first field that breaks its rule
abbrev pub values_of : Data → List Field → Result (List Held) ReadFault
values_of argument [] = Ok []
values_of argument (field ∷ fields) = before (value_of argument field) (values_of argument fields)
