-- The path rule: the forms of a path, the cases in which a text is malformed, and what each other text stands for.
use Rattle.std.specs.Prelude.{ℕ, ◌==◌, ◌||◌, ◌&&◌, not, nat_eq, nat_lt, codes, Bool, true, false, if◌then◌else◌, List, [], ◌∷◌, drop, length, map, Option, None, Some}
use Rattle.std.specs.Char.{is_ascii_digit}
use Rattle.std.specs.Int.{is_in_range}
use Rattle.std.specs.List.{list_all, list_any, slice_split, starts_with}
use Rattle.std.specs.Option.{option_map}
use Rattle.std.specs.Str.{bytes_eq}
use Rattle.std.specs.Str.Parse.{digits_value}
use Rattle.fh_model.specs.declared.limits.TheConstants.{ID_DIGITS, NAME_MAX_BYTES, NAMES_MAX, NAMESPACE_MAX_DIGITS, PATH_MAX_BYTES, REV_MIN_DIGITS}
use Rattle.fh_model.specs.declared.names.Name.{Name}
use Rattle.fh_model.specs.declared.paths.PathArg.{PathArg}
use Rattle.fh_model.specs.declared.paths.PathArg.TheVariants.{Names, Id, Rev, Ns}
use Rattle.fh_model.specs.Folding.{folded}

pub data Form : Type 0 where
  -- names, each behind a slash; the root has none
  rooted : List (List ℕ) → Form
  -- any text behind `id:`
  item : List ℕ → Form
  -- what stands behind `rev:`
  revision : List ℕ → Form
  -- what stands behind `ns:` up to the first slash, and names, each behind a slash
  space : List ℕ → List (List ℕ) → Form

-- what stands between the slashes of a text, the first part before any slash
abbrev pub parts_of : List ℕ → List (List ℕ)
parts_of text = slice_split (λ byte. byte == 47) text

abbrev pub form_of_parts : List (List ℕ) → Option Form
form_of_parts [] = None
form_of_parts (head ∷ names) =
    if length head == 0 then Some (rooted names)
    else if starts_with nat_eq head (codes "ns:") then Some (space (drop 3 head) names)
    else None

-- the form of a text, where it has one
abbrev pub form_of : List ℕ → Option Form
form_of text =
    if starts_with nat_eq text (codes "id:") then Some (item (drop 3 text))
    else if starts_with nat_eq text (codes "rev:") then Some (revision (drop 4 text))
    else form_of_parts (parts_of text)

-- a name that is empty, `.` or `..`, that holds NUL, or that is too long
abbrev pub is_bad_name : List ℕ → Bool
is_bad_name name = length name == 0 || (bytes_eq name (codes ".") || (bytes_eq name (codes "..")
    || (list_any (λ byte. byte == 0) name || nat_lt NAME_MAX_BYTES (length name))))

-- too many names, or a bad one
abbrev pub has_bad_names : List (List ℕ) → Bool
has_bad_names names = nat_lt NAMES_MAX (length names) || list_any is_bad_name names

abbrev pub is_lower_hex : ℕ → Bool
is_lower_hex byte = is_ascii_digit byte || is_in_range 97 102 byte

-- too few digits behind `rev:`, or another character
abbrev pub is_bad_revision : List ℕ → Bool
is_bad_revision digits = nat_lt (length digits) REV_MIN_DIGITS || not (list_all is_lower_hex digits)

-- no digit or too many behind `ns:`, or another character
abbrev pub is_bad_space : List ℕ → Bool
is_bad_space digits = length digits == 0 || (nat_lt NAMESPACE_MAX_DIGITS (length digits) || not (list_all is_ascii_digit digits))

-- no form, or one that is malformed
abbrev pub has_bad_form : Option Form → Bool
has_bad_form None = true
has_bad_form (Some (rooted names)) = has_bad_names names
has_bad_form (Some (item text)) = false
has_bad_form (Some (revision digits)) = is_bad_revision digits
has_bad_form (Some (space digits names)) = is_bad_space digits || has_bad_names names

-- the text or its folded text is too long
abbrev pub is_overlong : List ℕ → Bool
is_overlong text = nat_lt PATH_MAX_BYTES (length text) || nat_lt PATH_MAX_BYTES (length (folded text))

abbrev pub is_malformed : List ℕ → Bool
is_malformed text = is_overlong text || has_bad_form (form_of text)

-- a name keeps the case in which it was written
abbrev pub name_of : List ℕ → Name
name_of shown = record { shown = shown; folded = folded shown }

-- the number that is written by just so many hex digits; each other text writes 0
abbrev pub number_of : List ℕ → ℕ
number_of text = if (length text == ID_DIGITS) && list_all is_lower_hex text then digits_value 16 text else 0

abbrev pub arg_of_form : Form → PathArg
arg_of_form (rooted names) = Names (map name_of names)
arg_of_form (item text) = Id (number_of text)
arg_of_form (revision digits) = Rev (number_of digits)
arg_of_form (space digits names) = Ns (digits_value 10 digits) (map name_of names)

-- what the form stands for, where it is not malformed
abbrev pub arg_of : Option Form → Option PathArg
arg_of form = if has_bad_form form then None else option_map arg_of_form form

-- what a path stands for, which a malformed one does not
abbrev pub path_of : List ℕ → Option PathArg
path_of text = if is_malformed text then None else option_map arg_of_form (form_of text)
