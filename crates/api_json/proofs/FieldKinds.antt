-- The value of a field has the field's kind.
use Rattle.std.proofs.Common.{◌≡◌, ℕ, ◌&&◌, Bool, true, false, if◌then◌else◌, List, [], ◌∷◌, Option, None, Some, refl, subst, sym}
use Rattle.std.proofs.lemmas.Bool.{and_parts}
use Rattle.std.specs.declared.result.Result.{Result}
use Rattle.std.specs.declared.result.Result.TheVariants.{Ok, Err}
use Rattle.serde_json.specs.Data.{Data, null, boolean, number, string, array, object}
use Rattle.api_json.specs.declared.fields.Field.{Field}
use Rattle.api_json.specs.declared.fields.Kind.{Kind}
use Rattle.api_json.specs.declared.fields.Kind.TheVariants as kind
use Rattle.api_json.specs.declared.reading.ReadFault.{ReadFault}
use Rattle.api_json.specs.declared.values.Held.{Held}
use Rattle.api_json.specs.declared.values.Held.TheVariants.{Text, Flag, Moment, Digest}
use Rattle.api_json.specs.declared.values.Held.TheVariants as held
use Rattle.api_json.specs.Requests.{begins_with, fit, has_kind, rest_of}
use Rattle.api_json.specs.Values.{before, checked, digest_in, digest_of, flag_in, held_in, keeps, mode_in, mode_of, moment_in, text_in, told_digest, told_mode, told_moment, value_of, values_of}
use Rattle.fh_model.specs.declared.commands.Mode.{Mode}
use Rattle.fh_model.specs.declared.commands.Mode.TheVariants as mode
use Rattle.fh_model.specs.declared.pieces.Bytes32.{Bytes32}
use Rattle.api_types.specs.Stamps.{moment_of}

is_kept : (test : Bool) (fault : ReadFault) (made value : Held) → (if test then Ok made else Err fault) ≡ Ok value → made ≡ value
is_kept true fault made value e = cc
is_kept false fault made value e = absurd (cc)

checked_kind : (field : Field) (found : Option Held) (value : Held)
    → ((made : Held) → found ≡ Some made → has_kind field.kind made ≡ true) → checked field found ≡ Ok value → has_kind field.kind value ≡ true
checked_kind field None value kinds e = absurd (cc)
checked_kind field (Some made) value kinds e =
    subst (λ held. has_kind field.kind held ≡ true) (is_kept (keeps field.rule made) _ made value e) (kinds made refl)

text_kind : (found : Option Data) (made : Held) → text_in found ≡ Some made → has_kind kind.Text made ≡ true
text_kind None made e = absurd (cc)
text_kind (Some null) made e = absurd (cc)
text_kind (Some (boolean b)) made e = absurd (cc)
text_kind (Some (number n)) made e = absurd (cc)
text_kind (Some (string s)) made e = let is : Text s ≡ made = cc in subst (λ held. has_kind kind.Text held ≡ true) is refl
text_kind (Some (array ds)) made e = absurd (cc)
text_kind (Some (object ms)) made e = absurd (cc)

flag_kind : (default : Bool) (found : Option Data) (made : Held) → flag_in default found ≡ Some made → has_kind (kind.Flag default) made ≡ true
flag_kind default None made e = let is : Flag default ≡ made = cc in subst (λ held. has_kind (kind.Flag default) held ≡ true) is refl
flag_kind default (Some null) made e = let is : Flag default ≡ made = cc in subst (λ held. has_kind (kind.Flag default) held ≡ true) is refl
flag_kind default (Some (boolean b)) made e = let is : Flag b ≡ made = cc in subst (λ held. has_kind (kind.Flag default) held ≡ true) is refl
flag_kind default (Some (number n)) made e = absurd (cc)
flag_kind default (Some (string s)) made e = absurd (cc)
flag_kind default (Some (array ds)) made e = absurd (cc)
flag_kind default (Some (object ms)) made e = absurd (cc)

no_moment : (made : Held) → Some (Moment None) ≡ Some made → has_kind kind.Moment made ≡ true
no_moment made e = let is : Moment None ≡ made = cc in subst (λ held. has_kind kind.Moment held ≡ true) is refl

told_moment_kind : (found : Option ℕ) (made : Held) → told_moment found ≡ Some made → has_kind kind.Moment made ≡ true
told_moment_kind None made e = absurd (cc)
told_moment_kind (Some s) made e = let is : Moment (Some s) ≡ made = cc in subst (λ held. has_kind kind.Moment held ≡ true) is refl

moment_kind : (found : Option Data) (made : Held) → moment_in found ≡ Some made → has_kind kind.Moment made ≡ true
moment_kind None made e = no_moment made e
moment_kind (Some null) made e = no_moment made e
moment_kind (Some (boolean b)) made e = absurd (cc)
moment_kind (Some (number n)) made e = absurd (cc)
moment_kind (Some (string s)) made e = told_moment_kind (moment_of s) made e
moment_kind (Some (array ds)) made e = absurd (cc)
moment_kind (Some (object ms)) made e = absurd (cc)

no_digest : (made : Held) → Some (Digest None) ≡ Some made → has_kind kind.Digest made ≡ true
no_digest made e = let is : Digest None ≡ made = cc in subst (λ held. has_kind kind.Digest held ≡ true) is refl

told_digest_kind : (found : Option Bytes32) (made : Held) → told_digest found ≡ Some made → has_kind kind.Digest made ≡ true
told_digest_kind None made e = absurd (cc)
told_digest_kind (Some d) made e = let is : Digest (Some d) ≡ made = cc in subst (λ held. has_kind kind.Digest held ≡ true) is refl

digest_kind : (found : Option Data) (made : Held) → digest_in found ≡ Some made → has_kind kind.Digest made ≡ true
digest_kind None made e = no_digest made e
digest_kind (Some null) made e = no_digest made e
digest_kind (Some (boolean b)) made e = absurd (cc)
digest_kind (Some (number n)) made e = absurd (cc)
digest_kind (Some (string s)) made e = told_digest_kind (digest_of s) made e
digest_kind (Some (array ds)) made e = absurd (cc)
digest_kind (Some (object ms)) made e = absurd (cc)

add_kind : (made : Held) → Some (held.Mode mode.Add) ≡ Some made → has_kind kind.Mode made ≡ true
add_kind made e = let is : held.Mode mode.Add ≡ made = cc in subst (λ value. has_kind kind.Mode value ≡ true) is refl

told_mode_kind : (found : Option Mode) (made : Held) → told_mode found ≡ Some made → has_kind kind.Mode made ≡ true
told_mode_kind None made e = absurd (cc)
told_mode_kind (Some m) made e = let is : held.Mode m ≡ made = cc in subst (λ value. has_kind kind.Mode value ≡ true) is refl

mode_kind : (found : Option Data) (made : Held) → mode_in found ≡ Some made → has_kind kind.Mode made ≡ true
mode_kind None made e = add_kind made e
mode_kind (Some null) made e = add_kind made e
mode_kind (Some (boolean b)) made e = told_mode_kind (mode_of (boolean b)) made e
mode_kind (Some (number n)) made e = told_mode_kind (mode_of (number n)) made e
mode_kind (Some (string s)) made e = told_mode_kind (mode_of (string s)) made e
mode_kind (Some (array ds)) made e = told_mode_kind (mode_of (array ds)) made e
mode_kind (Some (object ms)) made e = told_mode_kind (mode_of (object ms)) made e

held_kind : (k : Kind) (found : Option Data) (made : Held) → held_in k found ≡ Some made → has_kind k made ≡ true
held_kind kind.Text found made e = text_kind found made e
held_kind (kind.Flag default) found made e = flag_kind default found made e
held_kind kind.Moment found made e = moment_kind found made e
held_kind kind.Digest found made e = digest_kind found made e
held_kind kind.Mode found made e = mode_kind found made e

value_kind : (argument : Data) (field : Field) (value : Held) → value_of argument field ≡ Ok value → has_kind field.kind value ≡ true
value_kind argument field value e = checked_kind field _ value (λ made found. held_kind field.kind _ made found) e

both_true : (first second : Bool) → first ≡ true → second ≡ true → (first && second) ≡ true
both_true true second e f = f
both_true false second e f = e

joined_fit : (field : Field) (fields : List Field) (first : Result Held ReadFault) (rest : Result (List Held) ReadFault) (values : List Held)
    → ((value : Held) → first ≡ Ok value → has_kind field.kind value ≡ true)
    → ((more : List Held) → rest ≡ Ok more → fit fields more ≡ true)
    → before first rest ≡ Ok values → fit (field ∷ fields) values ≡ true
joined_fit field fields (Err found) rest values one all e = absurd (cc)
joined_fit field fields (Ok value) (Err found) values one all e = absurd (cc)
joined_fit field fields (Ok value) (Ok more) values one all e =
    let is : (value ∷ more) ≡ values = cc in
    subst (λ list. fit (field ∷ fields) list ≡ true) is (both_true _ _ (one value refl) (all more refl))

pub values_fit : (argument : Data) (fields : List Field) (values : List Held) → values_of argument fields ≡ Ok values → fit fields values ≡ true
values_fit argument [] values e = let is : [] ≡ values = cc in subst (λ list. fit [] list ≡ true) is refl
values_fit argument (field ∷ fields) values e =
    joined_fit field fields _ _ values (value_kind argument field) (values_fit argument fields) e

-- what fits begins with a value of the first field's kind, and its rest fits the other fields
pub first_fits : (field : Field) (fields : List Field) (values : List Held) → fit (field ∷ fields) values ≡ true → begins_with field.kind values ≡ true
first_fits field fields [] e = absurd (cc)
first_fits field fields (value ∷ values) e = (and_parts _ _ e).0

pub rest_fits : (field : Field) (fields : List Field) (values : List Held) → fit (field ∷ fields) values ≡ true → fit fields (rest_of values) ≡ true
rest_fits field fields [] e = absurd (cc)
rest_fits field fields (value ∷ values) e = (and_parts _ _ e).1

pub next_fits : (field : Field) (fields : List Field) (values rest : List Held) → rest ≡ rest_of values → fit (field ∷ fields) values ≡ true → fit fields rest ≡ true
next_fits field fields values rest is e = subst (λ list. fit fields list ≡ true) (sym is) (rest_fits field fields values e)
