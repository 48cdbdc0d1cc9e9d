-- The values of the fields that a head is read for, found in one go.
use Rattle.std.specs.Prelude.{◌≡◌, ℕ, ◌+◌, List, if◌then◌else◌, Option, Some, None, option_map, codes}
use Rattle.http_in.specs.declared.fields.Values.{Values}
use Rattle.http_in.specs.Fields.{is_same_name, find_field}
use Rattle.http_in.specs.Framing.{count_named}

-- the first that is there
abbrev pub first_of : Option (List ℕ) → Option (List ℕ) → Option (List ℕ)
first_of o None = o
first_of None (Some v) = Some v
first_of (Some u) (Some v) = Some u

-- the value of a field of that name
abbrev pub value_if : List ℕ → List ℕ × List ℕ → Option (List ℕ)
value_if name f = if is_same_name f.0 name then Some f.1 else None

-- these are the values that the fields have
pub record AreValues (fields : List (List ℕ × List ℕ)) (v : Values) : Type 0 where
  pub length_is : option_map (λ b. b.now) v.length ≡ find_field (codes "content-length") fields
  pub lengths_is : v.lengths ≡ count_named (codes "content-length") fields
  pub coding_is : option_map (λ b. b.now) v.coding ≡ find_field (codes "transfer-encoding") fields
  pub expect_is : option_map (λ b. b.now) v.expect ≡ find_field (codes "expect") fields
  pub connection_is : option_map (λ b. b.now) v.connection ≡ find_field (codes "connection") fields
  pub authorization_is : option_map (λ b. b.now) v.authorization ≡ find_field (codes "authorization") fields
  pub arg_is : option_map (λ b. b.now) v.arg ≡ find_field (codes "dropbox-api-arg") fields

-- after one more field
pub record IsNoted (v : Values) (f : List ℕ × List ℕ) (w : Values) : Type 0 where
  pub length_is : option_map (λ b. b.now) w.length ≡ first_of (option_map (λ b. b.now) v.length) (value_if (codes "content-length") f)
  pub lengths_is : w.lengths ≡ v.lengths + (if is_same_name f.0 (codes "content-length") then 1 else 0)
  pub coding_is : option_map (λ b. b.now) w.coding ≡ first_of (option_map (λ b. b.now) v.coding) (value_if (codes "transfer-encoding") f)
  pub expect_is : option_map (λ b. b.now) w.expect ≡ first_of (option_map (λ b. b.now) v.expect) (value_if (codes "expect") f)
  pub connection_is : option_map (λ b. b.now) w.connection ≡ first_of (option_map (λ b. b.now) v.connection) (value_if (codes "connection") f)
  pub authorization_is : option_map (λ b. b.now) w.authorization
      ≡ first_of (option_map (λ b. b.now) v.authorization) (value_if (codes "authorization") f)
  pub arg_is : option_map (λ b. b.now) w.arg ≡ first_of (option_map (λ b. b.now) v.arg) (value_if (codes "dropbox-api-arg") f)

-- the values that all fields have come to these and the fields that are left
pub record ValuesSoFar (all left : List (List ℕ × List ℕ)) (v : Values) : Type 0 where
  pub length_is : find_field (codes "content-length") all ≡ first_of (option_map (λ b. b.now) v.length) (find_field (codes "content-length") left)
  pub lengths_is : count_named (codes "content-length") all ≡ v.lengths + count_named (codes "content-length") left
  pub coding_is : find_field (codes "transfer-encoding") all
      ≡ first_of (option_map (λ b. b.now) v.coding) (find_field (codes "transfer-encoding") left)
  pub expect_is : find_field (codes "expect") all ≡ first_of (option_map (λ b. b.now) v.expect) (find_field (codes "expect") left)
  pub connection_is : find_field (codes "connection") all
      ≡ first_of (option_map (λ b. b.now) v.connection) (find_field (codes "connection") left)
  pub authorization_is : find_field (codes "authorization") all
      ≡ first_of (option_map (λ b. b.now) v.authorization) (find_field (codes "authorization") left)
  pub arg_is : find_field (codes "dropbox-api-arg") all ≡ first_of (option_map (λ b. b.now) v.arg) (find_field (codes "dropbox-api-arg") left)
