-- What a choice comes to where its test is known.
use Rattle.std.proofs.Common.{◌≡◌, Bool, true, false, if◌then◌else◌, refl}

pub chosen : {A : Type 0} (test : Bool) (some other : A) → test ≡ true → (if test then some else other) ≡ some
chosen true some other is = refl
chosen false some other is = absurd (cc)

pub passed : {A : Type 0} (test : Bool) (some other : A) → test ≡ false → (if test then some else other) ≡ other
passed true some other is = absurd (cc)
passed false some other is = refl
