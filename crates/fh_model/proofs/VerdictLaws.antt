-- Laws of the verdict on a commit.
use Rattle.std.proofs.Common.{◌≡◌, ℕ, Bool, true, false, eqb, if◌then◌else◌, refl}
use Rattle.std.proofs.lemmas.Bool.{eqb-true}
use Rattle.fh_model.specs.declared.commands.Mode.TheVariants.{Add, Update}
use Rattle.fh_model.specs.declared.files.FileMeta.{FileMeta}
use Rattle.fh_model.specs.declared.pieces.Bytes32.{Bytes32}
use Rattle.fh_model.specs.declared.verdicts.Kind.TheVariants as kinds
use Rattle.fh_model.specs.declared.verdicts.Verdict.{Verdict}
use Rattle.fh_model.specs.declared.verdicts.Verdict.TheVariants.{Write, Same, Conflict}
use Rattle.fh_model.specs.Verdicts.{file, on_other, verdict}

-- a test that gives Write only where it is true
passes : (b : Bool) → (if b then Write else Conflict kinds.File) ≡ Write → b ≡ true
passes true h = refl
passes false h = cc

beside_same : (b : Bool) (other : Verdict) → (if b then Same else other) ≡ Write → other ≡ Write
beside_same true other h = cc
beside_same false other h = h

-- an update writes over a file only where it names its version
pub update_is_current : (meta : FileMeta) (rev : ℕ) (strict : Bool) (size : ℕ) (hash : Bytes32) → verdict (file meta) (Update rev) strict size hash ≡ Write → rev ≡ meta.rev
update_is_current meta rev strict size hash h =
    eqb-true rev meta.rev (passes (eqb rev meta.rev) (beside_same _ (on_other (Update rev) meta) h))

-- an add writes over no file
pub add_keeps : (meta : FileMeta) (strict : Bool) (size : ℕ) (hash : Bytes32) → verdict (file meta) Add strict size hash ≡ Write → ⊥
add_keeps meta strict size hash h = let never : Conflict kinds.File ≡ Write = beside_same _ (on_other Add meta) h in cc
