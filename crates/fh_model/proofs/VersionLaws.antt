-- A version that is kept stays as it is.
use Rattle.std.proofs.Common.{◌≡◌, inl, inr, ℕ, ◌<◌, ◌==◌, Bool, true, false, cond, List, [], ◌∷◌, ◌++◌, find, slice_get, Option, Some, None, refl, ap, ◌∙◌, arith}
use Rattle.std.proofs.lemmas.Bool.{eq-eqb, ne_eqb}
use Rattle.std.specs.List.{AllByRecursion as ByRecursion}
use Rattle.std.specs.Option.{option_map}
use Rattle.fh_model.specs.declared.commands.Cmd.{Cmd}
use Rattle.fh_model.specs.declared.files.FileMeta.{FileMeta}
use Rattle.fh_model.specs.declared.files.Revision.{Revision}
use Rattle.fh_model.specs.declared.pieces.Piece.{Piece}
use Rattle.fh_model.specs.History.{Kept, Follows, state_of, state_after}
use Rattle.fh_model.specs.KeptFiles.{VersionsStay}
use Rattle.fh_model.specs.Pieces.{block_in, named_in}
use Rattle.fh_model.specs.State.{State, meta_of}
use Rattle.fh_model.specs.Step.{step}
use Rattle.fh_model.proofs.PieceLaws.{Adds, step_adds}
use Rattle.fh_model.proofs.Runs.{state_more}

-- `meta_of` over the versions alone
abbrev pub version_in : List Revision → ℕ → Option FileMeta
version_in kept rev = option_map (λ one. one.file) (find (λ one. one.file.rev == rev) kept)

-- ---- one more version

behind_first : (b : Bool) (rest more : Option Revision) (first : Revision) (meta : FileMeta)
    → (option_map (λ one. one.file) rest ≡ Some meta → option_map (λ one. one.file) more ≡ Some meta)
    → option_map (λ one. one.file) (cond b (Some first) rest) ≡ Some meta → option_map (λ one. one.file) (cond b (Some first) more) ≡ Some meta
behind_first true rest more first meta stays is = is
behind_first false rest more first meta stays is = stays is

pub push_stays : (kept : List Revision) (new : Revision) (rev : ℕ) (meta : FileMeta) → version_in kept rev ≡ Some meta → version_in (kept ++ new ∷ []) rev ≡ Some meta
push_stays [] new rev meta is = cc
push_stays (first ∷ kept) new rev meta is =
    behind_first (first.file.rev == rev) (find (λ one. one.file.rev == rev) kept) (find (λ one. one.file.rev == rev) (kept ++ new ∷ [])) first meta
    (push_stays kept new rev meta) is

-- it is found under its rev, where those before it have lower ones
pub push_found : (kept : List Revision) (new : Revision) → ByRecursion (λ one. one.file.rev < new.file.rev) kept → version_in (kept ++ new ∷ []) new.file.rev ≡ Some new.file
push_found [] new below = ap (λ b. option_map (λ (one : Revision). one.file) (cond b (Some new) None)) (eq-eqb new.file.rev new.file.rev refl)
push_found (first ∷ kept) new below =
    ap (λ b. option_map (λ (one : Revision). one.file) (cond b (Some first) (find (λ (one : Revision). one.file.rev == new.file.rev) (kept ++ new ∷ []))))
    (ne_eqb first.file.rev new.file.rev (λ e. omega (arith, e, below.0)))
    ∙ push_found kept new below.1

-- ---- steps

adds_stay : (s t : State) (pieces : List Piece) → Adds s t pieces → VersionsStay s t
adds_stay s t pieces (inl same) rev meta is = ap (λ kept. version_in kept rev) same.0 ∙ is
adds_stay s t pieces (inr (inl adds)) rev meta is = ap (λ kept. version_in kept rev) adds.revisions ∙ push_stays s.revisions adds.added rev meta is
adds_stay s t pieces (inr (inr adds)) rev meta is = ap (λ kept. version_in kept rev) adds.revisions ∙ is

pub step_keeps_versions : (s : State) (cmd : Cmd) → VersionsStay s (step s cmd).state
step_keeps_versions s cmd = adds_stay s (step s cmd).state (named_in cmd.act) (step_adds s cmd)

-- Each version that a state keeps is kept by each later state.
pub versions_stay : (s : State) (history : List Cmd) → VersionsStay s (state_after s history)
versions_stay s [] rev meta is = is
versions_stay s (cmd ∷ history) rev meta is = versions_stay (step s cmd).state history rev meta (step_keeps_versions s cmd rev meta is)

-- the same of a history that goes on
pub follows_stay : (later kept : Kept) → Follows later kept → VersionsStay (state_of kept) (state_of later)
follows_stay later kept follows rev meta is =
    ap (λ one. meta_of (state_of one) rev) follows.1 ∙ ap (λ s. meta_of s rev) (state_more kept follows.0) ∙ versions_stay (state_of kept) follows.0 rev meta is

-- ---- blocks

-- the version that something is found of
mapped : {A : Type 0} (of : FileMeta → A) (found : Option FileMeta) (one : A) → option_map of found ≡ Some one → (meta : FileMeta) × (found ≡ Some meta) × (of meta ≡ one)
mapped of None one is = cc
mapped of (Some meta) one is = (meta, refl, cc)

pub blocks_stay-later : (s later : State) → VersionsStay s later → (rev block : ℕ) (piece : Option Piece) → block_in s rev block ≡ Some piece → block_in later rev block ≡ Some piece
blocks_stay-later s later stay rev block piece is =
    let found = mapped (λ (meta : FileMeta). slice_get meta.pieces block) (meta_of s rev) piece is in
    ap (option_map (λ (meta : FileMeta). slice_get meta.pieces block)) (stay rev found.0 found.1) ∙ ap Some found.2

-- Each block of a version, and that it has no more, stays so.
pub blocks_stay : (s : State) (history : List Cmd) (rev block : ℕ) (piece : Option Piece) → block_in s rev block ≡ Some piece → block_in (state_after s history) rev block ≡ Some piece
blocks_stay s history rev block piece is = blocks_stay-later s (state_after s history) (versions_stay s history) rev block piece is
