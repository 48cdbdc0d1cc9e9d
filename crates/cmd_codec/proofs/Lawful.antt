-- Commands keep the laws of formats.
use Rattle.std.proofs.Common.{◌≡◌, ℕ, zero, suc, true, false, eqb, List, [], ◌∷◌, refl, sym, ap, arith}
use Rattle.fh_model.specs.declared.commands.Act.TheVariants.{MakeFolder, Upload}
use Rattle.fh_model.specs.declared.commands.Mode.{Mode}
use Rattle.fh_model.specs.declared.commands.Mode.TheVariants.{Add, Overwrite, Update}
use Rattle.byte_formats.specs.Formats.{Format, both, byte_where, made, only_kind, or_kind}
use Rattle.byte_formats.specs.Fields.{alone, n32, n64, flag, moment, optional}
use Rattle.byte_formats.specs.Lists.{text}
use Rattle.byte_formats.specs.Pieces.{piece_format}
use Rattle.byte_formats.proofs.Laws.{Lawful, follows_lawful, both_lawful, made_lawful, byte_lawful, same_lawful}
use Rattle.byte_formats.proofs.KindLaws.{OfKind, only_kinds, or_kinds, last_kind, made_kind, pick_kind}
use Rattle.byte_formats.proofs.FieldLaws.{alone_lawful, n32_lawful, n64_lawful, flag_lawful, optional_lawful}
use Rattle.byte_formats.proofs.ListLaws.{text_lawful}
use Rattle.byte_formats.proofs.Moments.{moment_lawful}
use Rattle.byte_formats.proofs.PieceLaws.{piece_lawful}
use Rattle.cmd_codec.specs.Commands.{kind_of, is_kind, act, command, command_fields, commit_fields, commit_format, commit_of, make_folder, make_folder_fields, mode_at, mode_format, of_make_folder, of_upload, upload, upload_fields}

-- ---- modes, as a choice of three kinds

mode_tag : Mode → ℕ
mode_tag Add = 0
mode_tag Overwrite = 1
mode_tag (Update rev) = 2

rev_of : Mode → ℕ
rev_of Add = 0
rev_of Overwrite = 0
rev_of (Update rev) = rev

abbrev updates : Format Mode
updates = made (λ rev. Update rev) rev_of n64

abbrev mode_kinds : Format Mode
mode_kinds = or_kind mode_tag 0 (alone Add) (or_kind mode_tag 1 (alone Overwrite) (only_kind 2 updates))

mode_kinds_lawful : Lawful mode_kinds
unfolding mode_tag rev_of
mode_kinds_lawful =
    (or_kinds mode_tag 0 (alone Add) (or_kind mode_tag 1 (alone Overwrite) (only_kind 2 updates)) (λ a h. ap mode_tag h) (alone_lawful Add)
    (or_kinds mode_tag 1 (alone Overwrite) (only_kind 2 updates) (λ a h. ap mode_tag h) (alone_lawful Overwrite)
    (only_kinds mode_tag 2 updates (λ a h. ap mode_tag (sym h.1)) (made_lawful (λ rev. Update rev) rev_of n64 (λ _ _. refl) n64_lawful)))).lawful

mode_reads : (bytes : List ℕ) → mode_format.read bytes ≡ mode_kinds.read bytes
unfolding mode_at
mode_reads [] = refl
mode_reads (zero ∷ rest) = refl
mode_reads (suc zero ∷ rest) = refl
mode_reads (suc (suc zero) ∷ rest) = refl
mode_reads (suc (suc (suc b)) ∷ rest) =
    let n0 : eqb (suc (suc (suc b))) 0 ≡ false = grind arith in
    let n1 : eqb (suc (suc (suc b))) 1 ≡ false = grind arith in
    let n2 : eqb (suc (suc (suc b))) 2 ≡ false = grind arith in
    rw (n0, n1, n2) refl

mode_fits : (mode : Mode) → mode_format.fits mode → mode_kinds.fits mode
unfolding mode_tag rev_of
mode_fits Add h = refl
mode_fits Overwrite h = refl
mode_fits (Update rev) h = (h, refl)

mode_fitting : (mode : Mode) → mode_kinds.fits mode → mode_format.fits mode
unfolding mode_tag rev_of
mode_fitting Add h = tt
mode_fitting Overwrite h = tt
mode_fitting (Update rev) h = h.0

mode_spells : (mode : Mode) → mode_kinds.fits mode → mode_kinds.spell mode ≡ mode_format.spell mode
unfolding mode_tag rev_of
mode_spells Add h = refl
mode_spells Overwrite h = refl
mode_spells (Update rev) h = refl

mode_lawful : Lawful mode_format
mode_lawful = same_lawful mode_kinds mode_format mode_reads mode_fits mode_fitting mode_spells tt mode_kinds_lawful

-- ---- commits

commit_lawful : Lawful commit_format
unfolding commit_format
commit_lawful =
    made_lawful commit_of (λ commit. (commit.path, (commit.mode, (commit.rename, (commit.strict, commit.client))))) commit_fields (λ _ _. refl)
    (both_lawful text (both mode_format (both flag (both flag (optional moment)))) text_lawful
    (both_lawful mode_format (both flag (both flag (optional moment))) mode_lawful
    (both_lawful flag (both flag (optional moment)) flag_lawful
    (both_lawful flag (optional moment) flag_lawful (optional_lawful moment moment_lawful)))))

-- ---- the kinds

make_folder_kind : OfKind kind_of 1 make_folder
unfolding make_folder
make_folder_kind = made_kind kind_of 1 (λ x. MakeFolder x.0 x.1.0 x.1.1) of_make_folder make_folder_fields (λ _. refl) (λ _. refl)
    (both_lawful n64 (both text flag) n64_lawful (both_lawful text flag text_lawful flag_lawful))

upload_kind : OfKind kind_of 2 upload
unfolding upload
upload_kind = made_kind kind_of 2 (λ x. Upload x.0 x.1.0 x.1.1.0 x.1.1.1) of_upload upload_fields (λ _. refl) (λ _. refl)
    (both_lawful n64 (both commit_format (both n32 (optional piece_format))) n64_lawful
    (both_lawful commit_format (both n32 (optional piece_format)) commit_lawful
    (both_lawful n32 (optional piece_format) n32_lawful (optional_lawful piece_format piece_lawful))))

act_kind : (kind : ℕ) → is_kind kind ≡ true → OfKind kind_of kind (act kind)
act_kind kind h =
    pick_kind kind_of kind 1 make_folder upload make_folder_kind
    (λ n1. last_kind kind_of kind 2 upload upload_kind (rw n1 at h))

pub command_lawful : Lawful command
unfolding command
command_lawful =
    made_lawful (λ x. record { seat = x.1.0; at = x.1.1.0; act = x.1.1.1 }) (λ cmd. (kind_of cmd.act, (cmd.seat, (cmd.at, cmd.act)))) command_fields
    (λ x h. ap (λ (kind : ℕ). (kind, x.1)) ((act_kind x.0 h.0).kind x.1.1.1 h.1.1.1))
    (follows_lawful (byte_where is_kind 1) (λ kind. both n64 (both moment (act kind))) (byte_lawful is_kind 1 refl)
    (λ kind h. both_lawful n64 (both moment (act kind)) n64_lawful (both_lawful moment (act kind) moment_lawful (act_kind kind h).lawful)))
