-- A command has a spelling where its act has one.
use Rattle.std.proofs.Common.{◌≡◌, true, ◌<◌, ◌≤◌, ◌^◌, refl}
use Rattle.fh_model.specs.declared.commands.Act.{Act}
use Rattle.fh_model.specs.declared.commands.Act.TheVariants.{MakeFolder, Upload}
use Rattle.fh_model.specs.declared.commands.Cmd.{Cmd}
use Rattle.byte_formats.specs.Fields.{last_second}
use Rattle.cmd_codec.specs.Commands.{kind_of, is_kind, act, command}

kind_known : (a : Act) → is_kind (kind_of a) ≡ true
kind_known (MakeFolder user path rename) = refl
kind_known (Upload user commit drafted last) = refl

pub command_fits : (cmd : Cmd) → cmd.seat < 2 ^ 64 → cmd.at ≤ last_second → (act (kind_of cmd.act)).fits cmd.act → command.fits cmd
unfolding command
command_fits cmd seat at fits = ((kind_known cmd.act, (seat, (at, fits))), refl)
