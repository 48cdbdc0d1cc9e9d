-- What else is known of bytes that spell a command.
use Rattle.std.proofs.Common.{◌≡◌, ℕ, ◌<◌, List, ◌∷◌, drop, arith}
use Rattle.fh_model.specs.declared.commands.Act.{Act}
use Rattle.fh_model.specs.declared.commands.Act.TheVariants.{MakeFolder, Upload}
use Rattle.fh_model.specs.declared.commands.Cmd.{Cmd}
use Rattle.byte_formats.specs.Spelling.{Spells}
use Rattle.byte_formats.proofs.Whole.{one_value}
use Rattle.cmd_codec.specs.Commands.{kind_of, command}
use Rattle.cmd_codec.proofs.Lawful.{command_lawful}

pub one_command : (bytes : List ℕ) (a b : Cmd) → Spells command bytes a → Spells command bytes b → a ≡ b
one_command = one_value command command_lawful

-- they begin with the number of the act, which is below that of each row
pub command_begins : (bytes : List ℕ) (cmd : Cmd) → Spells command bytes cmd → (rest : List ℕ) × (bytes ≡ kind_of cmd.act ∷ rest)
unfolding command
command_begins bytes cmd s = (drop 1 (command.spell cmd), s.parts)

pub kind_below_rows : (a : Act) → kind_of a < 128
kind_below_rows (MakeFolder user path rename) = omega arith
kind_below_rows (Upload user commit drafted last) = omega arith
