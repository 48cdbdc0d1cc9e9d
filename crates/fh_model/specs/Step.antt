-- One step of the machine: what a command leaves, what it is answered, and whether it enters the history.
use Rattle.std.specs.Prelude.{ℕ, max, codes, if◌then◌else◌, [], ◌∷◌}
use Rattle.fh_model.specs.declared.commands.Act.{Act}
use Rattle.fh_model.specs.declared.commands.Act.TheVariants.{MakeFolder, Upload}
use Rattle.fh_model.specs.declared.commands.Cmd.{Cmd}
use Rattle.fh_model.specs.Folders.{make_folder}
use Rattle.fh_model.specs.State.{State, user_of, is_spent}
use Rattle.fh_model.specs.Stepped.{Stepped, refused}
use Rattle.fh_model.specs.Uploads.{upload}

-- No vacant name is looked for yet: `rename` asks for nothing.
unfoldable pub act_on : State → ℕ → Act → Stepped
act_on s moment (MakeFolder user path rename) = make_folder s moment (user_of s user) path
act_on s moment (Upload user commit drafted last) = upload s moment (user_of s user) commit drafted last

-- The moment of a command is its second, or the last moment where that is later.
abbrev pub step : State → Cmd → Stepped
step s cmd =
    if is_spent s then refused s (codes "numbers_spent" ∷ []) else act_on s (max cmd.at s.moment) cmd.act
