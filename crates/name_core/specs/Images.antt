-- What each image keeps.
use Rattle.std.specs.Prelude.{◌≡◌, List}
use Rattle.fh_model.specs.declared.commands.Cmd.{Cmd}
use Rattle.fh_model.specs.History.{state_after}
use Rattle.fh_model.specs.KeptFiles.{KeepsFiles}
use Rattle.fh_model.specs.State.{State}

-- The machine is the one after the commands, and in the state that they were applied to the files are kept versions. So they are in each state after it.
pub record IsImage (start : State) (history : List Cmd) (machine : State) : Type 0 where
  pub now : machine ≡ state_after start history
  pub files : KeepsFiles start
