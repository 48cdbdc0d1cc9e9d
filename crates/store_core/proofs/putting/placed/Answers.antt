use Rattle.std.proofs.Common.{subst}
use Rattle.fh_model.specs.declared.commands.Act.{Act}
use Rattle.cmd_codec.specs.Commands.{IsShort}
use Rattle.store_core.proofs.putting.placed.Goals as goal

pub returns-in-MakeFolder-clause-spelled : goal.returns-in-MakeFolder-clause-spelled
returns-in-MakeFolder-clause-spelled c = λ spelled. (spelled.0, subst (λ (a : Act). IsShort a) c.in-MakeFolder.is spelled.1)

pub returns-in-Upload-clause-spelled : goal.returns-in-Upload-clause-spelled
returns-in-Upload-clause-spelled c = λ spelled.
    let short = subst (λ (a : Act). IsShort a) c.in-Upload.is spelled.1 in
    (spelled.0, (short.0, c.piece_of-last.ensures.block))
