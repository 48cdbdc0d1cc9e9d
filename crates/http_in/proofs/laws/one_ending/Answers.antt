use Rattle.http_in.proofs.Endings.{one_ending_holds}
use Rattle.http_in.proofs.laws.one_ending.Goals as goal

pub returns : goal.returns
returns c = one_ending_holds
