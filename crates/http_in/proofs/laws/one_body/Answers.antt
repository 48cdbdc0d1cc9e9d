use Rattle.http_in.proofs.OneBody.{one_body_holds}
use Rattle.http_in.proofs.laws.one_body.Goals as goal

pub returns : goal.returns
returns c = one_body_holds
