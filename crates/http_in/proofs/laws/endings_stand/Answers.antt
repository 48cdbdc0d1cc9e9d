use Rattle.http_in.proofs.MoreBytes.{endings_settled}
use Rattle.http_in.proofs.laws.endings_stand.Goals as goal

pub returns : goal.returns
returns c = endings_settled
