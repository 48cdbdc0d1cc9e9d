use Rattle.http_out.specs.Reply.{download_end}
use Rattle.http_out.proofs.Joins.{joined}
use Rattle.http_out.proofs.head.push_download_end.Goals as goal

pub returns : goal.returns
unfolding download_end
returns c = joined _ _ _ _ _ c.in_ok-push_line.ensures c.in_ok-push_end.ensures
