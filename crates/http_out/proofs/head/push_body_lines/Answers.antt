use Rattle.http_out.specs.Reply.{body_lines}
use Rattle.http_out.proofs.Joins.{joined}
use Rattle.http_out.proofs.head.push_body_lines.Goals as goal

pub returns : goal.returns
unfolding body_lines
returns c = joined _ _ _ _ _ c.in_ok-push_line.ensures c.in_ok-push_length.ensures
