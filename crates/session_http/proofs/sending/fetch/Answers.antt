use Rattle.std.proofs.Common.{Err, ap}
use Rattle.session_http.proofs.Sends.{never_no_rev, never_no_block}
use Rattle.session_http.proofs.sending.fetch.Goals as goal

pub unreachable-requires : goal.unreachable-requires
unreachable-requires g c =
    let P = g.P.View in
    let fetched = c.in-Err-NoRev.ensures in
    never_no_rev P.alone (P.seen c.args.port.now) (P.seen c.fetch.new.self) c.args.rev c.args.block c.requires fetched.point (fetched.no_rev (ap Err c.in-Err-NoRev.field-0-is))

pub unreachable-requires-in-Err-NoBlock : goal.unreachable-requires-in-Err-NoBlock
unreachable-requires-in-Err-NoBlock g c =
    let P = g.P.View in
    let fetched = c.in-Err-NoBlock.ensures in
    never_no_block P.alone (P.seen c.args.port.now) (P.seen c.fetch.new.self) c.args.rev c.args.block c.requires fetched.point (fetched.no_block (ap Err c.in-Err-NoBlock.field-0-is))
