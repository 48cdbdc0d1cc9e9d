use Rattle.http_in.proofs.BodyMoves.{whole_move}
use Rattle.http_in.proofs.chunks.advance.Goals as goal

pub returns-then-count-eq0-2-clause-is : goal.returns-then-count-eq0-2-clause-is
returns-then-count-eq0-2-clause-is c =
    whole_move c.args.place c.in-Chunk.count c.in-Chunk.budget c.args.held.now c.in-Chunk.is c.if-count-eq0-2.true
