use Rattle.gate_journal.proofs.StateLemmas.{settled_stays, kept_written, before_run}
use Rattle.gate_journal.proofs.journal.Journal.make_room.Goals as goal
use Rattle.std.proofs.Common.{[]}

pub returns-clause-settled : goal.returns-clause-settled
returns-clause-settled g c told bodies is =
    settled_stays _ _ _ _ c.args.self.now bodies _ is (c.extend_ahead.ensures.writes told)

pub returns-clause-any_moment : goal.returns-clause-any_moment
returns-clause-any_moment g c told bodies is =
    let d = g.D.Disk in
    before_run d.moment d.left_since d.may_leave _ _ c.args.self.now bodies [] _ _ is (c.extend_ahead.ensures.any_moment told)

pub returns-clause-others : goal.returns-clause-others
returns-clause-others g c told = kept_written c.args.self.now.slot _ _ _ _ _ _ (c.extend_ahead.ensures.writes told)
