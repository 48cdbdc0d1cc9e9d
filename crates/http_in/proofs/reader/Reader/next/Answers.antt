use Rattle.std.proofs.Common.{rules, ◌≡◌, subst}
use Rattle.http_in.specs.Steps.{Suffices}
use Rattle.http_in.proofs.reader.Reader.next.Goals as goal

pub returns-clause-still : goal.returns-clause-still
returns-clause-still g c enough =
    let same : c.args.self.now.held ≡ c.self.inside.held = search rules in
    c.read_head-step.ensures.still (subst Suffices same enough)
