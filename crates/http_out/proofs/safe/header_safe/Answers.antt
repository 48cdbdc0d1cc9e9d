use Rattle.std.proofs.Common.{ap, flat_map, sym, ◌∙◌}
use Rattle.std.proofs.lemmas.Iterator.{YieldsList-from_chars}
use Rattle.std.proofs.lemmas.Iterator.Consumers.{YieldsList-end}
use Rattle.std.proofs.lemmas.List.{map-id}
use Rattle.http_out.specs.HeaderSafe.{safe_char}
use Rattle.http_out.proofs.safe.header_safe.Goals as goal

pub returns : goal.returns
returns c =
    let all = YieldsList-end (YieldsList-from_chars c.args.json.now c.utf8.json cc) c.loop-c.yielded _ c.loop-c.yielded_by _ _ c.in-None.is c.next.ensures.steps in
    c.new.ensures ∙ c.loop-c.invariant ∙ ap (flat_map safe_char) (sym (map-id c.loop-c.yielded) ∙ all.0)
