use Rattle.std.proofs.Common.{◌≡◌, true, false}
use Rattle.fh_model.specs.declared.changes.Item.{Item}
use Rattle.fh_model.specs.Keys.{key_of, has_key}
use Rattle.name_core.proofs.SideLemmas.{behind_head, behind_all}
use Rattle.name_core.proofs.trees.behind.Goals as goal

pub returns-then-has_key : goal.returns-then-has_key
returns-then-has_key c =
    let item : Item = c.item-item.result in
    let has : has_key item.names (key_of c.args.names.now) ≡ true = cc in
    behind_head (key_of c.args.names.now) c.args.back.now item c.requires.order c.requires.back c.in-len1-up.len_at_least c.item-item.is has

pub returns-else-has_key : goal.returns-else-has_key
returns-else-has_key c =
    let item : Item = c.item-item.result in
    let has : has_key item.names (key_of c.args.names.now) ≡ false = cc in
    behind_all (key_of c.args.names.now) c.args.back.now item c.requires.order c.requires.back c.in-len1-up.len_at_least c.item-item.is has
