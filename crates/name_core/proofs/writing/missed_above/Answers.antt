use Rattle.std.proofs.Common.{◌≡◌, ◌-◌, if◌then◌else◌, List, [], ◌∷◌, ◌++◌, length, take, arith, sym, ◌∙◌, ap}
use Rattle.std.specs.Prelude.{is_none}
use Rattle.fh_model.specs.declared.names.Name.{Name}
use Rattle.fh_model.specs.Keys.{key_of}
use Rattle.fh_model.specs.Trees.{item_at}
use Rattle.name_core.proofs.Missed.{missed_none, missed_more, missed_all, missed_to}
use Rattle.name_core.proofs.writing.missed_above.Goals as goal

pub loop-count-init : goal.loop-count-init
loop-count-init c = let none = missed_none c.args.tree.now c.args.names.now in (omega arith, cc)

pub loop-count-preserved : goal.loop-count-preserved
loop-count-preserved c =
    let names = c.args.names.now in
    let n = c.loop-count.count in
    let more = missed_more c.args.tree.now names n (omega arith) in (
      omega arith,
      c.in_ok-put_if_missed.ensures
          ∙ ap (λ (list : List (List Name)). list ++ (if is_none (item_at c.args.tree.now (key_of (take n names))) then take n names ∷ [] else [])) c.loop-count.invariant.1
          ∙ sym more,
    )

pub returns : goal.returns
returns c =
    let last : c.loop-count.count - 1 ≡ length c.args.names.now - 1 = omega arith in
    c.loop-count.invariant.1 ∙ ap (missed_to c.args.tree.now c.args.names.now) last
    ∙ missed_all c.args.tree.now c.args.names.now (length c.args.names.now - 1)
