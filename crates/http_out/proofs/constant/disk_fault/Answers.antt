use Rattle.std.proofs.Common.{codes, sym, ap, ◌∙◌}
use Rattle.http_out.specs.Reply.{reply_text}
use Rattle.http_out.specs.declared.replying.BodyKind.TheVariants.{Plain}
use Rattle.http_out.proofs.Told.{disk_fault_closed, disk_fault_kept}
use Rattle.http_out.proofs.constant.disk_fault.Goals as goal

pub returns-then-close : goal.returns-then-close
returns-then-close c = disk_fault_closed ∙ ap (reply_text 500 Plain (codes "disk fault")) (sym c.if-close.true)

pub returns-else-close : goal.returns-else-close
returns-else-close c = disk_fault_kept ∙ ap (reply_text 500 Plain (codes "disk fault")) (sym c.if-close.false)
