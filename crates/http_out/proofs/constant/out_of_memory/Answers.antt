use Rattle.std.proofs.Common.{codes, sym, ap, ◌∙◌}
use Rattle.http_out.specs.Reply.{reply_text}
use Rattle.http_out.specs.declared.replying.BodyKind.TheVariants.{Plain}
use Rattle.http_out.proofs.Told.{out_of_memory_closed, out_of_memory_kept}
use Rattle.http_out.proofs.constant.out_of_memory.Goals as goal

pub returns-then-close : goal.returns-then-close
returns-then-close c = out_of_memory_closed ∙ ap (reply_text 503 Plain (codes "out of memory")) (sym c.if-close.true)

pub returns-else-close : goal.returns-else-close
returns-else-close c = out_of_memory_kept ∙ ap (reply_text 503 Plain (codes "out of memory")) (sym c.if-close.false)
