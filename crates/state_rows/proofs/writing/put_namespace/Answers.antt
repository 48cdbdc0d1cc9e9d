use Rattle.byte_formats.specs.Fields.{n64, flag}
use Rattle.byte_formats.specs.Lists.{many}
use Rattle.byte_formats.proofs.Writing.{puts5}
use Rattle.state_rows.specs.Rows.{namespace_row}
use Rattle.state_rows.proofs.writing.put_namespace.Goals as goal

pub returns : goal.returns
unfolding namespace_row
returns c =
    puts5 c.put-5.result c.args.out.now.items c.put.new.out.items c.put-2.new.out.items c.put-3.new.out.items c.put-4.new.out.items c.put-5.new.out.items
    (n64.spell c.args.number) (flag.spell c.args.shared) (n64.spell c.args.floor) (n64.spell c.args.length) ((many n64).spell c.args.members.now)
    c.in_ok-put.ensures c.in_ok-put-2.ensures c.in_ok-put-3.ensures c.in_ok-put-4.ensures c.put-5.ensures
