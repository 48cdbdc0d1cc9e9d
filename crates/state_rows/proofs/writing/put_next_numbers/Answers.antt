use Rattle.byte_formats.specs.Fields.{n64}
use Rattle.byte_formats.proofs.Writing.{puts5}
use Rattle.state_rows.specs.Rows.{next_numbers}
use Rattle.state_rows.proofs.writing.put_next_numbers.Goals as goal

pub returns : goal.returns
unfolding next_numbers
returns c =
    puts5 c.put-5.result c.args.out.now.items c.put.new.out.items c.put-2.new.out.items c.put-3.new.out.items c.put-4.new.out.items c.put-5.new.out.items
    (n64.spell c.args.next.now.rev) (n64.spell c.args.next.now.id) (n64.spell c.args.next.now.session) (n64.spell c.args.next.now.user) (n64.spell c.args.next.now.namespace)
    c.in_ok-put.ensures c.in_ok-put-2.ensures c.in_ok-put-3.ensures c.in_ok-put-4.ensures c.put-5.ensures
