-- Inside an instruction only a birth depends on the layout and on the thread's number.
use Rattle.brc_world.proofs.dispatch.inside.go_on_inside.Goals as goal

pub returns-in-InRange : goal.returns-in-InRange
returns-in-InRange c = rw c.in-InRange.is (c.use_cell.ensures c.args.layout c.args.number)

pub returns-in-OutOfRange : goal.returns-in-OutOfRange
returns-in-OutOfRange c = rw c.in-OutOfRange.is (c.give_up_item.ensures c.args.layout c.args.number)

pub returns-in-Found : goal.returns-in-Found
returns-in-Found c = rw c.in-Found.is (c.retain_found.ensures c.args.layout c.args.number)

pub returns-in-Retained : goal.returns-in-Retained
returns-in-Retained c = rw c.in-Retained.is (c.put_retained.ensures c.args.layout c.args.number)

pub returns-in-Loaded : goal.returns-in-Loaded
returns-in-Loaded c = rw c.in-Loaded.is (c.lend_to_write.ensures c.args.layout c.args.number)

pub returns-in-Lent : goal.returns-in-Lent
returns-in-Lent c = rw c.in-Lent.is (c.use_lent.ensures c.args.layout c.args.number)

pub returns-in-Called : goal.returns-in-Called
returns-in-Called c = rw c.in-Called.is (c.put_back.ensures c.args.layout c.args.number)
