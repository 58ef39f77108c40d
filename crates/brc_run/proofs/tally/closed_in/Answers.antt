use Rattle.std.proofs.Common.{arith}
use Rattle.brc_model.specs.Layout.{root_row}
use Rattle.brc_heap.specs.Ends.{is_closed}
use Rattle.brc_run.proofs.Rows.{few_pass}
use Rattle.brc_run.proofs.Tallied.{closed_in_two}
use Rattle.brc_run.proofs.tally.closed_in.Goals as goal

pub overflow_add-result : goal.overflow_add-result
overflow_add-result g c =
    let front = few_pass (is_closed c.args.end.now.state) root_row c.first_immortal_list.result in
    let rear = few_pass (is_closed c.args.end.now.state) c.first_number.result c.rows.result in
    omega (
      arith,
      front,
      rear,
      c.gone_in-front.ensures,
      c.gone_in-rear.ensures,
      c.first_immortal_list.ensures,
      c.first_number.ensures,
      c.first_immortal_list.type_inv,
      c.rows.type_inv,
    )

pub returns : goal.returns
returns g c =
    rw (
      c.gone_in-front.ensures,
      c.gone_in-rear.ensures,
      c.first_immortal_list.ensures,
      c.first_number.ensures,
      c.rows.ensures,
    ) (closed_in_two c.args.end.now.state c.args.layout c.requires.layout)
