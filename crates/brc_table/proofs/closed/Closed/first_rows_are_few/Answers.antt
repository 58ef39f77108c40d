use Rattle.brc_table.proofs.FewRows.{few_by_lines}
use Rattle.brc_table.proofs.closed.Closed.first_rows_are_few.Goals as goal

pub returns : goal.returns
returns g c =
    let state = c.args.self.now.state in
    few_by_lines state.lines state.layout c.layout_is_plain.ensures c.lines_are_there.ensures
