use Rattle.std.proofs.Common.{arith}
use Rattle.brc_table.proofs.Duties.{rows_few}
use Rattle.brc_table.proofs.FewRows.{few_by_lines}
use Rattle.brc_table.proofs.closed.Closed.rows.Goals as goal

pub overflow_cast-result : goal.overflow_cast-result
overflow_cast-result g c =
    let layout = c.self.inside.layout in
    let plain = c.self.invariant.3 in
    omega (
      arith,
      c.row_count.ensures,
      rows_few layout plain (few_by_lines c.self.inside.of.value.lines layout plain c.self.invariant.7),
    )
