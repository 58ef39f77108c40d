use Rattle.std.proofs.Common.{subst}
use Rattle.brc_model.specs.FirstRows.{HasLines}
use Rattle.brc_table.specs.Ending.{ClosedTable}
use Rattle.brc_table.proofs.closed.Closed.lines_are_there.Goals as goal

pub returns : goal.returns
returns g c =
    subst (λ (closed : ClosedTable _). HasLines closed.state.lines closed.state.layout) c.self.view_is
    c.self.invariant.7
