use Rattle.std.specs.Prelude.{All}
use Rattle.std.proofs.Common.{List, subst}
use Rattle.brc_table.specs.declared.view.Joined.{Joined}
use Rattle.brc_table.specs.Joining.{RowsAreUsed}
use Rattle.brc_run.proofs.ending.finished.Goals as goal

pub returns-in-Ok-clause-joined : goal.returns-in-Ok-clause-joined
returns-in-Ok-clause-joined g c =
    subst (λ (hands : List Joined). All (RowsAreUsed c.in-Ok.end.state.layout c.in-Ok.end.state.words) hands)
    c.loop.invariant.joined c.in-Ok.ensures.joined
