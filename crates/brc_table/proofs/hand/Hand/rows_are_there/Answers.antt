use Rattle.std.proofs.Common.{subst}
use Rattle.brc_table.specs.Hands.{HandState}
use Rattle.brc_table.specs.Views.{RowsAreThere}
use Rattle.brc_table.proofs.hand.Hand.rows_are_there.Goals as goal

pub returns : goal.returns
returns g c = subst (λ (h : HandState). RowsAreThere h.view) c.self.view_is c.self.invariant.5
