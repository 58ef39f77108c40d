use Rattle.std.proofs.Common.{subst}
use Rattle.brc_model.specs.FirstRows.{HasLines}
use Rattle.brc_table.specs.Hands.{TableState}
use Rattle.brc_table.proofs.words.Words.lines_are_there.Goals as goal

pub returns : goal.returns
returns g c = subst (λ (w : TableState). HasLines w.lines w.layout) c.self.view_is c.self.invariant.4
