use Rattle.std.proofs.Common.{subst}
use Rattle.brc_model.specs.Counting.{IsPlainLayout}
use Rattle.brc_table.specs.Hands.{TableState}
use Rattle.brc_table.proofs.words.Words.layout_is_plain.Goals as goal

pub returns : goal.returns
returns g c = subst (λ (w : TableState). IsPlainLayout w.layout) c.self.view_is c.self.invariant.2
