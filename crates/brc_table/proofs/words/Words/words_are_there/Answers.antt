use Rattle.std.proofs.Common.{◌≡◌, subst}
use Rattle.brc_table.specs.Hands.{TableState}
use Rattle.brc_table.specs.Places.{word_count}
use Rattle.brc_table.proofs.words.Words.words_are_there.Goals as goal

pub returns : goal.returns
returns g c = subst (λ (w : TableState). w.table.words ≡ word_count w.layout) c.self.view_is c.self.invariant.1
