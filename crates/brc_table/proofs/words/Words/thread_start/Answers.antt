use Rattle.std.proofs.Common.{◌≡◌, true, sym, subst}
use Rattle.brc_table.specs.declared.view.View.{View}
use Rattle.brc_table.specs.KnownWords.{has_started}
use Rattle.brc_table.proofs.Starting.{seen_after}
use Rattle.brc_table.proofs.words.Words.thread_start.Goals as goal

pub returns-clause-started : goal.returns-clause-started
returns-clause-started g c =
    subst (λ (v : View). has_started c.args.thread v ≡ true) (sym c.start.ensures.view)
    (seen_after c.args.main.now.view c.args.thread)
