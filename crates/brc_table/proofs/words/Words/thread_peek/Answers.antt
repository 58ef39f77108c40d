use Rattle.std.proofs.Common.{sym, subst}
use Rattle.brc_table.specs.declared.view.View.{View}
use Rattle.brc_table.specs.Ending.{SeesEnd}
use Rattle.brc_table.proofs.Peeking.{still_sees, sees_now}
use Rattle.brc_table.proofs.words.Words.thread_peek.Goals as goal

pub returns-clause-keeps : goal.returns-clause-keeps
returns-clause-keeps g c = λ t sees.
    subst (λ (v : View). SeesEnd v t) (sym c.peek.ensures.view)
    (still_sees c.args.hand.now.view c.args.thread c.peek.result t sees)

pub returns-clause-sees : goal.returns-clause-sees
returns-clause-sees g c = λ first word.
    subst (λ (v : View). SeesEnd v c.args.thread) (sym c.peek.ensures.view)
    (sees_now c.args.hand.now.view c.args.thread c.peek.result (c.peek.ensures.unstarted first) word)
