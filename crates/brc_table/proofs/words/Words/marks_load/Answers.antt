use Rattle.std.proofs.Common.{◌<◌, ◌+◌, refl, subst, arith}
use Rattle.brc_model.specs.declared.layout.Layout.{Layout}
use Rattle.brc_model.specs.Layout.{mark_words_of}
use Rattle.brc_table.specs.Hands.{plan_of}
use Rattle.brc_table.proofs.Duties.{runs_on}
use Rattle.brc_table.proofs.ExitDuties.{loading_becomes}
use Rattle.brc_table.proofs.words.Words.marks_load.Goals as goal

pub step_from-requires-clause-begins : goal.step_from-requires-clause-begins
step_from-requires-clause-begins g c =
    loading_becomes c.mark_loads_begin.ensures (plan_of c.args.self.now) c.args.hand.now.view c.args.word
    c.requires.free
    c.requires.there

pub step_from-requires-clause-alive : goal.step_from-requires-clause-alive
step_from-requires-clause-alive g c = runs_on c.args.hand.now.view c.requires.free.running

pub step_from-requires-clause-next : goal.step_from-requires-clause-next
step_from-requires-clause-next g c = refl

pub step_from-requires-clause-there : goal.step_from-requires-clause-there
step_from-requires-clause-there g c =
    let thread = c.args.hand.now.view.thread in
    subst (λ (l : Layout). (thread < 1 + l.workers) × (c.args.word < mark_words_of l thread)) c.requires.table.1
    (omega (arith, c.rows_are_there.ensures.thread), c.requires.there)
