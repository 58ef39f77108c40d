use Rattle.std.proofs.Common.{◌≡◌, ◌<◌, refl, subst}
use Rattle.brc_model.specs.declared.layout.Layout.{Layout}
use Rattle.brc_model.specs.FirstRows.{first_kind_word}
use Rattle.brc_model.specs.Layout.{row_count}
use Rattle.brc_table.specs.Hands.{plan_of}
use Rattle.brc_table.proofs.Asking.{asking_becomes}
use Rattle.brc_table.proofs.Duties.{looks_there, runs_on}
use Rattle.brc_table.proofs.words.Words.kind_load.Goals as goal

pub step_from-requires-clause-begins : goal.step_from-requires-clause-begins
step_from-requires-clause-begins g c =
    asking_becomes c.work_is_put_aside.ensures c.kinds_are_asked.ensures c.immortals_are_free.ensures
    (plan_of c.args.self.now) c.args.hand.now.view c.args.row c.requires.running c.requires.idle c.requires.usable

pub step_from-requires-clause-there : goal.step_from-requires-clause-there
step_from-requires-clause-there g c =
    subst (λ (l : Layout). c.args.row < row_count l) c.requires.table.1
    (looks_there c.args.hand.now.view c.args.row
    c.rows_are_there.ensures c.requires.usable)

pub step_from-requires-clause-alive : goal.step_from-requires-clause-alive
step_from-requires-clause-alive g c = runs_on c.args.hand.now.view c.requires.running.0

pub step_from-requires-clause-next : goal.step_from-requires-clause-next
step_from-requires-clause-next g c = refl

pub returns-clause-stays : goal.returns-clause-stays
returns-clause-stays g c = c.step_from.ensures.finds.0

pub returns-clause-field : goal.returns-clause-field
returns-clause-field g c = c.step_from.ensures.finds.1

pub returns-clause-first : goal.returns-clause-first
returns-clause-first g c =
    subst
    (λ (l : Layout). 0 < first_kind_word c.args.self.now.lines l c.args.row
    → c.step_from.result ≡ first_kind_word c.args.self.now.lines l c.args.row) c.requires.table.1
    c.step_from.ensures.first
