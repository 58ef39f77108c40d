use Rattle.std.proofs.Common.{◌<◌, refl, subst}
use Rattle.brc_model.specs.declared.layout.Layout.{Layout}
use Rattle.brc_model.specs.Layout.{row_count}
use Rattle.brc_table.specs.Hands.{plan_of}
use Rattle.brc_table.proofs.Duties.{runs_on}
use Rattle.brc_table.proofs.Places.{mark_has}
use Rattle.brc_table.proofs.ExitDuties.{claiming_becomes}
use Rattle.brc_table.proofs.words.Words.mark_claim.Goals as goal

pub step_from-requires-clause-begins : goal.step_from-requires-clause-begins
step_from-requires-clause-begins g c =
    claiming_becomes c.claims_begin.ensures (plan_of c.args.self.now) c.args.hand.now.view c.args.row c.requires.free
    c.requires.own c.requires.there

pub step_from-requires-clause-alive : goal.step_from-requires-clause-alive
step_from-requires-clause-alive g c = runs_on c.args.hand.now.view c.requires.free.running

pub step_from-requires-clause-next : goal.step_from-requires-clause-next
step_from-requires-clause-next g c = refl

pub step_from-requires-clause-there : goal.step_from-requires-clause-there
step_from-requires-clause-there g c =
    mark_has c.args.self.now.layout c.args.row c.layout_is_plain.ensures
    (subst (λ (l : Layout). c.args.row < row_count l) c.requires.table.1 c.requires.there)
