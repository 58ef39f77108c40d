use Rattle.std.proofs.Common.{sym, ap, ◌∙◌, arith}
use Rattle.brc_model.specs.Needs.{starts_unfit}
use Rattle.brc_plain.specs.declared.place.Place.{Place}
use Rattle.brc_plain.specs.Places.{place_in}
use Rattle.brc_machine.specs.Storage.{word_in}
use Rattle.brc_plain.proofs.Unfit.{unfit_when_idle}
use Rattle.brc_plain.proofs.needs.starts_unfit.Goals as goal

pub returns-else-left-eq0 : goal.returns-else-left-eq0
returns-else-left-eq0 c =
    let memory = word_in c.args.memory.now in
    let locked = c.args.locked in
    let code = c.args.code.now in
    c.begins_unfit.ensures
    ∙ unfit_when_idle memory locked code c.in-Idle.left (omega arith)
    ∙ ap (λ (p : Place). starts_unfit memory locked code (place_in p)) (sym c.in-Idle.is)
