use Rattle.std.proofs.Common.{ℕ, List, Option, None, sym, ap, ◌∙◌, subst}
use Rattle.brc_work.proofs.Counting.{asked_as}
use Rattle.brc_model.specs.declared.layout.Layout.{Layout}
use Rattle.brc_model.specs.declared.state.Slot.TheVariants.{Empty}
use Rattle.brc_model.specs.SlotStates.{var_of, put}
use Rattle.brc_table.specs.Views.{without_reference}
use Rattle.brc_work.specs.Fits.{Fits}
use Rattle.brc_work.proofs.Fitting.{refits}
use Rattle.brc_work.proofs.Holding.{names_object, owned_one, keeps_lock}
use Rattle.brc_work.proofs.Conditions.{owned_used}
use Rattle.brc_work.proofs.Moving.{given}
use Rattle.brc_work.proofs.Traces.Releasing.{gives_up}
use Rattle.brc_work.proofs.worker.Worker.give_up.Goals as goal

pub row_in-row-requires : goal.row_in-row-requires
row_in-row-requires g c =
    let is = c.requires.fits in
    names_object is.base is.state c.args.rows.now c.args.hand.now is.fits c.args.from
    (owned_used (var_of is.state c.args.from) is.can_do.owned)

pub release-requires-clause-held : goal.release-requires-clause-held
release-requires-clause-held g c = λ κs lives.
    let is = c.requires.fits in
    owned_one is.base is.state c.args.rows.now c.args.hand.now is.fits c.args.from c.row_in-row.result is.can_do.owned
    c.row_in-row.ensures

pub release-requires-clause-keeps : goal.release-requires-clause-keeps
release-requires-clause-keeps g c = λ κs lives.
    let is = c.requires.fits in
    keeps_lock is.base is.state c.args.rows.now c.args.hand.now is.fits c.args.from c.row_in-row.result is.can_do
    c.row_in-row.ensures

pub returns-clause-goes : goal.returns-clause-goes
returns-clause-goes g c = λ base s fits can.
    let hand = c.args.hand.now in
    let after = c.release.new.hand in
    let row = c.row_in-row.result in
    subst (λ (rows : List (Option ℕ)). Fits base (put s c.args.from Empty) rows after) (sym c.name.ensures.named)
    (refits base s c.args.rows.now hand after c.args.from Empty None fits c.name.ensures.low can.unlocked
    c.release.ensures.acts tt
    (given base s c.args.rows.now hand after c.args.from row fits can c.row_in-row.ensures
    (c.release.ensures.less
    ∙ ap (λ (l : Layout). without_reference l row hand.view.references) fits.follows.layout)))

pub returns-clause-asked : goal.returns-clause-asked
returns-clause-asked g c =
    asked_as (λ cs.
    gives_up {cs = cs} c.args.from c.row_in-row.result c.args.rows.now c.name.new.rows c.args.hand.now.view
    c.release.new.hand.view c.row_in-row.ensures c.name.ensures.named) c.release.ensures.asked
