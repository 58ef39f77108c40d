use Rattle.std.proofs.Common.{ℕ, List, Option, None, sym, ap, ◌∙◌, subst}
use Rattle.brc_model.specs.declared.layout.Layout.{Layout}
use Rattle.brc_model.specs.declared.state.Slot.TheVariants.{Empty}
use Rattle.brc_model.specs.SlotStates.{put}
use Rattle.brc_table.specs.Hands.{TableState}
use Rattle.brc_table.specs.Views.{without_reference}
use Rattle.brc_work.specs.Fits.{Fits}
use Rattle.brc_work.specs.Stopping.{unchained}
use Rattle.brc_work.proofs.Fitting.{refits}
use Rattle.brc_work.proofs.Holding.{owned_one, keeps_lock}
use Rattle.brc_work.proofs.Moving.{given}
use Rattle.brc_work.proofs.Stopping.{loosened_acts}
use Rattle.brc_work.proofs.worker.Worker.loosen.Goals as goal

pub release-requires-clause-held : goal.release-requires-clause-held
release-requires-clause-held g c =
    let is = c.requires.fits in
    owned_one is.base is.state c.args.rows.now (unchained c.args.hand.now) is.fits c.args.from c.row_in-row.result
    is.can_do.owned c.row_in-row.ensures

pub release-requires-clause-keeps : goal.release-requires-clause-keeps
release-requires-clause-keeps g c =
    let is = c.requires.fits in
    keeps_lock is.base is.state c.args.rows.now (unchained c.args.hand.now) is.fits c.args.from c.row_in-row.result
    is.can_do c.row_in-row.ensures

pub returns-clause-goes : goal.returns-clause-goes
returns-clause-goes g c = λ base s fits can.
    let hand = c.args.hand.now in
    let after = c.release.new.hand in
    let row = c.row_in-row.result in
    let released = c.release.ensures.released in
    let same = c.name.ensures.named in
    subst (λ (rows : List (Option ℕ)). Fits base (put s c.args.from Empty) rows (unchained after))
    (sym same)
    (refits base s c.args.rows.now (unchained hand) (unchained after) c.args.from Empty None fits c.name.ensures.low
    can.unlocked
    (loosened_acts hand after row fits.rests released
    (c.release.ensures.table.0
    ∙ (ap (λ (w : TableState). w.table) (c.new-finaliser.ensures ∙ c.self.view_is) ∙ sym c.requires.fits.of.0))
    c.release.ensures.carried c.release.ensures.fields) tt
    (given base s c.args.rows.now (unchained hand) (unchained after) c.args.from row fits can c.row_in-row.ensures
    (released.keeps.references
    ∙ ap (λ (l : Layout). without_reference l row hand.view.references) fits.follows.layout)))
