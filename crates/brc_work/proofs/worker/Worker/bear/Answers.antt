use Rattle.std.proofs.Common.{ℕ, List, ◌∷◌, Option, Some, refl, sym, ap, ◌∙◌, subst}
use Rattle.std.specs.Prelude.{slice_set}
use Rattle.brc_model.specs.declared.layout.Layout.{Layout}
use Rattle.brc_model.specs.declared.state.Slot.TheVariants.{Owned}
use Rattle.brc_model.specs.Kinds.{kind_numbered}
use Rattle.brc_model.specs.Layout.{IsCounted}
use Rattle.brc_model.specs.SlotStates.{var_of, put}
use Rattle.brc_model.specs.Threads.{row_of}
use Rattle.brc_model.proofs.Dispatch.Kinds.{numbered_kind}
use Rattle.brc_heap.specs.Calls.{kind_word}
use Rattle.brc_table.specs.Hands.{TableState}
use Rattle.brc_work.specs.Fits.{HasSeen, Fits}
use Rattle.brc_work.proofs.CallsBelow.{born_acts}
use Rattle.brc_work.proofs.NewObjects.{born_some, born_with}
use Rattle.brc_work.proofs.Fitting.{refits}
use Rattle.brc_work.proofs.Trading.{gains}
use Rattle.brc_work.proofs.Traces.Births.{bears}
use Rattle.brc_work.proofs.worker.Worker.bear.Goals as goal

pub returns-clause-goes : goal.returns-clause-goes
returns-clause-goes g c = λ base s fits can.
    let hand = c.args.hand.now in
    let after = c.birth-row.new.hand in
    let row = c.birth-row.result in
    let born = c.birth-row.ensures.born in
    let did =
    born_acts hand after fits.rests born (c.birth-row.ensures.table.0 ∙ ap (λ (w : TableState). w.table) c.self.view_is
    ∙ sym c.requires.fits.of.0)
    c.birth-row.ensures.carried c.birth-row.ensures.fields in
    let counted : IsCounted base.first.view.layout row =
    subst (λ (l : Layout). IsCounted l row) fits.follows.layout c.birth-row.ensures.counted in
    subst (λ (rows : List (Option ℕ)). Fits base (put s c.args.to (Owned c.args.kind)) rows after)
    (sym c.name.ensures.named)
    (refits base s c.args.rows.now hand after c.args.to (Owned c.args.kind)
    (Some row) fits c.name.ensures.low can.unlocked
    did (record {
      object = row;
      is = refl;
      knows =
          HasSeen (kind_word c.args.kind c.args.arg)
          (born_some hand.view.layout.cells c.args.kind c.args.arg c.requires.kind) c.birth-row.ensures.seen
          (ap kind_numbered c.birth-row.ensures.known ∙ numbered_kind c.args.kind);
    })
    (gains base.first.view.layout (var_of s c.args.to)
    (row_of c.args.rows.now c.args.to) c.args.kind row hand after can.free
    (born_with base.first.view.layout row hand.view.references after.view.references counted
    (born.keeps.references ∙ ap (λ (x : ℕ). x ∷ hand.view.references) (sym c.birth-row.ensures.row)))))

pub returns-clause-made : goal.returns-clause-made
returns-clause-made g c =
    bears c.args.to (kind_word c.args.kind c.args.arg) c.args.rows.now c.name.new.rows c.args.hand.now.view
    c.birth-row.new.hand.view c.requires.fits.fits.rests.agenda c.birth-row.ensures.events
    (c.name.ensures.named
    ∙ ap (λ (x : ℕ). slice_set c.args.rows.now c.args.to (Some x)) c.birth-row.ensures.row)
