use Rattle.std.proofs.Common.{◌≡◌, ℕ, ◌+◌, ◌<◌, ◌≤◌, true, List, Option, Some, refl, sym, ap, ◌∙◌, subst, arith}
use Rattle.std.specs.Prelude.{slice_set}
use Rattle.brc_lang.specs.declared.kind.Kind.TheVariants as kinds
use Rattle.brc_lang.specs.declared.module.Instr.TheVariants as instructions
use Rattle.brc_model.specs.declared.layout.Layout.{Layout}
use Rattle.brc_model.specs.declared.state.Slot.TheVariants.{Owned}
use Rattle.brc_model.specs.Layout.{first_immortal_list, first_number, is_immortal_row}
use Rattle.brc_model.specs.SlotStates.{var_of, put}
use Rattle.brc_model.specs.Threads.{row_of}
use Rattle.brc_model.proofs.Basics.Blocks.{list_immortal}
use Rattle.brc_model.proofs.Dispatch.Passing.{are_met}
use Rattle.brc_work.specs.Fits.{OfImmortalList, Fits}
use Rattle.brc_work.proofs.CallsBelow.{itself_acts}
use Rattle.brc_work.proofs.Conditions.{can_fill}
use Rattle.brc_work.proofs.Fitting.{refits}
use Rattle.brc_work.proofs.Trading.{gains, uncounted}
use Rattle.brc_work.proofs.Traces.References.{makes_take}
use Rattle.brc_work.proofs.worker.Worker.take.Goals as goal

pub returns : goal.returns
returns g c =
    let hand = c.args.hand.now in
    let here : hand.view.layout ≡ c.args.self.now.layout = c.requires.may.of.1 in
    let row = c.static_list-row.result in
    let is : row ≡ first_immortal_list hand.view.layout + c.args.list =
    c.static_list-row.ensures ∙ ap (λ (l : Layout). first_immortal_list l + c.args.list) (sym here) in
    let there = subst (λ (l : Layout). c.args.list < l.immortal_lists) (sym here) c.requires.there in
    let from : first_immortal_list hand.view.layout ≤ row = omega (arith, is) in
    let below : row < first_number hand.view.layout = omega (arith, is, there) in
    record {
      done = λ base s fits passes.
          let met = are_met (instructions.Take c.args.to c.args.list) s passes in
          let can = can_fill s c.args.to met.free met.unlocked in
          let immortal : is_immortal_row base.first.view.layout row ≡ true =
          subst (λ (l : Layout). is_immortal_row l row ≡ true) fits.follows.layout
          (list_immortal hand.view.layout row from below) in
          subst (λ (rows : List (Option ℕ)). Fits base (put s c.args.to (Owned kinds.List)) rows hand)
          (sym c.name.ensures.named)
          (refits base s c.args.rows.now hand hand c.args.to (Owned kinds.List)
          (Some row) fits c.name.ensures.low can.unlocked
          (itself_acts hand fits.rests)
          (record { object = row; is = refl; knows = OfImmortalList from below refl })
          (gains base.first.view.layout (var_of s c.args.to)
          (row_of c.args.rows.now c.args.to) kinds.List row hand hand can.free
          (sym (uncounted base.first.view.layout row hand.view.references immortal))));
      made = makes_take c.args.to c.args.list c.args.rows.now c.name.new.rows c.args.hand.now.view
          (c.name.ensures.named ∙ ap (λ (x : ℕ). slice_set c.args.rows.now c.args.to (Some x)) is);
    }
