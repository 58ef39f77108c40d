-- What follows where an instruction passes.
use Rattle.std.proofs.Common.{◌≡◌, ℕ, ◌<◌, List, Option, None, sym, subst}
use Rattle.std.specs.Prelude.{slice_set}
use Rattle.brc_lang.specs.declared.module.Instr.{Instr}
use Rattle.brc_model.specs.declared.state.Slot.TheVariants.{Empty}
use Rattle.brc_model.specs.declared.state.State.{State}
use Rattle.brc_model.specs.SlotStates.{put}
use Rattle.brc_model.proofs.Dispatch.Passing.{AreMet, are_met}
use Rattle.brc_table.specs.Hands.{TableState, HandState}
use Rattle.brc_work.specs.Changes.{CanFill}
use Rattle.brc_work.specs.Fits.{Base, Fits, MayDo}
use Rattle.brc_work.proofs.Moving.{cleared}

-- None of its conditions is broken.
pub none_broken : {heap : TableState} {i : Instr} {rows : List (Option ℕ)} {hand : HandState}
    (may : MayDo heap i rows hand) → AreMet i may.state
none_broken {heap} {i} may = are_met i may.state may.passes

-- A variable that it leaves empty names nothing from then on.
pub left_empty : (base : Base) (s : State) (rows after_rows : List (Option ℕ)) (hand : HandState) (to : ℕ)
    → Fits base s rows hand → CanFill s to → to < 16 → after_rows ≡ slice_set rows to None
    → Fits base (put s to Empty) after_rows hand
left_empty base s rows after_rows hand to fits can low named =
    subst (λ (l : List (Option ℕ)). Fits base (put s to Empty) l hand) (sym named)
    (cleared base s rows hand to fits can low)
