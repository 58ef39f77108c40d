-- What an action leaves a thread of accepted code to know of borrowed items, and what the thread knows at an
-- instruction before it.
use Rattle.std.proofs.Common.{◌≡◌, ℕ, false, List, [], ◌∷◌, ◌++◌, Option, Some}
use Rattle.std.specs.Prelude.{slice_get}
use Rattle.brc_lang.specs.declared.module.Instr.{Instr}
use Rattle.brc_lang.specs.Grammar.{IsInstruction}
use Rattle.brc_model.specs.declared.address.Address.{Address}
use Rattle.brc_model.specs.declared.address.Address.TheVariants.{KindOf, Cell}
use Rattle.brc_model.specs.declared.duty.Duty.{Duty}
use Rattle.brc_model.specs.declared.duty.Duty.TheVariants.{KindLoad, CellLoad}
use Rattle.brc_model.specs.declared.state.State.{State}
use Rattle.brc_model.specs.declared.state.Exit.{Exit}
use Rattle.brc_model.specs.SlotStates.{after, target}
use Rattle.brc_model.specs.Paths.{At, path_end, IsAcceptableFunction}
use Rattle.brc_model.specs.Machine.{locked_by}
use Rattle.brc_model.specs.Actions.{Action, Skip, Stuck, Silent, Calls, Does}
use Rattle.brc_model.specs.Items.{HaveItems}
use Rattle.brc_model.proofs.Dispatch.Guards.{LocksAgree}
use Rattle.brc_model.proofs.Dispatch.Passing.{AreMet}
use Rattle.brc_model.proofs.Dispatch.Items.{ItemsStay, ItemsAt}
use Rattle.brc_model.proofs.Frame.Items.{drops_items}
use Rattle.brc_model.proofs.Dispatch.Programs.{Program, running, IsSound}
use Rattle.brc_model.proofs.Dispatch.Holds.{activation}
use Rattle.brc_model.proofs.Dispatch.Grounded.{IsInside}
use Rattle.brc_model.specs.declared.actor.OpenCall.{OpenCall}

-- What a duty that loads a kind word or a cell finds.
abbrev pub FindsWord : (Address → ℕ) → Duty → ℕ → Type 0
FindsWord memory (KindLoad y) found = found ≡ memory (KindOf y)
FindsWord memory (CellLoad y i) found = found ≡ memory (Cell y i)
FindsWord memory d found = Unit {0}

-- The words after the duty's step, which found this word, for a thread that has locked the row.
pub record IsAfter (memory new : Address → ℕ) (locked : Option ℕ) (d : Duty) (found : ℕ) : Type 0 where
  pub finds : FindsWord memory d found
  pub keeps : drops_items d ≡ false → ItemsStay memory new locked

-- What the thread knows of items at the place that its step leads to.
abbrev pub LeavesItems : Program → (Address → ℕ) → Option ℕ → Action → Type 0
LeavesItems program memory locked Skip = Unit {0}
LeavesItems program memory locked Stuck = Unit {0}
LeavesItems program memory locked (Silent moves place) = ItemsAt program memory locked place
LeavesItems program memory locked (Calls row place) = (exit : Exit) → ItemsAt program memory locked (place exit)
LeavesItems program memory locked (Does d rest place) =
    (new : Address → ℕ) (found : ℕ) → IsAfter memory new locked d found
    → ItemsAt program new (locked_by locked d found) (place found)

-- A thread at an instruction of accepted code, in the state in which a path reaches it. It has locked what the state
-- says is locked, and a variable that borrows names an item.
pub record UsesAt (program : Program) (outer : List OpenCall) (memory : Address → ℕ) (locked : Option ℕ) (at : ℕ)
    (variables : List (Option ℕ)) (s : State) (i : Instr) : Type 0 where
  pub sound : IsSound program
  pub accepted : IsAcceptableFunction (running program outer)
  pub inside : IsInside (activation program outer) at variables s
  pub found : slice_get (running program outer).code at ≡ Some i
  pub leads : (exit : Exit) (next : ℕ) → target i exit at ≡ Some next
      → path_end (running program outer) (inside.exits ++ exit ∷ []) ≡ At next (after i exit s)
  pub operands : IsInstruction i
  pub met : AreMet i s
  pub guards : LocksAgree s variables locked
  pub items : HaveItems memory locked s variables
