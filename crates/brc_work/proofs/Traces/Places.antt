-- What a thread does at an instruction, and inside one.
use Rattle.std.proofs.Common.{◌≡◌, ℕ, List, Option, Some, ap, ◌∙◌, subst}
use Rattle.brc_host.specs.HostCalls.{HostCall}
use Rattle.brc_lang.specs.declared.module.Instr.{Instr}
use Rattle.brc_model.specs.declared.actor.Context.{Context}
use Rattle.brc_model.specs.declared.actor.Place.{Place}
use Rattle.brc_model.specs.declared.actor.Place.TheVariants.{Inside}
use Rattle.brc_model.specs.declared.actor.Stage.{Stage}
use Rattle.brc_model.specs.declared.layout.Layout.{Layout}
use Rattle.brc_model.specs.Actions.{Action, with_row, dispatch_instruction, dispatch_inside}
use Rattle.brc_model.specs.Threads.{row_of}
use Rattle.brc_table.specs.declared.view.View.{View}
use Rattle.brc_work.specs.Traces.{Program, dispatch_in, MakesTrace, begun_at}
use Rattle.brc_work.specs.Performs.{IsBefore}

module _ (i : Instr) (program : Program) (place : Place) (context : Context) (at : ℕ) (rows : List (Option ℕ))
    (before : IsBefore i program place context at rows) (layout : Layout) (t used : ℕ) where
  -- It begins the instruction,
  pub begins : dispatch_in layout t used program place ≡ dispatch_instruction layout t used place context at rows
      (Some i)
  begins = before.comes.does layout t used ∙ ap (dispatch_instruction layout t used place context at rows) before.found

  -- about an object that a variable names;
  pub begins_with : (x row : ℕ) (work : ℕ → Action)
      → dispatch_instruction layout t used place context at rows (Some i) ≡ with_row (row_of rows x) work
      → row_of rows x ≡ Some row → dispatch_in layout t used program place ≡ work row
  begins_with x row work is names = begins ∙ (is ∙ ap (λ (o : Option ℕ). with_row o work) names)

  -- it goes on with it,
  pub goes_on : (stage : Stage)
      → dispatch_in layout t used program (Inside context at rows stage)
      ≡ dispatch_inside layout t used context at rows stage (Some i)
  goes_on stage = ap (dispatch_inside layout t used context at rows stage) before.found

  -- about such an object.
  pub goes_on_with : (stage : Stage) (x row : ℕ) (work : ℕ → Action)
      → dispatch_inside layout t used context at rows stage (Some i) ≡ with_row (row_of rows x) work
      → row_of rows x ≡ Some row → dispatch_in layout t used program (Inside context at rows stage) ≡ work row
  goes_on_with stage x row work is names = goes_on stage ∙ (is ∙ ap (λ (o : Option ℕ). with_row o work) names)

-- One instruction has begun.
pub begins_one : {i : Instr} {program : Program} {place q : Place} {context : Context} {at : ℕ}
    {rows : List (Option ℕ)} {cs : List HostCall} {v u : View} → IsBefore i program place context at rows
    → MakesTrace (begun_at place) cs program place v q u → MakesTrace 1 cs program place v q u
begins_one {i} {program} {place} {q} {context} {at} {rows} {cs} {v} {u} before one =
    subst (λ (n : ℕ). MakesTrace n cs program place v q u) before.comes.begun one
