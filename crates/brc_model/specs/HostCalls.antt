-- Which resource a call of the host uses: that of the file or socket that the instruction reads or writes. The thread
-- has it lent to the call.
use Rattle.std.specs.Prelude.{◌≡◌, ℕ, List, Option, None, Some, slice_get}
use Rattle.brc_lang.specs.declared.module.Instr.{Instr}
use Rattle.brc_lang.specs.declared.module.Instr.TheVariants.{Read, Write}
use Rattle.brc_model.specs.declared.actor.Context.{Context}
use Rattle.brc_model.specs.declared.actor.Place.TheVariants.{Inside}
use Rattle.brc_model.specs.declared.actor.Stage.TheVariants.{Lent}
use Rattle.brc_model.specs.Threads.{function_in, row_of}
use Rattle.brc_model.specs.Actions.{StepActor}
use Rattle.brc_model.specs.StepMachine.{StepMachine}

-- the variable of the file or socket that the instruction reads or writes
abbrev pub file_of : Option Instr → Option ℕ
file_of (Some (Read to file most otherwise)) = Some file
file_of (Some (Write file number otherwise)) = Some file
file_of i = None

-- The thread's resource lent is that of the row that the variable names.
pub record HasLent (a : StepActor) (variables : List (Option ℕ)) (file : ℕ) : Type 0 where
  pub row : ℕ
  pub named : row_of variables file ≡ Some row
  pub lent : a.actor.lent ≡ Some row

-- each thread that is about to read or write by a call of the host has lent it the resource that the instruction names
abbrev pub CallsUseTheLent : StepMachine → Type 0
CallsUseTheLent m =
    (t at file : ℕ) (a : StepActor) (context : Context) (variables : List (Option ℕ))
    → slice_get m.actors t ≡ Some a → a.place ≡ Inside context at variables Lent
    → file_of (slice_get (function_in m.functions a.function a.place).code at) ≡ Some file
    → HasLent a variables file
