-- What a machine's layout allows the instructions of its module: no list has more cells than its lists may have, and an
-- immortal list that is taken is there.
use Rattle.std.proofs.Common.{◌≡◌, ℕ, ◌<◌, ◌≤◌, List, length, Some}
use Rattle.std.specs.Prelude.{slice_get}
use Rattle.brc_lang.specs.declared.module.Function.{Function}
use Rattle.brc_lang.specs.declared.module.Instr.{Instr}
use Rattle.brc_lang.specs.declared.module.Instr.TheVariants.{List as ListObject, Take}
use Rattle.brc_model.specs.declared.actor.OpenCall.{OpenCall}
use Rattle.brc_model.specs.declared.layout.Layout.{Layout}
use Rattle.brc_model.specs.Threads.{function_at}
use Rattle.brc_model.proofs.Dispatch.Grounded.{AreOpen, number_there}
use Rattle.brc_model.proofs.Dispatch.Programs.{Program, running}

abbrev pub IsAllowedIn : Layout → Instr → Type 0
IsAllowedIn layout (ListObject to cells otherwise) = cells ≤ layout.cells
IsAllowedIn layout (Take to list) = list < layout.immortal_lists
IsAllowedIn layout i = Unit {0}

-- the layout allows each instruction of the functions
pub record AreAllowedIn (layout : Layout) (functions : List Function) : Type 0 where
  pub each : (number at : ℕ) (i : Instr) → number < length functions
      → slice_get (function_at functions number).code at ≡ Some i → IsAllowedIn layout i

-- So it allows the instruction of a call that runs.
pub allowed_at : (layout : Layout) (program : Program) (outer : List OpenCall) (at : ℕ) (i : Instr)
    → AreAllowedIn layout program.functions → AreOpen program outer
    → slice_get (running program outer).code at ≡ Some i → IsAllowedIn layout i
allowed_at layout program outer at i allowed opened found =
    allowed.each _ at i (number_there program outer opened) found
