-- What the model dispatches where a thread of the plain machine is.
use Rattle.std.specs.Prelude.{Some}
use Rattle.brc_lang.specs.declared.module.Instr.{Instr}
use Rattle.brc_model.specs.declared.actor.Stage.{Stage}
use Rattle.brc_model.specs.Action.{Action}
use Rattle.brc_model.specs.Actions.{dispatch_instruction, dispatch_inside}
use Rattle.brc_plain.specs.declared.here.Here.{Here}
use Rattle.brc_plain.specs.Places.{context_in, place_in}

-- what the thread does at the instruction
abbrev pub dispatched : Here → Instr → Action
dispatched h i =
    dispatch_instruction h.layout h.thread h.used (place_in h.before.now) (context_in h.context.now) h.at
    h.variables.now (Some i)

-- what the thread does inside the instruction, at the stage
abbrev pub dispatched_inside : Here → Stage → Instr → Action
dispatched_inside h stage i =
    dispatch_inside h.layout h.thread h.used (context_in h.context.now) h.at h.variables.now stage (Some i)
