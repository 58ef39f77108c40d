-- How many calls of a thread are open, as a trace sees it from the instructions that the thread begins.
use Rattle.std.specs.Prelude.{ℕ, ◌+◌, ◌-◌, ◌^◌, nat_lt, if◌then◌else◌, min, List, Option, None, Some, slice_get}
use Rattle.brc_lang.specs.declared.module.Function.{Function}
use Rattle.brc_lang.specs.declared.module.Instr.{Instr}
use Rattle.brc_lang.specs.declared.module.Instr.TheVariants.{Call, Ret, Fail}
use Rattle.brc_machine.specs.declared.sight.Part.{Part}
use Rattle.brc_machine.specs.declared.sight.Part.TheVariants.{Instruction}
use Rattle.brc_machine.specs.declared.sight.Sight.{Sight}
use Rattle.brc_trace.specs.declared.depth.Crossing.{Crossing}
use Rattle.brc_trace.specs.declared.depth.Crossing.TheVariants.{Stays, Enters, Returns}

-- the end of a call: where more than one is open, the thread returns to the call that has made this one
abbrev pub ending : ℕ → Crossing
ending depth = if nat_lt 1 depth then Returns else Stays

abbrev pub crossing_of : ℕ → Option Instr → Crossing
crossing_of depth (Some (Call to callee arguments otherwise)) = Enters
crossing_of depth (Some (Ret from)) = ending depth
crossing_of depth (Some Fail) = ending depth
crossing_of depth _ = Stays

abbrev pub crossing_in : ℕ → Option Function → ℕ → Crossing
crossing_in depth None at = Stays
crossing_in depth (Some f) at = crossing_of depth (slice_get f.code at)

-- The step of a thread that begins this part, in a call of the function of the number. A call, and the end of one in
-- which more than one is open, are one step each.
abbrev pub crossing_by : List Function → ℕ → ℕ → Option Part → Crossing
crossing_by functions depth number (Some (Instruction at)) = crossing_in depth (slice_get functions number) at
crossing_by functions depth number _ = Stays

-- what the step does with the calls of its thread, of which as many are open
abbrev pub crossing_at : List Function → ℕ → Sight → Crossing
crossing_at functions depth sight = crossing_by functions depth sight.function sight.begins

-- how many calls are open after the step
abbrev pub depth_after : Crossing → ℕ → ℕ
depth_after Stays depth = depth
depth_after Enters depth = min (depth + 1) (2 ^ 64 - 1)
depth_after Returns depth = depth - 1
