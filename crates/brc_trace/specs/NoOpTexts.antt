-- The line of a claim or a stop that changes nothing.
use Rattle.std.specs.Prelude.{ℕ, Bool, true, false, List, [], ◌++◌, codes, decimal}
use Rattle.brc_report.specs.declared.paint.Paint.{Paint}
use Rattle.brc_report.specs.declared.paint.Role.TheVariants as roles
use Rattle.brc_model.specs.declared.thread.Choice.{Choice}
use Rattle.brc_model.specs.declared.thread.Choice.TheVariants as choices
use Rattle.brc_trace.specs.EntryTexts.{opening_text, painted}

-- the choice of the steps of a line `step`
abbrev pub is_step_line : Choice → Bool
is_step_line choices.Ok = true
is_step_line choices.Fault = true
is_step_line (choices.Claim row) = false
is_step_line choices.Stop = false

-- the step's number, its thread, the claim, and that nothing is claimed
abbrev pub no_op_claim_text : Paint → ℕ → ℕ → ℕ → List ℕ
no_op_claim_text paint number t row =
    opening_text paint number t ++ painted paint roles.Part (codes "claim of row " ++ decimal row)
    ++ codes "  nothing to claim\n"

-- the same of a stop
abbrev pub no_op_stop_text : Paint → ℕ → ℕ → List ℕ
no_op_stop_text paint number t =
    opening_text paint number t ++ painted paint roles.Part (codes "stop") ++ codes "  nothing to stop\n"

-- The line of thread t's step by the choice, if it changes nothing. Steps of a thread that is gone have none.
abbrev pub no_op_text : Paint → ℕ → ℕ → Choice → List ℕ
no_op_text paint number t choices.Ok = []
no_op_text paint number t choices.Fault = []
no_op_text paint number t (choices.Claim row) = no_op_claim_text paint number t row
no_op_text paint number t choices.Stop = no_op_stop_text paint number t
