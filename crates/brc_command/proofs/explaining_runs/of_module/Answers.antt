use Rattle.std.proofs.Common.{ℕ, List, ◌++◌, inr, ap, ◌∙◌}
use Rattle.brc_command.proofs.explaining_runs.of_module.Goals as goal

pub returns : goal.returns
returns g c =
    inr (_, _, c.in_ok-text.ensures ∙ ap (λ (line : List ℕ). line ++ c.as_slice.result.now) c.in_ok-line.ensures)
