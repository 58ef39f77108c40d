use Rattle.std.proofs.Common.{sym, ◌∙◌}
use Rattle.brc_command.proofs.RunsFound.{refused_only}
use Rattle.brc_command.proofs.carrying_unchecked.explain_unchecked.Goals as goal

pub returns-in-Err-clause-found : goal.returns-in-Err-clause-found
returns-in-Err-clause-found g c = λ is.
    refused_only _ _ c.in-Err.stop _ _ (sym c.status.ensures.exact ∙ is) c.in-Err.ensures.left
