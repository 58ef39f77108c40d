use Rattle.brc_trace.proofs.Naming.{is_named}
use Rattle.brc_trace.proofs.laws.rules_are_named.Goals as goal

pub returns : goal.returns
returns c = is_named
