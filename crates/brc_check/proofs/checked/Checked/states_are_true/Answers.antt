use Rattle.std.proofs.Common.{sym}
use Rattle.brc_check.proofs.checked.Checked.states_are_true.Goals as goal

pub returns-clause-truth : goal.returns-clause-truth
returns-clause-truth c = rw (sym c.self.view_is) c.self.invariant.2.states
