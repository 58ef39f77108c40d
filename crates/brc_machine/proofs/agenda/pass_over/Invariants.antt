use Rattle.std.proofs.Common.{◌≡◌, ◌≤◌, reverse, vec_len}
use Rattle.std.specs.Vec.{vec_capacity}
use Rattle.brc_model.specs.Duties.{ready}
use Rattle.brc_machine.proofs.agenda.pass_over.Given as goal

abbrev pub invariant-loop-duty : goal.invariant-loop-duty
invariant-loop-duty l = record {
  -- the duties that need a step stay the same
  duties : ready l.head (reverse l.agenda.items) ≡ ready l.head (reverse l.fn.agenda.items);
  room : vec_capacity l.fn.agenda ≤ vec_capacity l.agenda;
}

abbrev pub decreases-loop-duty : goal.decreases-loop-duty
decreases-loop-duty l = vec_len l.agenda
