-- The exit is that of the choice.
use Rattle.std.proofs.Common.{inl, inr}
use Rattle.brc_world.proofs.world.World.step.Goals as goal

pub returns-in-Ok : goal.returns-in-Ok
returns-in-Ok c = elim c.in-Ok.is [
  | inl ok ↦ rw ok (rw (c.exit_of.ensures, ok) at c.go_on.ensures)
  | inr fault ↦ rw fault (rw (c.exit_of.ensures, fault) at c.go_on.ensures)
]

pub returns-in-Claim-clause-made : goal.returns-in-Claim-clause-made
returns-in-Claim-clause-made c = rw c.in-Claim.is c.look_for.ensures.made

pub returns-in-Claim-clause-refused : goal.returns-in-Claim-clause-refused
returns-in-Claim-clause-refused c = rw c.in-Claim.is c.look_for.ensures.refused

pub returns-in-Stop-clause-made : goal.returns-in-Stop-clause-made
returns-in-Stop-clause-made c = rw c.in-Stop.is c.stop.ensures.made
