use Rattle.std.proofs.Common.{subst, sym}
use Rattle.brc_table.specs.Hands.{TableState, IsOf}
use Rattle.brc_work_tests.proofs.calls.leaves.Goals as goal

pub leave-requires-clause-table : goal.leave-requires-clause-table
leave-requires-clause-table g c = λ κs lives.
    subst (λ (w : TableState). IsOf w c.args.hand.now) (sym c.new.ensures) c.requires.holds.table

pub leave-requires-clause-free : goal.leave-requires-clause-free
leave-requires-clause-free g c = λ κs lives. c.requires.holds.free

pub leave-requires-clause-settled : goal.leave-requires-clause-settled
leave-requires-clause-settled g c = λ κs lives. c.requires.holds.settled

pub leave-requires-clause-unlocked : goal.leave-requires-clause-unlocked
leave-requires-clause-unlocked g c = λ κs lives. c.requires.holds.unlocked

pub leave-requires-clause-root : goal.leave-requires-clause-root
leave-requires-clause-root g c = λ κs lives. c.requires.holds.references

pub returns-clause-table : goal.returns-clause-table
returns-clause-table g c = subst (λ (w : TableState). IsOf w c.leave.new.hand) c.new.ensures c.leave.ensures.table

pub returns-clause-thread : goal.returns-clause-thread
returns-clause-thread g c = c.leave.ensures.thread
