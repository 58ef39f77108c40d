-- Some effects don't depend on the found word, or on each field of their duty. Their contracts hold for every value of
-- these.
use Rattle.brc_effect.proofs.effect.Doer.effect.Goals as goal

pub returns-in-ReleaseLoad : goal.returns-in-ReleaseLoad
returns-in-ReleaseLoad c = rw c.in-ReleaseLoad.is (c.release_load.ensures _)

pub returns-in-ReleaseStore : goal.returns-in-ReleaseStore
returns-in-ReleaseStore c = rw c.in-ReleaseStore.is (c.release_store.ensures _)

pub returns-in-SetMark : goal.returns-in-SetMark
returns-in-SetMark c = rw c.in-SetMark.is (c.set_mark.ensures _)

pub returns-in-Die : goal.returns-in-Die
returns-in-Die c = rw c.in-Die.is (c.die.ensures _)

pub returns-in-TakeField : goal.returns-in-TakeField
returns-in-TakeField c = rw c.in-TakeField.is (c.take_field.ensures _)

pub returns-in-Leave : goal.returns-in-Leave
returns-in-Leave c = rw c.in-Leave.is (c.leave.ensures _)

pub returns-in-Finish : goal.returns-in-Finish
returns-in-Finish c = rw c.in-Finish.is (c.finish.ensures _)

pub returns-in-BirthKind : goal.returns-in-BirthKind
returns-in-BirthKind c = rw c.in-BirthKind.is (c.birth_kind.ensures _)

pub returns-in-BirthField : goal.returns-in-BirthField
returns-in-BirthField c = rw c.in-BirthField.is (c.birth_field.ensures _)

pub returns-in-BirthLocal : goal.returns-in-BirthLocal
returns-in-BirthLocal c = rw c.in-BirthLocal.is (c.birth_local.ensures _ _ _)

pub returns-in-UnlockGate : goal.returns-in-UnlockGate
returns-in-UnlockGate c = rw c.in-UnlockGate.is (c.unlock_gate.ensures _ _)

pub returns-in-ReturnField : goal.returns-in-ReturnField
returns-in-ReturnField c = rw c.in-ReturnField.is (c.return_field.ensures _ _)

pub returns-in-CellSwap : goal.returns-in-CellSwap
returns-in-CellSwap c = rw c.in-CellSwap.is (c.cell_swap.ensures _ _ _ _)

pub returns-in-CloseResource : goal.returns-in-CloseResource
returns-in-CloseResource c = rw c.in-CloseResource.is (c.close_resource.ensures _)
