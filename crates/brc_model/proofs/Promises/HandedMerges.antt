-- A merge for a handed reference leaves that reference counted, in each machine of an accepted module.
use Rattle.std.proofs.Common.{ℕ}
use Rattle.brc_lang.specs.declared.module.Module.{Module}
use Rattle.brc_lang.specs.Grammar.{IsModule}
use Rattle.brc_model.specs.Paths.{IsAcceptable}
use Rattle.brc_model.specs.Progress.{Always, HandedMergesLeaveACount}
use Rattle.brc_model.specs.StepMachine.{StepMachine}
use Rattle.brc_model.proofs.Keeping.CodeInvariant.{CodeInvariant}
use Rattle.brc_model.proofs.Promises.Counting.{merge_lives}
use Rattle.brc_model.proofs.Promises.RowLaws.{always}

counts_in : (p : Module) (n : ℕ) (m : StepMachine) → CodeInvariant p n m → HandedMergesLeaveACount m
counts_in p n m whole t x carried word a rest = merge_lives t a x carried word rest whole.kept.core

pub merges_leave_a_count : (p : Module) → IsModule p → IsAcceptable p → Always HandedMergesLeaveACount p
merges_leave_a_count = always HandedMergesLeaveACount counts_in
