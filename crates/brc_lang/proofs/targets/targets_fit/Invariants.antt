-- All targets fit if those of the instructions that are left do.
use Rattle.std.proofs.Common.{◌≡◌, drop, length}
use Rattle.brc_lang.specs.Fault.{targets_fit_from, targets_fit}
use Rattle.brc_lang.proofs.targets.targets_fit.Given as goal

abbrev pub invariant-loop-at : goal.invariant-loop-at
invariant-loop-at l = targets_fit l.code ≡ targets_fit_from l.at (length l.code) (drop l.at l.code)
