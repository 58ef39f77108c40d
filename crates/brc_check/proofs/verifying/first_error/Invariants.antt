use Rattle.std.proofs.Common.{◌≡◌, ◌<◌, ℕ}
use Rattle.std.specs.Prelude.{Some, slice_get}
use Rattle.brc_lang.specs.declared.module.Function.{Function}
use Rattle.brc_check.specs.Tables.{entries_of}
use Rattle.brc_check.proofs.Comparing.{HasClosed}
use Rattle.brc_check.proofs.verifying.first_error.Given as goal

abbrev pub invariant-loop-number : goal.invariant-loop-number
invariant-loop-number l =
    (k : ℕ) (f : Function) → k < l.number → slice_get l.functions k ≡ Some f → HasClosed f (entries_of l.lists k)
