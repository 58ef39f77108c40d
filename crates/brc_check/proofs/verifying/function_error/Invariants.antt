use Rattle.std.proofs.Common.{◌≡◌, ◌<◌, ℕ}
use Rattle.std.specs.Prelude.{Some}
use Rattle.brc_model.specs.SlotStates.{entry_of}
use Rattle.brc_check.specs.Entries.{IsClosedAt}
use Rattle.brc_check.specs.Lookups.{HasState}
use Rattle.brc_check.specs.Tables.{state_at}
use Rattle.brc_check.proofs.verifying.function_error.Given as goal

abbrev pub invariant-loop-at : goal.invariant-loop-at
invariant-loop-at l = record {
  begins : state_at l.function.code l.kept 0 ≡ Some (entry_of l.function.parameters);
  here : HasState l.function.code l.kept l.at l.here;
  closed : (k : ℕ) → k < l.at → IsClosedAt l.function.code (state_at l.function.code l.kept) k;
}
