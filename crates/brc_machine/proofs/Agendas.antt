-- An agenda, whose last duty is done next.
use Rattle.std.proofs.Common.{◌≡◌, Bool, List, reverse}
use Rattle.std.specs.List.{list_any}
use Rattle.std.proofs.lemmas.List.Sorted.{IsPermutation-reverse, list_any-IsPermutation}
use Rattle.brc_model.specs.declared.duty.Duty.{Duty}

-- Whether some duty passes a test doesn't change with their order.
pub any_reversed : (test : Duty → Bool) (duties : List Duty) → list_any test duties ≡ list_any test (reverse duties)
any_reversed test duties =
    list_any-IsPermutation test duties (reverse duties) (IsPermutation-reverse duties)
