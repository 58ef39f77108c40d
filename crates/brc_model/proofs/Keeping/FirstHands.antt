-- The first machine of hands has the invariant: main holds the root, and no worker holds anything.
use Rattle.std.proofs.Common.{◌≡◌, ℕ, zero, suc, ◌+◌, Bool, List, refl, sym, ap, ◌∙◌, arith, true, false}
use Rattle.std.specs.Prelude.{◌==◌, ◌&&◌}
use Rattle.std.proofs.Math.Dec.{eqb-suc-zero}
use Rattle.brc_model.specs.declared.duty.Holding.{Holding}
use Rattle.brc_model.specs.declared.duty.Holding.TheVariants.{ByVariable, AsCaller, InFlight}
use Rattle.brc_model.specs.declared.layout.Layout.{Layout}
use Rattle.brc_model.specs.Layout.{root_row}
use Rattle.brc_model.specs.References.{held, one_if, reference_of}
use Rattle.brc_model.specs.FirstRows.{HasLines}
use Rattle.brc_model.specs.StepMachine.{callers_below}
use Rattle.brc_model.specs.Counting.{Counts, IsPlainLayout, hands_machine, hands_accounts}
use Rattle.brc_model.specs.AbstractState.{same_holding}
use Rattle.brc_model.proofs.Basics.Bag.{eqb_swapped}
use Rattle.brc_model.proofs.Keeping.Callers.{callers_hold, callers_beyond}
use Rattle.brc_model.proofs.Keeping.FirstThreads.{IsRooted}
use Rattle.brc_model.proofs.Keeping.FirstInvariant.{rooted_kept}
use Rattle.brc_model.proofs.Keeping.FirstRanges.{rooted_ranges}

-- The account of each thread says what the bag has.
hands_hold : (t : ℕ) (k : Holding) (object : ℕ)
    → hands_accounts t k object ≡ held (reference_of t k object) (callers_below 1)
hands_hold zero (ByVariable depth v) object = sym (callers_hold 1 0 (ByVariable depth v) object (omega arith))
hands_hold zero AsCaller object =
    ap one_if (eqb_swapped root_row object) ∙ sym (callers_hold 1 0 AsCaller object (omega arith))
hands_hold zero InFlight object = sym (callers_hold 1 0 InFlight object (omega arith))
hands_hold (suc t) k object =
    ap (λ (b : Bool). one_if (b && (same_holding AsCaller k && (root_row == object)))) (eqb-suc-zero t)
    ∙ sym (callers_beyond 1 (suc t) k object (omega arith))

hands_rooted : (lines : List (List ℕ)) (layout : Layout) → IsPlainLayout layout → HasLines lines layout
    → IsRooted lines layout 1
hands_rooted lines layout plain has = record {
  some_callers = omega arith;
  few_callers = omega arith;
  few_workers = plain.few_workers;
  some_rows = plain.some_rows;
  few_rows = plain.few_rows;
  few_cells = plain.few_cells;
  has_lines = has;
}

-- No hand has a reference in flight at first.
hands_flight : (t object : ℕ) → hands_accounts t InFlight object ≡ 0
hands_flight t object =
    elim (t == 0) as (λ b. one_if (b && false) ≡ 0) [
      | true ↦ refl
      | false ↦ refl
    ]

pub hands_begin : (lines : List (List ℕ)) (layout : Layout) → IsPlainLayout layout → HasLines lines layout
    → Counts hands_accounts (1 + layout.workers) (hands_machine lines layout)
hands_begin lines layout plain has = record {
  kept =
      rooted_kept hands_accounts lines layout 1 (hands_rooted lines layout plain has)
      (record { each = λ t le k object. hands_hold t k object });
  ranges = rooted_ranges lines layout 1 has plain.some_cells plain.few_cells;
  no_flight = hands_flight;
}
