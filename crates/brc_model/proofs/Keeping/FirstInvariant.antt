-- The rooted machine (`FirstThreads`) has the invariant.
use Rattle.std.proofs.Common.{◌≡◌, ℕ, suc, ◌+◌, ◌*◌, ◌≤◌, Bool, true, false, cond, List, [], length, inl, inr, refl, sym, ap, ◌∙◌, arith}
use Rattle.std.proofs.Math.Nat.{mul-le-mul}
use Rattle.std.proofs.lemmas.Bool.{cases_lt, le-leb}
use Rattle.std.proofs.lemmas.List.{length-replicate}
use Rattle.brc_model.specs.declared.duty.Holding.{Holding}
use Rattle.brc_model.specs.declared.duty.Holding.TheVariants.{ByVariable, AsCaller, InFlight}
use Rattle.brc_model.specs.declared.layout.Layout.{Layout}
use Rattle.brc_model.specs.Limits.{cell_limit, immortal_limit, number_limit}
use Rattle.brc_model.specs.Layout.{block_size, mark_bit, first_immortal_list, first_number, is_immortal_row}
use Rattle.brc_model.specs.References.{one_if, held, reference_of}
use Rattle.brc_model.specs.Machine.{idle_actor}
use Rattle.brc_model.specs.FirstRows.{HasLines, first_row, first_life, list_references}
use Rattle.brc_model.specs.StepMachine.{callers_below, rooted_memory, first_abstract}
use Rattle.brc_model.specs.Accounts.{Account, Accounts, IsBounded}
use Rattle.brc_model.specs.Invariant.{Fits, CoreInvariant, Invariant, UsesFit, BlankFits}
use Rattle.brc_model.specs.OpenWork.{IsSettled}
use Rattle.brc_model.proofs.Basics.Lists.{none_some}
use Rattle.brc_model.proofs.Basics.Bag.{one_if_low}
use Rattle.brc_model.proofs.Basics.Marks.{blank_mark}
use Rattle.brc_model.proofs.Keeping.Callers.{callers_beyond, callers_hold}
use Rattle.brc_model.proofs.Keeping.FirstRows.{first_at, is_immortal_first, immortal_first, few_values}
use Rattle.brc_model.proofs.Keeping.FirstReferences.{held-append, lists_cells}
use Rattle.brc_model.proofs.Dispatch.Holds.{the_root}
use Rattle.brc_model.proofs.Frame.Aside.{alone_fits}
use Rattle.brc_model.proofs.Keeping.FirstThreads.{idle_actors, rooted_machine, IsRooted, AccountsHoldRoot, each_idle}
use Rattle.brc_model.proofs.Keeping.FirstCounts.{rooted_rows}
use Rattle.brc_model.proofs.Keeping.FirstBirths.{none_dies, closed_never, main_uses, worker_uses, main_blanks, worker_blanks, gate_free, first_born_is, born_among, born_once, immortal_lives}
use Rattle.brc_model.proofs.Keeping.FirstKinds.{kind_named, kind_stored, immortal_kind, immortal_local_word, rooted_holds, cell_fits, cell_ends, resources_fit}

-- ---- the threads

-- What a thread holds is what the callers hold.
rooted_by_thread : (lines : List (List ℕ)) (layout : Layout) (callers t : ℕ) (k : Holding) (o : ℕ)
    → held (reference_of t k o) (first_abstract lines layout callers).references
    ≡ held (reference_of t k o) (callers_below callers)
rooted_by_thread lines layout callers t k o =
    omega (
      arith,
      held-append (reference_of t k o)
          (list_references (first_immortal_list layout) (first_number layout) lines) (callers_below callers),
      lists_cells (first_immortal_list layout) (first_number layout) lines t k o,
    )

-- An account of the root alone, or of nothing, is within its bounds.
caller_bounded : (layout : Layout) (account : Account) (t callers : ℕ)
    → ((k : Holding) (object : ℕ) → account k object ≡ held (reference_of t k object) (callers_below callers))
    → IsBounded layout account
caller_bounded layout account t callers says =
    elim (cases_lt t callers) [
      | inl below ↦ record {
        by_variable = λ depth v object.
            omega (arith, says (ByVariable depth v) object, callers_hold callers t (ByVariable depth v) object below);
        sixteen = λ depth v object past.
            omega (arith, says (ByVariable depth v) object, callers_hold callers t (ByVariable depth v) object below);
        shallow = λ depth v object deep.
            omega (arith, says (ByVariable depth v) object, callers_hold callers t (ByVariable depth v) object below);
        lent = λ object counted.
            omega (
              arith,
              says AsCaller object,
              callers_hold callers t AsCaller object below,
              one_if_low (the_root AsCaller object),
            );
        in_flight = λ object. omega (arith, says InFlight object, callers_hold callers t InFlight object below);
      }
      | inr past ↦ record {
        by_variable = λ depth v object.
            omega (arith, says (ByVariable depth v) object, callers_beyond callers t (ByVariable depth v) object past);
        sixteen = λ depth v object high.
            omega (arith, says (ByVariable depth v) object, callers_beyond callers t (ByVariable depth v) object past);
        shallow = λ depth v object deep.
            omega (arith, says (ByVariable depth v) object, callers_beyond callers t (ByVariable depth v) object past);
        lent = λ object counted. omega (arith, says AsCaller object, callers_beyond callers t AsCaller object past);
        in_flight = λ object. omega (arith, says InFlight object, callers_beyond callers t InFlight object past);
      }
    ]

-- Each thread fits.
idle_fits : (p : Accounts) (lines : List (List ℕ)) (layout : Layout) (callers : ℕ)
    → AccountsHoldRoot p layout.workers callers → (t used : ℕ) → t ≤ layout.workers
    → Fits (p t) (rooted_machine lines layout callers) t (idle_actor used)
idle_fits p lines layout callers hold t used le = (
  record {
    word = ap (λ (b : Bool). cond b 1 0) (le-leb t layout.workers le);
    holds = record {
      each = λ k object.
          omega (arith, hold.each t le k object, rooted_by_thread lines layout callers t k object);
    };
    bounded = caller_bounded layout (p t) t callers (hold.each t le);
    exited = λ e. absurd cc;
    head_fits = tt;
    behind = tt;
    chain = record { chained = []; linked = refl; once = λ x. sym (ap one_if (none_dies layout x t)) };
    locks = λ x e. absurd (none_some x e);
    lent = λ x e. absurd (none_some x e);
  },
  refl,
  alone_fits (rooted_machine lines layout callers) t (idle_actor used) refl,
)

-- ---- the invariants

-- There are at most 16 lists of 64 numbers.
few_numbers : (lines : List (List ℕ)) (layout : Layout) → HasLines lines layout → layout.cells ≤ cell_limit
    → layout.numbers ≤ number_limit
few_numbers lines layout has few =
    let most : length lines * layout.cells ≤ immortal_limit * cell_limit =
    mul-le-mul {n₂ = immortal_limit} {m₂ = cell_limit} has.few few in
    omega (arith, has.numbers, few_values layout.cells lines has.each, most)

-- The core invariant holds.
rooted_core : (p : Accounts) (lines : List (List ℕ)) (layout : Layout) (callers : ℕ) → IsRooted lines layout callers
    → AccountsHoldRoot p layout.workers callers
    → CoreInvariant p (1 + layout.workers) (rooted_machine lines layout callers)
rooted_core p lines layout callers is hold =
    let has = is.has_lines in
    let immortal : (x : ℕ) → is_immortal_row layout x ≡ true → is_immortal_first (first_row layout x) ≡ true =
    λ x so. sym (immortal_first layout x) ∙ so in
    record {
      threads = omega (arith, length-replicate layout.workers (idle_actor 0));
      some_rows = is.some_rows;
      few_threads = omega (arith, is.few_workers);
      workers = refl;
      few_rows = is.few_rows;
      few_cells = is.few_cells;
      few_immortals = omega (arith, has.few, has.lists);
      few_numbers = few_numbers lines layout has is.few_cells;
      rows = rooted_rows lines layout callers is;
      marks = λ x. inl (blank_mark (mark_bit layout x));
      each =
          each_idle (λ t a. Fits (p t) (rooted_machine lines layout callers) t a) layout
          (idle_fits p lines layout callers hold 0 (block_size layout 0) (omega arith))
          (λ t low. idle_fits p lines layout callers hold (suc t) 0 (omega (arith, low)));
      beyond = λ t past k object.
          rooted_by_thread lines layout callers t k object
          ∙ callers_beyond callers t k object (omega (arith, past, is.few_callers));
      gates = λ x. gate_free (idle_actors layout) x (first_row layout x);
      dying = λ x t past. none_dies layout x t;
      cells_hold = λ x i object. rooted_holds lines layout callers x i object has;
      cells = λ x i. cell_fits lines layout i (first_row layout x);
      cells_end = λ x i past. cell_ends lines layout i has is.few_cells (first_row layout x) past;
      uses =
          each_idle (λ t a. UsesFit layout (first_life layout) t a.used) layout (main_uses layout is.some_rows)
          (λ t low. worker_uses layout t);
      blanks =
          each_idle (λ t a. BlankFits layout (rooted_memory lines layout callers) t a.used a.agenda) layout
          (main_blanks lines layout callers is.some_rows)
          (λ t low. worker_blanks lines layout callers t);
      immortals_live = λ x so. immortal_lives (first_row layout x) (immortal x so);
      born_is = first_born_is layout;
      born_has = λ x counted born.
          born_among layout x (first_row layout x) (first_at layout x) (sym (immortal_first layout x) ∙ counted) born;
      born_once = born_once layout;
      closed_is = λ x closed. absurd (let wrong : false ≡ true = closed in cc);
      closed_has = λ x closed. absurd (closed_never (first_row layout x) closed);
      once = λ i j d lt within. absurd (omega arith);
      kinds = λ x born. kind_named lines layout has is.few_cells (first_row layout x) born;
      kind_words = λ x born. kind_stored lines (first_row layout x) born;
      immortal_words = λ x so. immortal_local_word callers (first_row layout x) (immortal x so);
      immortal_kinds = λ x so. immortal_kind lines layout has is.few_cells (first_row layout x) (immortal x so);
      resources = λ x. resources_fit lines layout x has is.few_cells (first_row layout x);
    }

-- The invariant holds, with any accounts that say what the bag has.
pub rooted_kept : (p : Accounts) (lines : List (List ℕ)) (layout : Layout) (callers : ℕ)
    → IsRooted lines layout callers → AccountsHoldRoot p layout.workers callers
    → Invariant p (1 + layout.workers) (rooted_machine lines layout callers)
rooted_kept p lines layout callers is hold = record {
  core = rooted_core p lines layout callers is hold;
  settled = each_idle (λ t a. IsSettled a.head a.agenda) layout tt (λ t low. tt);
}
