-- Doing a thread's first duty keeps the core invariant, if the thread and the marks fit afterwards.
use Rattle.std.proofs.Common.{◌≡◌, ℕ, ◌<◌, List, ◌⊎◌, Some, refl, ◌∙◌, arith, subst, sym}
use Rattle.std.specs.Prelude.{slice_get, slice_set}
use Rattle.std.proofs.lemmas.List.{length-set}
use Rattle.std.proofs.lemmas.Option.{slice_get_within}
use Rattle.brc_word.specs.declared.values.TheConstants.{SET, UNSET}
use Rattle.brc_model.specs.declared.duty.Duty.{Duty}
use Rattle.brc_model.specs.declared.actor.Actor.{Actor}
use Rattle.brc_model.specs.Machine.{Machine, actor_by, machine_by_duty, mark_of}
use Rattle.brc_model.proofs.Frame.AsideAfter.{aside_after}
use Rattle.brc_model.specs.OpenWork.{AsideFits}
use Rattle.brc_model.specs.Accounts.{Accounts}
use Rattle.brc_model.specs.Invariant.{AtDuty, Fits, IsWatched, CoreInvariant, IsImmortalKind}
use Rattle.brc_model.proofs.Frame.Others.{each_fits}
use Rattle.brc_model.proofs.Basics.MovesApart.{moves_apart}
use Rattle.brc_model.proofs.Frame.Cells.{cells_hold_after}
use Rattle.brc_model.proofs.Frame.Lives.{leaves_others}
use Rattle.brc_model.proofs.Stepping.FitsAfter.{found_by, NotGone, FitsAfter}
use Rattle.brc_model.proofs.Objects.RowsAfter.{rows_after}
use Rattle.brc_model.proofs.Objects.ClosedAfter.{closed_is_after, closed_has_after, closed_once_after, immortals_live_after, dying_after}
use Rattle.brc_model.proofs.Objects.UsesAfter.{uses_after, born_is_after, born_has_after, born_once_after}
use Rattle.brc_model.proofs.Objects.KindsAfter.{kinds_after, kind_words_after}
use Rattle.brc_model.proofs.Stepping.Nones.{immortal_word_left}
use Rattle.brc_model.proofs.Objects.GatesAfter.{gates_after}
use Rattle.brc_model.proofs.Objects.BlanksAfter.{blanks_after}
use Rattle.brc_model.proofs.Objects.CellsAfter.{cells_after, cells_end_after}
use Rattle.brc_model.proofs.Objects.ResourcesAfter.{resources_after}
use Rattle.brc_model.specs.Layout.{IsCounted}
use Rattle.brc_model.proofs.Frame.Kinds.{immortal_kind_left}

-- ---- all threads

module _ {p : Accounts} {n : ℕ} {m : Machine} {t : ℕ} {a : Actor} {d : Duty} {rest : List Duty} where
  others_and_own : AtDuty p n m t a d rest → FitsAfter p m t a d rest
      → AsideFits (machine_by_duty m t a d rest) t (actor_by m.layout t a d rest (found_by m t a d))
      → (u : ℕ) (b : Actor)
      → slice_get (slice_set m.actors t (actor_by m.layout t a d rest (found_by m t a d))) u ≡ Some b
      → Fits (p u) (machine_by_duty m t a d rest) u b
  others_and_own here own aside =
      each_fits p p m (machine_by_duty m t a d rest) t a (actor_by m.layout t a d rest (found_by m t a d)) here.found
      (leaves_others here) (λ u ne. refl) (own.actor, own.agenda, aside) here.core.each

  -- ---- the core invariant

  pub keeps_by : AtDuty p n m t a d rest → NotGone a → FitsAfter p m t a d rest
      → ((x : ℕ) → (mark_of m.layout (machine_by_duty m t a d rest).memory x ≡ UNSET) ⊎
      ((mark_of m.layout (machine_by_duty m t a d rest).memory x ≡ SET) × (IsCounted m.layout x)
      × IsWatched (machine_by_duty m t a d rest) x))
      → CoreInvariant p n (machine_by_duty m t a d rest)
  keeps_by here alive own marks =
      let within : t < n = omega (arith, slice_get_within m.actors t a here.found, here.core.threads) in
      record {
        threads = length-set m.actors t (actor_by m.layout t a d rest (found_by m t a d)) ∙ here.core.threads;
        some_rows = here.core.some_rows;
        few_threads = here.core.few_threads;
        few_rows = here.core.few_rows;
        workers = here.core.workers;
        few_cells = here.core.few_cells;
        few_immortals = here.core.few_immortals;
        few_numbers = here.core.few_numbers;
        rows = λ x pos. rows_after t a d rest here.core here.found here.agenda alive x pos;
        marks = marks;
        each = others_and_own here own (aside_after here);
        beyond =
            λ u past k object. moves_apart m.memory m.abstract u t k object d (found_by m t a d)
            (λ e. absurd (omega (arith, within, past, e))) ∙ here.core.beyond u past k object;
        gates = λ x. gates_after here x;
        dying = λ x u past. dying_after x u here past;
        cells_hold = λ x i object. cells_hold_after p n m t a d rest x i object here;
        cells = λ x i. cells_after here x i;
        cells_end = λ x i past. cells_end_after here x i past;
        uses = λ u b is. uses_after here u b is;
        blanks = λ u b is. blanks_after here u b is;
        born_is = λ x is. born_is_after here x is;
        born_has = λ x above is. born_has_after here x above is;
        born_once = λ x. born_once_after here x;
        immortals_live = λ x immortal. immortals_live_after x here immortal;
        closed_is = λ x is. closed_is_after x here is;
        closed_has = λ x is. closed_has_after x here is;
        once = closed_once_after here;
        kinds = λ x born. kinds_after here x born;
        kind_words = λ x born. kind_words_after here x born;
        immortal_words = λ x immortal. immortal_word_left d x here immortal ∙ here.core.immortal_words x immortal;
        immortal_kinds = λ x immortal.
            subst IsImmortalKind (sym (immortal_kind_left x here immortal)) (here.core.immortal_kinds x immortal);
        resources = λ x. resources_after d rest x here;
      }
