-- A ready thread gains a reference to an immortal object. No count has it, so the invariant holds as before.
use Rattle.std.proofs.Common.{◌≡◌, ℕ, true, false, ◌∷◌, Some, inl, inr, refl, sym, ap, ◌∙◌, subst, arith}
use Rattle.std.specs.Prelude.{◌==◌, slice_get}
use Rattle.std.proofs.lemmas.Bool.{ne_eqb, false≢true}
use Rattle.std.proofs.lemmas.Option.{slice_get_within}
use Rattle.brc_model.specs.declared.duty.Holding.TheVariants.{AsCaller}
use Rattle.brc_model.specs.declared.actor.Status.{Status}
use Rattle.brc_model.specs.declared.actor.Status.TheVariants.{Running}
use Rattle.brc_model.specs.AbstractState.{references_to}
use Rattle.brc_model.specs.Layout.{block_of, is_immortal_row, IsCounted}
use Rattle.brc_model.specs.declared.actor.Actor.{Actor}
use Rattle.brc_model.specs.Machine.{Machine, with_moves}
use Rattle.brc_model.specs.Moves.{gain}
use Rattle.brc_model.specs.References.{one_if, reference_of, cell_reference}
use Rattle.brc_model.specs.RowInvariant.{Numbers, RowInvariant}
use Rattle.brc_model.specs.Accounts.{Accounts}
use Rattle.brc_model.specs.OpenWork.{exits}
use Rattle.brc_model.specs.Invariant.{numbers_of, Fits, CoreInvariant}
use Rattle.brc_model.specs.Counting.{with_account, with_one_more, IsReady, HasNoneAbout}
use Rattle.brc_model.proofs.Keeping.Locks.{more_locks}
use Rattle.brc_model.specs.CountingLaws.{ImmortalsAreFree}
use Rattle.brc_model.proofs.Basics.Bag.{references_to-cons, other_thread}
use Rattle.brc_model.proofs.Basics.Blocks.{immortal_apart}
use Rattle.brc_model.proofs.Basics.MovesApart.{moved_aside}
use Rattle.brc_model.proofs.Keeping.Moved.{still_watched, each_moved, moved_fits}
use Rattle.brc_model.proofs.Keeping.Replaced.{flight_with}
use Rattle.brc_model.proofs.Keeping.OneReference.{held_besides, holds_more, bounded_more}

-- the machine with one reference more, which the thread holds as the caller
abbrev gained : Machine → ℕ → ℕ → Machine
gained m t x = with_moves m (gain t AsCaller x)

-- ---- rows

-- The numbers of a counted row stay as they are.
same_numbers : (m : Machine) (t x y : ℕ) → is_immortal_row m.layout x ≡ true → IsCounted m.layout y
    → numbers_of m y ≡ numbers_of (gained m t x) y
same_numbers m t x y immortal counted =
    let bag = m.abstract.references in
    let none : one_if (x == y) ≡ 0 =
    ap one_if (ne_eqb x y (λ e. immortal_apart m.layout y x counted immortal (sym e))) in
    let r : references_to y bag ≡ references_to y (reference_of t AsCaller x ∷ bag) =
    omega (arith, references_to-cons y (reference_of t AsCaller x) bag, none) in
    let old = numbers_of m y in
    λ i. record old { references = r i }

-- ---- threads

module _ {p : Accounts} {n : ℕ} {m : Machine} {t : ℕ} {a : Actor} where
  -- The thread fits with its new account.
  own_fits : (x : ℕ) → CoreInvariant p n m → IsReady m t a → HasNoneAbout a x → is_immortal_row m.layout x ≡ true
      → Fits (with_one_more (p t) AsCaller x) (gained m t x) t a
  own_fits x core ready alone immortal =
      let bag = m.abstract.references in
      let fits = core.each t a ready.found in
      let old = fits.0 in
      let ends : exits a.status a.agenda ≡ false =
      ap (λ (s : Status). exits s a.agenda) ready.running ∙ ap (exits Running) ready.agenda in
      moved_fits m (gain t AsCaller x) t a ready.found x (λ k y other. held_besides bag t AsCaller x k y other) (p t)
      (with_one_more (p t) AsCaller x) fits alone ends
      (holds_more bag t (p t) a.agenda a.aside AsCaller x old.holds)
      (bounded_more m.layout (p t) x old.bounded (λ counted. absurd (false≢true (sym counted ∙ immortal))))
      (more_locks (p t) m t a a x old.locks refl (λ k y. omega arith))

  -- So does every thread.
  each_still : (x : ℕ) → CoreInvariant p n m → IsReady m t a → HasNoneAbout a x → is_immortal_row m.layout x ≡ true
      → (u : ℕ) (b : Actor) → slice_get m.actors u ≡ Some b
      → Fits (with_account p t (with_one_more (p t) AsCaller x) u) (gained m t x) u b
  each_still x core ready alone immortal =
      each_moved p m t a (with_one_more (p t) AsCaller x) (gain t AsCaller x) ready.found
      (λ u k ne. (other_thread u t k AsCaller ne, tt)) (own_fits x core ready alone immortal) core.each

  -- ---- the whole

  -- The core invariant holds with the new reference.
  gained_core : (x : ℕ) → CoreInvariant p n m → IsReady m t a → HasNoneAbout a x → is_immortal_row m.layout x ≡ true
      → CoreInvariant (with_account p t (with_one_more (p t) AsCaller x)) n (gained m t x)
  gained_core x core ready alone immortal = record {
    threads = core.threads;
    workers = core.workers;
    some_rows = core.some_rows;
    few_threads = core.few_threads;
    few_rows = core.few_rows;
    few_cells = core.few_cells;
    few_immortals = core.few_immortals;
    few_numbers = core.few_numbers;
    rows = λ y counted.
        subst (λ (k : Numbers). RowInvariant (block_of m.layout y) (m.life y) k)
        (same_numbers m t x y immortal counted) (core.rows y counted);
    marks = λ y. elim (core.marks y) [
      | inl none ↦ inl none
      | inr set ↦ inr (set.0, set.1, still_watched m (gain t AsCaller x) y set.2)
    ];
    each = each_still x core ready alone immortal;
    beyond = λ u past k object.
        let within = slice_get_within m.actors t a ready.found in
        moved_aside m.abstract (reference_of u k object) (gain t AsCaller x)
        (other_thread u t k AsCaller (λ e. absurd (omega (arith, within, core.threads, past, e))), tt)
        ∙ core.beyond u past k object;
    gates = core.gates;
    dying = core.dying;
    cells = core.cells;
    cells_end = core.cells_end;
    uses = core.uses;
    blanks = core.blanks;
    cells_hold = λ y i object.
        moved_aside m.abstract (cell_reference y i object) (gain t AsCaller x) (refl, tt) ∙ core.cells_hold y i object;
    immortals_live = core.immortals_live;
    born_is = core.born_is;
    born_has = core.born_has;
    born_once = core.born_once;
    closed_is = core.closed_is;
    closed_has = core.closed_has;
    once = core.once;
    kinds = core.kinds;
    kind_words = core.kind_words;
    immortal_words = core.immortal_words;
    immortal_kinds = core.immortal_kinds;
    resources = core.resources;
  }

-- The invariant and the ranges hold after a ready thread gains a reference to an immortal object.
pub immortals_are_free : ImmortalsAreFree
immortals_are_free p n m t a x counts ready alone immortal = record {
  kept = record {
    core = gained_core x counts.kept.core ready alone immortal;
    settled = counts.kept.settled;
  };
  ranges = record {
    kinds = counts.ranges.kinds;
    each = counts.ranges.each;
    aside = counts.ranges.aside;
  };
  no_flight =
      flight_with p t (with_one_more (p t) AsCaller x) counts.no_flight
      (λ object. omega (arith, counts.no_flight t object));
}
