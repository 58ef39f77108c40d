-- A new hand is as its plain fields say: main's first one, and a worker's that main has just given out.
use Rattle.std.proofs.Common.{◌≡◌, ℕ, ◌<◌, ◌≤◌, true, false, List, [], ◌∷◌, Option, None, length, replicate, refl, sym, ap, subst, inl, inr, arith}
use Rattle.std.specs.Prelude.{◌==◌, count_by, slice_get}
use Rattle.std.proofs.lemmas.Bool.{cases_Bool, eqb-true, false≢true}
use Rattle.atomic_table.specs.Table.{Me}
use Rattle.brc_model.specs.declared.layout.Layout.{Layout}
use Rattle.brc_model.specs.Layout.{front_rows, block_size, root_row}
use Rattle.brc_model.specs.Limits.{block_limit}
use Rattle.brc_model.specs.Machine.{is_running}
use Rattle.brc_table.specs.declared.view.View.{View}
use Rattle.brc_table.specs.Views.{RowsAreThere, HasSpares, IsGivenBy, main_view, worker_view}
use Rattle.brc_table.specs.Places.{FewFirstRows}
use Rattle.brc_table.specs.Homes.{rows_of}
use Rattle.brc_table.specs.Spares.{is_spent}
use Rattle.brc_table.proofs.Spares.{none_spent, room}

-- ---- rows

-- A new hand's only reference is to the root.
held_root : (x : ℕ) → 1 ≤ count_by (λ y. y == x) (root_row ∷ []) → x < front_rows
held_root x held = elim (cases_Bool (root_row == x)) [
  | inl this ↦ let root = eqb-true root_row x this in omega (arith, root)
  | inr other ↦
      let none : count_by (λ y. y == x) (root_row ∷ []) ≡ 0 = rw other refl in absurd (omega (arith, none, held))
]

main_rows : (layout : Layout) → FewFirstRows layout → RowsAreThere (main_view layout)
main_rows layout few = record {
  few = few;
  thread = omega arith;
  used = omega arith;
  main = λ first. refl;
  held = λ x held. omega (arith, held_root x held);
  agenda = λ x is. absurd cc;
  aside = λ x is. absurd cc;
  work = λ x d rest is. absurd cc;
  head = omega arith;
  cells = tt;
  locked = λ x e. absurd cc;
  unfinalised = λ x e. absurd cc;
  kinds = λ x word seen. absurd (false≢true seen);
}

worker_rows : (layout : Layout) (thread : ℕ) → FewFirstRows layout → 0 < thread → thread ≤ layout.workers
    → RowsAreThere (worker_view layout thread)
worker_rows layout thread few some known = record {
  few = few;
  thread = known;
  used = omega arith;
  main = λ first. absurd (omega (arith, first, some));
  held = λ x held. omega (arith, held_root x held);
  agenda = λ x is. absurd cc;
  aside = λ x is. absurd cc;
  work = λ x d rest is. absurd cc;
  head = omega arith;
  cells = tt;
  locked = λ x e. absurd cc;
  unfinalised = λ x e. absurd cc;
  kinds = λ x word seen. absurd (false≢true seen);
}

-- ---- plain fields

-- What the plain fields of a new hand say of its seat: its thread runs, its chain is empty, it has given out no hand,
-- and it carries nothing.
abbrev pub NewFits : {T A : Type 0} → ℕ → ℕ → List (Option A) → List (Option ℕ) → Me (Option T) View → Type 0
NewFits thread used spares counts me =
    (rows_of me.1 ≡ me.0.taken) × (thread ≡ me.0.thread) × (true ≡ is_running me.0.actor.status) × (0 ≡ me.0.actor.head)
    × (used ≡ me.0.actor.used)
    × RowsAreThere me.0 × HasSpares spares me.0 × IsGivenBy spares me.0 × (length counts ≡ block_limit)

pub main_fits : {T A : Type 0} (layout : Layout) (spares : List (Option A)) (counts : List (Option ℕ))
    (me : Me (Option T) View)
    → FewFirstRows layout → length spares ≡ layout.workers
    → ((worker : ℕ) → is_spent (slice_get spares worker) ≡ false) → counts ≡ replicate block_limit None
    → me ≡ (main_view layout, []) → NewFits 0 (block_size layout 0) spares counts me
main_fits {T} layout spares counts me few long left none is =
    subst (λ (it : Me (Option T) View). NewFits 0 (block_size layout 0) spares counts it) (sym is) (
      refl,
      refl,
      refl,
      refl,
      refl,
      main_rows layout few,
      (λ main. long),
      (λ t. none_spent spares t left),
      room counts none,
    )

pub worker_fits : {T A : Type 0} (layout : Layout) (thread : ℕ) (spares : List (Option A)) (counts : List (Option ℕ))
    (me : Me (Option T) View) → FewFirstRows layout → 0 < thread → thread ≤ layout.workers → spares ≡ []
    → counts ≡ replicate block_limit None
    → me ≡ (worker_view layout thread, []) → NewFits thread 0 spares counts me
worker_fits {T} layout thread spares counts me few some known empty none is =
    subst (λ (it : Me (Option T) View). NewFits thread 0 spares counts it) (sym is) (
      refl,
      refl,
      refl,
      refl,
      refl,
      worker_rows layout thread few some known,
      (λ main. absurd (omega (arith, main, some))),
      (λ t. none_spent spares t (λ k. ap (λ ps. is_spent (slice_get ps k)) empty)),
      room counts none,
    )
