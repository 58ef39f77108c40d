-- Each duty keeps each row's invariant.
use Rattle.std.proofs.Common.{◌≡◌, ℕ, List, ◌∷◌, Some, subst, inl, inr, refl, sym}
use Rattle.std.specs.Prelude.{slice_get}
use Rattle.std.proofs.lemmas.Bool.Decides.{eqb_tells}
use Rattle.brc_model.specs.declared.duty.Reason.TheVariants.{Own, Handed}
use Rattle.brc_model.specs.declared.duty.Duty.{Duty}
use Rattle.brc_model.specs.declared.duty.Duty.TheVariants.{RetainLoad, RetainStore, RetainAdd, ReleaseLoad, ReleaseStore, DecideAtZero, SharedLoad, SharedExchange, SetMark, Look, TakeMark, MergeSwap, MergeLoad, MergeExchange, Settle, SettleKind, SettleCell, SettleEnd, Leave, Scan, MarksLoad, TakeFound, Finish, ClaimMark, BirthKind, BirthLocal, CellSwap}
use Rattle.brc_model.specs.declared.actor.Actor.{Actor}
use Rattle.brc_model.specs.Machine.{Machine, machine_by_duty}
use Rattle.brc_model.specs.RowInvariant.{RowInvariant}
use Rattle.brc_model.specs.Accounts.{Accounts}
use Rattle.brc_model.specs.Invariant.{AtDuty, CoreInvariant, numbers_of}
use Rattle.brc_model.proofs.Objects.RowsAfterStep.{KeepsRow, following, row_stays}
use Rattle.brc_model.proofs.Objects.RowsAfterElsewhere.{subject, row_elsewhere}
use Rattle.brc_model.proofs.Objects.RowsAfterLocal.{row_after_retain_load, row_after_retain_store, row_after_retain_add, row_after_release_load, row_after_release_store, row_after_decide_at_zero, row_after_cell_swap}
use Rattle.brc_model.proofs.Objects.RowsAfterShared.{row_after_shared_load, row_after_own_exchange, row_after_handed_exchange}
use Rattle.brc_model.proofs.Objects.RowsAfterMarks.{row_after_set_mark, row_after_look, row_after_take_mark, row_after_found, row_after_claim_mark, row_after_settle_kind, row_after_settle_cell, row_after_settle_end}
use Rattle.brc_model.proofs.Objects.RowsAfterBirths.{row_after_birth_kind, row_after_birth_local}
use Rattle.brc_model.proofs.Objects.RowsAfterMerge.{row_after_own_swap, row_after_handed_swap, row_after_merge_load, row_after_merge_exchange}
use Rattle.brc_model.proofs.Basics.Blocks.{immortal_apart}
use Rattle.brc_model.specs.declared.layout.Layout.{Layout}
use Rattle.brc_model.specs.Layout.{none_row, block_of, IsCounted}
use Rattle.brc_model.proofs.Stepping.FitsAfter.{NotGone}

none_counted : (layout : Layout) → IsCounted layout none_row → ⊥
none_counted layout counted = immortal_apart layout none_row none_row counted refl refl

module _ {p : Accounts} {n : ℕ} {m : Machine} {t : ℕ} {a : Actor} {rest : List Duty} where
  -- A duty keeps the invariant of the row that it is about.
  own_row : (d : Duty) → AtDuty p n m t a d rest → IsCounted m.layout (subject m.layout t d)
      → KeepsRow m t a d rest (subject m.layout t d)
  own_row (RetainLoad y h) s some = row_after_retain_load some s
  own_row (RetainStore y h w) s some = row_after_retain_store s
  own_row (RetainAdd y h) s some = row_after_retain_add s
  own_row (ReleaseLoad y h) s some = row_after_release_load some s
  own_row (ReleaseStore y w) s some = row_after_release_store s
  own_row (DecideAtZero y) s some = row_after_decide_at_zero s
  own_row (SharedLoad y r) s some = row_after_shared_load some s
  own_row (SharedExchange y Own w) s some = row_after_own_exchange s
  own_row (SharedExchange y Handed w) s some = row_after_handed_exchange s
  own_row (SetMark y) s some = row_after_set_mark s
  own_row (Look y) s some = row_after_look s
  own_row (TakeMark y) s some = row_after_take_mark s
  own_row (MergeSwap y Own) s some = row_after_own_swap s
  own_row (MergeSwap y Handed) s some = row_after_handed_swap s
  own_row (MergeLoad y c r) s some = row_after_merge_load s
  own_row (MergeExchange y c w r) s some = row_after_merge_exchange s
  own_row Settle s some = absurd (none_counted m.layout some)
  own_row (SettleKind y) s some = row_after_settle_kind some s
  own_row (SettleCell y i cells) s some = row_after_settle_cell some s
  own_row (SettleEnd y) s some = row_after_settle_end s
  own_row (Leave y left) s some = absurd (none_counted m.layout some)
  own_row (Scan w left) s some = absurd (none_counted m.layout some)
  own_row (TakeFound w marks) s some = row_after_found some s
  own_row Finish s some = absurd (none_counted m.layout some)
  own_row (ClaimMark y) s some = row_after_claim_mark some s
  own_row (MarksLoad w) s some = absurd (none_counted m.layout some)
  own_row (BirthKind y h w) s some = row_after_birth_kind some s
  own_row (BirthLocal y h) s some = row_after_birth_local s
  own_row (CellSwap y i z h) s some = row_after_cell_swap some s
  -- `FieldFilled`, `Chained`, `FieldEmptied`, `ResourceClosed`, `KindRead`, `Locks`, `LockHeld`, `Unlocks`, `CellRead`,
  -- `ResourceLent` and `ResourceReturned`: the step changes neither what the row counts nor what any duty weighs.
  own_row d s some =
      row_stays {next = following m t a d} {x = subject m.layout t d} s some (record {
        follows = refl;
        lives = refl;
        local = refl;
        shared = refl;
        mark = refl;
        references = refl;
        waiting = refl;
        carried = refl;
        merging = refl;
        deciding = refl;
      })

module _ {p : Accounts} {n : ℕ} {m : Machine} where
  -- A thread's next duty keeps the invariant of every counted row.
  pub rows_after : (t : ℕ) (a : Actor) (d : Duty) (rest : List Duty) → CoreInvariant p n m
      → slice_get m.actors t ≡ Some a → a.agenda ≡ d ∷ rest → NotGone a → (x : ℕ) → IsCounted m.layout x
      → RowInvariant (block_of m.layout x) ((machine_by_duty m t a d rest).life x)
      (numbers_of (machine_by_duty m t a d rest) x)
  rows_after t a d rest core actor agenda runs x some =
      let s : AtDuty p n m t a d rest = record { core = core; found = actor; agenda = agenda } in
      elim (eqb_tells (subject m.layout t d) x) [
        | inl same ↦
            subst (λ (z : ℕ). KeepsRow m t a d rest z) same.1
            (own_row d s (subst (IsCounted m.layout) (sym same.1) some))
        | inr other ↦ row_elsewhere s x some other.0
      ]
