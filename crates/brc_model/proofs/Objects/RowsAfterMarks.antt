-- The steps that set, look at and take marks, and those that empty and close a row, keep the row's invariant.
use Rattle.std.proofs.Common.{◌≡◌, ℕ, ◌+◌, ◌-◌, ◌≤◌, Bool, true, false, cond, List, [], ◌∷◌, ◌++◌, refl, sym, ap, ◌∙◌, subst, arith, inl, inr}
use Rattle.std.specs.Prelude.{◌==◌}
use Rattle.std.proofs.lemmas.List.Sums.{sum_by-append}
use Rattle.brc_word.specs.declared.values.TheConstants.{SET, UNSET}
use Rattle.brc_word.specs.Words.{unmarked_word, lowest_mark}
use Rattle.brc_model.specs.AbstractState.{references_to}
use Rattle.brc_model.specs.declared.duty.Reason.TheVariants.{Handed}
use Rattle.brc_model.specs.declared.duty.Duty.{Duty}
use Rattle.brc_model.specs.declared.duty.Duty.TheVariants.{SetMark, Look, TakeMark, MergeSwap, Settle, SettleKind, SettleCell, TakeField, SettleEnd, TakeFound, ClaimMark}
use Rattle.brc_model.specs.declared.address.Address.TheVariants.{Local, Shared, Cell, KindOf}
use Rattle.brc_model.specs.Duties.{found_row, claimed, has_resource, cells_of, cells_from}
use Rattle.brc_model.specs.declared.actor.Actor.{Actor}
use Rattle.brc_model.specs.Machine.{Life, Live, Dying, Closed, Machine, with_life, dies_next, life_by, machine_by_duty, mark_of}
use Rattle.brc_model.proofs.Frame.CellsHeld.{cell_held}
use Rattle.brc_model.proofs.Frame.Cells.{taken_references}
use Rattle.brc_model.specs.RowInvariant.{waits, carries, merges, decides, RowInvariant}
use Rattle.brc_model.specs.Accounts.{Accounts}
use Rattle.brc_model.specs.Invariant.{AtDuty, numbers_of}
use Rattle.brc_model.proofs.Basics.Marks.{set_mark, taken_mark}
use Rattle.brc_model.proofs.Objects.RowMerges.{mark_set, mark_taken}
use Rattle.brc_model.proofs.Objects.RowsAfterStep.{head_fits_of, following, KeepsRow, weighed, row_becomes, row_stays}
use Rattle.brc_model.proofs.Objects.RowsAfterElsewhere.{IsApart, AreApart, none_apart, apart_if, light_apart, all_light, cells_apart, released_apart}
use Rattle.brc_model.proofs.Objects.RowsAfterOwn.{own, one_own, lives_so, row_apart}
use Rattle.brc_model.specs.Layout.{block_of, IsCounted}

-- ---- a mark is set

module _ {p : Accounts} {n : ℕ} {m : Machine} {t : ℕ} {a : Actor} {rest : List Duty} where
  -- The row's invariant holds after `Marked`.
  pub row_after_set_mark : {y : ℕ} → AtDuty p n m t a (SetMark y) rest → KeepsRow m t a (SetMark y) rest y
  row_after_set_mark {y = y} s =
      let some : IsCounted m.layout y = head_fits_of s in
      let k = numbers_of m y in
      let weights = weighed s (Look y ∷ []) refl y in
      let one = one_own y in
      let awaits : 1 ≤ k.waiting = omega (arith, weights.waiting, one) in
      let lives = lives_so s y some (omega (arith, awaits)) in
      row_becomes m t a (SetMark y) rest y (Look y ∷ []) refl Live lives.is_live
      (record k { mark = 1; waiting = k.waiting - 1 }) (record {
        local = refl;
        shared = refl;
        mark = sym (set_mark m.layout m.memory y);
        references = refl;
        waiting = omega (arith, weights.waiting, one);
        carried = omega (arith, weights.carried);
        merging = omega (arith, weights.merging);
        deciding = omega (arith, weights.deciding);
      }) (mark_set (block_of m.layout y) k lives.invariant awaits)

  -- The row's invariant holds after `OwnerRuns` and `OwnerExits`.
  pub row_after_look : {y : ℕ} → AtDuty p n m t a (Look y) rest → KeepsRow m t a (Look y) rest y
  row_after_look {y = y} s =
      let some : IsCounted m.layout y = (head_fits_of s).0 in
      let next = apart_if _ (none_apart y) (all_light y (TakeMark y ∷ []) refl) in
      row_apart s y some refl next (λ life state. refl)
      (record { local = refl; shared = refl; mark = refl; references = refl })

-- ---- a mark is taken

-- What a step that takes the row's mark does, whether or not the mark was set. `tail` are the duties that follow in
-- both cases.
pub record Takes (m : Machine) (t : ℕ) (a : Actor) (d : Duty) (rest : List Duty) (y : ℕ) (tail : List Duty) : Type 0
  where
    pub follows : following m t a d ≡ claimed y (mark_of m.layout m.memory y) ++ tail
    pub this : IsApart y d
    pub others : AreApart y tail
    pub lives : (next : List Duty) → life_by m.life t d next y ≡ with_life m.life (dies_next next) (Dying t) y
    pub local : m.memory (Local y) ≡ (machine_by_duty m t a d rest).memory (Local y)
    pub shared : m.memory (Shared y) ≡ (machine_by_duty m t a d rest).memory (Shared y)
    pub mark : mark_of m.layout (machine_by_duty m t a d rest).memory y ≡ UNSET
    pub references : references_to y m.abstract.references
        ≡ references_to y (machine_by_duty m t a d rest).abstract.references

module _ {p : Accounts} {n : ℕ} {m : Machine} {t : ℕ} {a : Actor} {d : Duty} {rest : List Duty} where
  -- `MarkGone`, `FoundMarkGone` and `NothingToClaim`: if the mark wasn't set, the row is unchanged.
  takes_none : {tail : List Duty} {y : ℕ} → AtDuty p n m t a d rest → IsCounted m.layout y → Takes m t a d rest y tail
      → mark_of m.layout m.memory y ≡ UNSET → KeepsRow m t a d rest y
  takes_none {tail = tail} {y = y} s some takes unset =
      let follows : following m t a d ≡ tail = takes.follows ∙ ap (λ (w : ℕ). claimed y w ++ tail) unset in
      row_stays {next = tail} {x = y} s some (record {
        follows = follows;
        lives = takes.lives tail ∙ takes.others.lives m.life (Dying t);
        local = takes.local;
        shared = takes.shared;
        mark = unset ∙ sym takes.mark;
        references = takes.references;
        waiting = takes.others.waiting ∙ sym takes.this.waiting;
        carried = takes.others.carried ∙ sym takes.this.carried;
        merging = takes.others.merging ∙ sym takes.this.merging;
        deciding = takes.others.deciding ∙ sym takes.this.deciding;
      })

abbrev hands : ℕ → List Duty
hands y = MergeSwap y Handed ∷ []

module _ {p : Accounts} {n : ℕ} {m : Machine} {t : ℕ} {a : Actor} {d : Duty} {rest : List Duty} where
  -- `MarkTakenBack`, `FoundMarkTaken` and `MarkClaimed`: if the mark was set, its pending decrement goes over to the
  -- duty that merges the object.
  takes_one : {tail : List Duty} {y : ℕ} → AtDuty p n m t a d rest → IsCounted m.layout y → Takes m t a d rest y tail
      → mark_of m.layout m.memory y ≡ SET → KeepsRow m t a d rest y
  takes_one {tail = tail} {y = y} s some takes set =
      let k = numbers_of m y in
      let follows : following m t a d ≡ hands y ++ tail = takes.follows ∙ ap (λ (w : ℕ). claimed y w ++ tail) set in
      let weights = weighed s (hands y ++ tail) follows y in
      let lives = lives_so s y some (omega (arith, set)) in
      let one = one_own y in
      row_becomes m t a d rest y (hands y ++ tail) follows Live (takes.lives (hands y ++ tail) ∙ lives.is_live)
      (record k { mark = 0; waiting = k.waiting + 1 }) (record {
        local = takes.local;
        shared = takes.shared;
        mark = sym takes.mark;
        references = takes.references;
        waiting =
            omega (
              arith,
              weights.waiting,
              one,
              takes.this.waiting,
              takes.others.waiting,
              sum_by-append (waits y) (hands y) tail,
            );
        carried =
            omega (
              arith,
              weights.carried,
              takes.this.carried,
              takes.others.carried,
              sum_by-append (carries y) (hands y) tail,
            );
        merging =
            omega (
              arith,
              weights.merging,
              takes.this.merging,
              takes.others.merging,
              sum_by-append (merges y) (hands y) tail,
            );
        deciding =
            omega (
              arith,
              weights.deciding,
              takes.this.deciding,
              takes.others.deciding,
              sum_by-append (decides y) (hands y) tail,
            );
      }) (mark_taken (block_of m.layout y) k lives.invariant set)

  row_after_taking : {tail : List Duty} {y : ℕ} → AtDuty p n m t a d rest → IsCounted m.layout y
      → Takes m t a d rest y tail → KeepsRow m t a d rest y
  row_after_taking {y = y} s some takes =
      elim (s.core.marks y) [
        | inl unset ↦ takes_none s some takes unset
        | inr set ↦ takes_one s some takes set.0
      ]

module _ {p : Accounts} {n : ℕ} {m : Machine} {t : ℕ} {a : Actor} {rest : List Duty} where
  -- The row's invariant holds after `MarkTakenBack` and `MarkGone`.
  pub row_after_take_mark : {y : ℕ} → AtDuty p n m t a (TakeMark y) rest → KeepsRow m t a (TakeMark y) rest y
  row_after_take_mark {y = y} s =
      let takes : Takes m t a (TakeMark y) rest y [] = record {
        follows = elim (mark_of m.layout m.memory y == SET) as (λ b. cond b (hands y) [] ≡ cond b (hands y) [] ++ []) [
          | true ↦ refl
          | false ↦ refl
        ];
        this = light_apart y (TakeMark y) refl;
        others = none_apart y;
        lives = λ next. refl;
        local = refl;
        shared = refl;
        mark = taken_mark m.layout m.memory y;
        references = refl;
      } in
      row_after_taking s (head_fits_of s).0 takes

  -- The row's invariant holds after `FoundMarkTaken` and `FoundMarkGone`.
  pub row_after_found : {w marks : ℕ} → IsCounted m.layout (found_row m.layout t w marks)
      → AtDuty p n m t a (TakeFound w marks) rest
      → KeepsRow m t a (TakeFound w marks) rest (found_row m.layout t w marks)
  row_after_found {w = w} {marks = marks} some s =
      let y = found_row m.layout t w marks in
      let tail : List Duty = Settle ∷ TakeFound w (unmarked_word marks (lowest_mark marks)) ∷ [] in
      let takes : Takes m t a (TakeFound w marks) rest y tail = record {
        follows = refl;
        this = light_apart y (TakeFound w marks) refl;
        others = all_light y tail refl;
        lives = λ next. refl;
        local = refl;
        shared = refl;
        mark = taken_mark m.layout m.memory y;
        references = refl;
      } in
      row_after_taking s some takes

  -- The row's invariant holds after `MarkClaimed` and `NothingToClaim`.
  pub row_after_claim_mark : {y : ℕ} → IsCounted m.layout y → AtDuty p n m t a (ClaimMark y) rest
      → KeepsRow m t a (ClaimMark y) rest y
  row_after_claim_mark {y = y} some s =
      let takes : Takes m t a (ClaimMark y) rest y (Settle ∷ []) = record {
        follows = refl;
        this = light_apart y (ClaimMark y) refl;
        others = all_light y (Settle ∷ []) refl;
        lives = λ next. refl;
        local = refl;
        shared = refl;
        mark = taken_mark m.layout m.memory y;
        references = refl;
      } in
      row_after_taking s some takes

  -- ---- deallocation

  -- The row's invariant holds after `DyingResource` and `DyingCells`.
  pub row_after_settle_kind : {y : ℕ} → IsCounted m.layout y → AtDuty p n m t a (SettleKind y) rest
      → KeepsRow m t a (SettleKind y) rest y
  row_after_settle_kind {y = y} some s =
      let word = m.memory (KindOf y) in
      let next =
      apart_if (has_resource word) (all_light y (TakeField y ∷ []) refl) (cells_apart y y 0 (cells_of word)) in
      row_apart s y some refl next (λ life state. refl)
      (record { local = refl; shared = refl; mark = refl; references = refl })

  -- The row's invariant holds after `CellEmptied`.
  pub row_after_settle_cell : {y i cells : ℕ} → IsCounted m.layout y → AtDuty p n m t a (SettleCell y i cells) rest
      → KeepsRow m t a (SettleCell y i cells) rest y
  row_after_settle_cell {y = y} {i = i} {cells = cells} some s =
      row_apart s y some refl (released_apart y (m.memory (Cell y i)) (cells_from y (i + 1) cells)
      (cells_apart y y (i + 1) cells)) (λ life state. refl)
      (record {
        local = refl;
        shared = refl;
        mark = refl;
        references =
            sym (taken_references m.abstract t y i (m.memory (Cell y i)) y
            (λ z is. omega (arith, cell_held y i z s.core is)));
      })

  -- `Closes`: a dying row is closed, and still counts nothing.
  pub row_after_settle_end : {y : ℕ} → AtDuty p n m t a (SettleEnd y) rest → KeepsRow m t a (SettleEnd y) rest y
  row_after_settle_end {y = y} s =
      let fits = head_fits_of s in
      let k = numbers_of m y in
      let weights = weighed s [] refl y in
      let dead : RowInvariant (block_of m.layout y) (Dying t) k =
      subst (λ (l : Life). RowInvariant (block_of m.layout y) l k) fits.1 (s.core.rows y fits.0) in
      row_becomes m t a (SettleEnd y) rest y [] refl Closed (ap (λ (b : Bool). cond b Closed (m.life y)) (own y)) k
      (record {
        local = refl;
        shared = refl;
        mark = refl;
        references = refl;
        waiting = omega (arith, weights.waiting);
        carried = omega (arith, weights.carried);
        merging = omega (arith, weights.merging);
        deciding = omega (arith, weights.deciding);
      }) dead
