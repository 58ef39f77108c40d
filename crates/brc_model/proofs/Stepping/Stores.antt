-- The word that each plain store overwrites. Some duties store whatever they find: `is_store` lists them, and
-- `stores_blindly` shows that such a step does the same for every word found. A running thread does the step as one
-- plain store. The rule of a store names the word stored and not the word found, and a step has both, so the word found
-- has to follow from the invariant. `overwritten` shows that it does: a thread at a storing duty finds the word that
-- `Overwrites` names.
use Rattle.std.proofs.Common.{◌≡◌, ℕ, ◌≤◌, Bool, true, List, [], ◌∷◌, refl, sym, ap, ◌∙◌, subst, arith, Option}
use Rattle.brc_word.specs.declared.values.TheConstants.{NOBODY}
use Rattle.brc_model.specs.declared.duty.Duty.{Duty}
use Rattle.brc_model.specs.declared.duty.Duty.TheVariants.{RetainStore, ReleaseStore, Die, SettleEnd, Leave, Finish, BirthKind, BirthField, BirthLocal, UnlockGate, ReturnField}
use Rattle.brc_model.specs.declared.address.Address.{Address}
use Rattle.brc_model.specs.declared.address.Address.TheVariants.{Local, ThreadWord}
use Rattle.brc_model.specs.declared.actor.Status.{Status}
use Rattle.brc_model.specs.declared.actor.Status.TheVariants.{Running, Leaving, Gone}
use Rattle.brc_model.specs.Duties.{new_word, continuation, new_head}
use Rattle.brc_model.specs.declared.actor.Actor.{Actor}
use Rattle.brc_model.specs.Machine.{Life, Machine, locked_by, lent_by}
use Rattle.brc_model.specs.Moves.{reference_effects}
use Rattle.brc_model.specs.RowInvariant.{RowInvariant}
use Rattle.brc_model.specs.Accounts.{Accounts}
use Rattle.brc_model.specs.Invariant.{AtDuty, numbers_of}
use Rattle.brc_model.specs.Knowledge.{status_word, IsNext}
use Rattle.brc_model.specs.Stores.{is_store, Overwrites}
use Rattle.brc_model.specs.OpenWork.{Agenda, AgendaFits}
use Rattle.brc_model.proofs.Basics.Blocks.{next_counted, next_index, next_block, next_unborn}
use Rattle.brc_model.proofs.Frame.Leaves.{head_of}
use Rattle.brc_model.proofs.Stepping.FitsAfter.{found_by}
use Rattle.brc_model.proofs.Objects.BlanksAfter.{blanks_here}
use Rattle.brc_model.proofs.Objects.ResourcesLent.{returning_finds}
use Rattle.brc_model.specs.declared.layout.Layout.{Layout}
use Rattle.brc_model.specs.Layout.{block_of, index_of}

-- ---- the duties that store

-- The duty does the same for both words found.
pub record StoresBlindly (memory : Address → ℕ) (layout : Layout) (t : ℕ) (running : Bool) (head : ℕ) (d : Duty)
    (found other : ℕ)
    : Type 0 where
  pub left : new_word layout t head d found ≡ new_word layout t head d other
  pub next : continuation layout t running head d found ≡ continuation layout t running head d other
  pub head_after : new_head head d found ≡ new_head head d other
  pub locked : (l : Option ℕ) → locked_by l d found ≡ locked_by l d other
  pub lent : (l : Option ℕ) → lent_by l d found ≡ lent_by l d other
  pub moves : reference_effects memory t d found ≡ reference_effects memory t d other

-- A storing duty does the same for every word that it finds.
pub stores_blindly : (memory : Address → ℕ) (layout : Layout) (t : ℕ) (running : Bool) (head : ℕ) (d : Duty)
    (found other : ℕ)
    → is_store d ≡ true → StoresBlindly memory layout t running head d found other
stores_blindly memory layout t running head (RetainStore x h w) found other is =
    record { left = refl; next = refl; head_after = refl; locked = λ l. refl; lent = λ l. refl; moves = refl }
stores_blindly memory layout t running head (ReleaseStore x w) found other is =
    record { left = refl; next = refl; head_after = refl; locked = λ l. refl; lent = λ l. refl; moves = refl }
stores_blindly memory layout t running head (Die x) found other is =
    record { left = refl; next = refl; head_after = refl; locked = λ l. refl; lent = λ l. refl; moves = refl }
stores_blindly memory layout t running head (SettleEnd x) found other is =
    record { left = refl; next = refl; head_after = refl; locked = λ l. refl; lent = λ l. refl; moves = refl }
stores_blindly memory layout t running head (Leave x k) found other is =
    record { left = refl; next = refl; head_after = refl; locked = λ l. refl; lent = λ l. refl; moves = refl }
stores_blindly memory layout t running head Finish found other is =
    record { left = refl; next = refl; head_after = refl; locked = λ l. refl; lent = λ l. refl; moves = refl }
stores_blindly memory layout t running head (BirthKind x h w) found other is =
    record { left = refl; next = refl; head_after = refl; locked = λ l. refl; lent = λ l. refl; moves = refl }
stores_blindly memory layout t running head (BirthField x h) found other is =
    record { left = refl; next = refl; head_after = refl; locked = λ l. refl; lent = λ l. refl; moves = refl }
stores_blindly memory layout t running head (BirthLocal x h) found other is =
    record { left = refl; next = refl; head_after = refl; locked = λ l. refl; lent = λ l. refl; moves = refl }
stores_blindly memory layout t running head (UnlockGate x) found other is =
    record { left = refl; next = refl; head_after = refl; locked = λ l. refl; lent = λ l. refl; moves = refl }
stores_blindly memory layout t running head (ReturnField x) found other is =
    record { left = refl; next = refl; head_after = refl; locked = λ l. refl; lent = λ l. refl; moves = refl }
stores_blindly memory layout t running head _ found other is = absurd cc

-- ---- the word that a store overwrites

-- ---- a thread's own word

module _ {p : Accounts} {n : ℕ} {m : Machine} {t : ℕ} {a : Actor} {d : Duty} {rest : List Duty} where
  word_is : (status : Status) → AtDuty p n m t a d rest → a.status ≡ status
      → m.memory (ThreadWord t) ≡ status_word status
  word_is status here is = (here.core.each t a here.found).0.word ∙ ap status_word is

-- A thread whose next duty is `Leave` is running.
leaving_runs : (m : Machine) (t : ℕ) (a : Actor) (x k : ℕ) (rest : List Duty) (status : Status)
    → a.agenda ≡ Leave x k ∷ rest → AgendaFits a status → status ≡ Running
leaving_runs m t a x k rest Running is fits = refl
leaving_runs m t a x k rest Gone is fits = absurd (let wrong : [] ≡ Leave x k ∷ rest = sym fits.0 ∙ is in cc)
leaving_runs m t a x k [] Leaving is fits =
    (subst (λ (l : List Duty). Agenda a.used Leaving l) is fits).0
leaving_runs m t a x k (e ∷ rest) Leaving is fits =
    absurd (subst (λ (l : List Duty). Agenda a.used Leaving l) is fits)

-- A thread whose next duty is `Finish` is leaving.
finishing_leaves : (m : Machine) (t : ℕ) (a : Actor) (rest : List Duty) (status : Status)
    → a.agenda ≡ Finish ∷ rest → AgendaFits a status → status ≡ Leaving
finishing_leaves m t a rest Leaving is fits = refl
finishing_leaves m t a rest Gone is fits = absurd (let wrong : [] ≡ Finish ∷ rest = sym fits.0 ∙ is in cc)
finishing_leaves m t a [] Running is fits =
    subst (λ (l : List Duty). Agenda a.used Running l) is fits
finishing_leaves m t a (e ∷ rest) Running is fits =
    absurd (subst (λ (l : List Duty). Agenda a.used Running l) is fits)

-- ---- births

-- The row that is born next isn't used yet.
next_unused : (m : Machine) (t : ℕ) (a : Actor) (x : ℕ) → IsNext m t a x → a.used ≤ index_of m.layout t x
next_unused m t a x next = omega (arith, next_index m t a x next)

module _ {p : Accounts} {n : ℕ} {m : Machine} {t : ℕ} {a : Actor} {d : Duty} {rest : List Duty} where
  next_local : (x : ℕ) → AtDuty p n m t a d rest → IsNext m t a x → m.memory (Local x) ≡ NOBODY
  next_local x here next =
      let above = next_counted m t a x next in
      (subst (λ (l : Life). RowInvariant (block_of m.layout x) l (numbers_of m x))
      (next_unborn p n m t a x here.core here.found next) (here.core.rows x above)).local

-- ---- all stores

module _ {p : Accounts} {n : ℕ} {m : Machine} {t : ℕ} {a : Actor} {rest : List Duty} where
  -- A thread at a storing duty overwrites the word that `Overwrites` names.
  pub overwritten : (d : Duty) → AtDuty p n m t a d rest → Overwrites t d (found_by m t a d)
  overwritten (RetainStore x h w) here = (head_of here).3
  overwritten (ReleaseStore x w) here = (head_of here).2
  overwritten (Die x) here = (head_of here).2
  overwritten (SettleEnd x) here = (head_of here).2
  overwritten (Leave x k) here =
      word_is Running here (leaving_runs m t a x k rest a.status here.agenda (here.core.each t a here.found).1)
  overwritten Finish here =
      word_is Leaving here (finishing_leaves m t a rest a.status here.agenda (here.core.each t a here.found).1)
  overwritten (BirthKind x h w) here =
      let d : Duty = BirthKind x h w in
      let next = (head_of here).0 in
      (blanks_here here).kinds x (next_block m t a x next) (next_unused m t a x next) refl
  overwritten (BirthField x h) here =
      let d : Duty = BirthField x h in
      let next = (head_of here).0 in
      (blanks_here here).fields x (next_block m t a x next) (next_unused m t a x next) refl
  overwritten (BirthLocal x h) here = next_local x here (head_of here).0
  overwritten (UnlockGate x) here = ((here.core.each t a here.found).0.locks x (head_of here).1).gate
  overwritten (ReturnField x) here = returning_finds p n m t a x rest here
  overwritten _ here = tt
