-- What holds between any two steps of running threads beside the counts: who watches a mark, who may change a cell, a
-- field or a local word, and what a thread that is gone holds.
use Rattle.std.proofs.Common.{true, false, ◌≡◌, ◌≢◌, ◌⊎◌, ℕ, ◌+◌, ◌-◌, Bool, cond, List, Option, None, Some, inl, inr, refl, sym, ap, ◌∙◌, subst, arith}
use Rattle.std.specs.Prelude.{◌==◌, ◌&&◌, slice_get}
use Rattle.std.proofs.lemmas.Option.{slice_get_within}
use Rattle.std.proofs.lemmas.Bool.{eq-eqb}
use Rattle.std.proofs.lemmas.Bool.Decides.{eqb_tells}
use Rattle.brc_word.specs.declared.values.TheConstants.{RUNNING}
use Rattle.brc_word.specs.Words.{local_word}
use Rattle.brc_model.specs.declared.duty.Duty.{Duty}
use Rattle.brc_model.specs.declared.duty.Duty.TheVariants.{RetainLoad, RetainStore, ReleaseLoad, ReleaseStore, MergeSwap, SettleCell, CellLoad, CellSwap, BirthField, BirthLocal, TakeField, LendField, ReturnField}
use Rattle.brc_model.specs.declared.duty.Reason.TheVariants.{Own, Handed}
use Rattle.brc_model.specs.declared.duty.Holding.TheVariants.{InFlight}
use Rattle.brc_model.specs.declared.actor.Status.{Status}
use Rattle.brc_model.specs.declared.address.Address.TheVariants.{Local, Gate, Cell, Field, ThreadWord}
use Rattle.brc_model.specs.Layout.{block_of}
use Rattle.brc_model.specs.Duties.{address_of, new_word}
use Rattle.brc_model.specs.declared.actor.Actor.{Actor}
use Rattle.brc_model.specs.Machine.{Machine, Unborn, Live, Dying, Closed, same_address, written, machine_by_duty}
use Rattle.brc_model.specs.References.{one_if}
use Rattle.brc_model.specs.RowInvariant.{decides}
use Rattle.brc_model.specs.Accounts.{Account, Accounts, HoldsNone}
use Rattle.brc_model.specs.Knowledge.{status_word, OwnsLocally, IsDyingWord, HasChained, GuardsCells}
use Rattle.brc_model.specs.Gates.{IsFree, IsLocked, GateFits}
use Rattle.brc_model.specs.OpenWork.{AgendaFits, dies_by, exits, is_finalising}
use Rattle.brc_model.specs.Invariant.{ActorFits, AtDuty, CoreInvariant}
use Rattle.brc_model.specs.Progress.{HasLock, Runs}
use Rattle.brc_model.specs.Counting.{Counts}
use Rattle.brc_model.specs.CountingLaws.{ComesNext}
use Rattle.brc_model.specs.GuardLaws.{QueuedMarksAreWatched, HoldsGate, CellsAreGuarded, GuardedCellsStay, FieldsAreGuarded, OwnersCountAlone, GoneThreadsHoldNothing}
use Rattle.brc_model.proofs.Basics.Blocks.{next_block, next_unborn}
use Rattle.brc_model.proofs.Basics.Written.{written_apart, written_load, apart_local}
use Rattle.brc_model.proofs.Frame.Alive.{Alive, alive_backed, alive_deciding, first_weighs}
use Rattle.brc_model.proofs.Frame.Leaves.{head_of, given_alive, locked_lives}
use Rattle.brc_model.proofs.Frame.Lives.{leaves_others}
use Rattle.brc_model.proofs.Frame.Others.{dying_is, is_dying, life_kept}
use Rattle.brc_model.proofs.Limits.StepsAreWithin.{live_owner}
use Rattle.brc_model.proofs.Stepping.FitsAfter.{memory_by}
use Rattle.brc_model.proofs.Promises.MarksWatched.{mark_watched}

module _ {p : Accounts} {n : ℕ} {m : Machine} {t : ℕ} {a : Actor} {d : Duty} {rest : List Duty} where
  -- The premise of the lemmas about one duty.
  pub at_next : Counts p n m → ComesNext m t a d rest → AtDuty p n m t a d rest
  at_next counts next = record { core = counts.kept.core; found = next.found; agenda = next.agenda }

-- ---- marks

pub marks_guarded : QueuedMarksAreWatched
marks_guarded p n m x counts set = mark_watched x counts.kept.core set

-- ---- cells and fields

module _ {p : Accounts} {n : ℕ} {m : Machine} where
  -- The gate of the object that a thread has locked names the thread.
  gate_of : (t x : ℕ) → Counts p n m → HasLock m t x → HoldsGate m t x
  gate_of t x counts (a, found, locked) = record {
    actor = a;
    found = found;
    locked = locked;
    gate = ((counts.kept.core.each t a found).0.locks x locked).gate;
  }

abbrev MayEdit : Machine → ℕ → Duty → ℕ → Type 0
MayEdit m t d x = HasLock m t x ⊎ ((m.life x ≡ Dying t) × (is_finalising d x ≡ true))

-- A step that changes no cell but another row's leaves the row's.
by_cell : (P : ℕ → Type 0) (m : Machine) (x y i j word : ℕ) → P y
    → written m.memory (Cell y j) word (Cell x i) ≢ m.memory (Cell x i) → P x
by_cell P m x y i j word may changed = elim (eqb_tells y x) [
  | inl same ↦ subst P same.1 may
  | inr other ↦ absurd (changed (ap (λ (b : Bool). cond (b && (j == i)) word (m.memory (Cell x i))) other.0))
]

module _ {p : Accounts} {n : ℕ} {m : Machine} {t : ℕ} {a : Actor} {rest : List Duty} where
  edited_by : (d : Duty) (x i : ℕ) → AtDuty p n m t a d rest → memory_by m t a d (Cell x i) ≢ m.memory (Cell x i)
      → MayEdit m t d x
  edited_by (SettleCell y j k) x i here =
      by_cell (MayEdit m t (SettleCell y j k)) m x y i j 0 (inr ((head_of here).1, eq-eqb y y refl))
  edited_by (CellSwap y j z h) x i here =
      by_cell (MayEdit m t (CellSwap y j z h)) m x y i j (z + 1) (inl (a, here.found, (head_of here).0))
  edited_by (CellLoad y j) x i here = λ changed. absurd (changed (written_load m.memory (Cell y j) (Cell x i)))
  edited_by _ x i here = λ changed. absurd (changed refl)

pub cells_guarded : CellsAreGuarded
cells_guarded p n m t a d rest x i counts next changed =
    elim (edited_by d x i (at_next counts next) changed) [
      | inl lock ↦ inl (gate_of t x counts lock)
      | inr dies ↦ inr dies
    ]

module _ {p : Accounts} {n : ℕ} {m : Machine} where
  -- Two threads don't guard the same cells, and a locked list isn't dying.
  no_other : (t u : ℕ) (b : Actor) (d : Duty) (x : ℕ) → Counts p n m → slice_get m.actors u ≡ Some b → u ≢ t
      → GuardsCells m u b x → MayEdit m t d x → ⊥
  no_other t u b d x counts found apart (inl locked) (inl lock) =
      let mine = ((counts.kept.core.each u b found).0.locks x locked).gate in
      let other = (gate_of t x counts lock).gate in
      apart (omega (arith, mine, other))
  no_other t u b d x counts found apart (inl locked) (inr dies) =
      let lives = locked_lives u b x counts.kept.core found locked in
      let wrong : Live ≡ Dying t = sym lives ∙ dies.0 in
      absurd cc
  no_other t u b d x counts found apart (inr chained) (inl (a, at, locked)) =
      let lives = locked_lives t a x counts.kept.core at locked in
      let wrong : Live ≡ Dying u = sym lives ∙ chained.0 in
      absurd cc
  no_other t u b d x counts found apart (inr chained) (inr dies) =
      let both : Dying u ≡ Dying t = sym chained.0 ∙ dies.0 in
      let same : u ≡ t = cc in
      apart same

module _ {p : Accounts} {n : ℕ} {m : Machine} {t : ℕ} {a : Actor} {d : Duty} {rest : List Duty} where
  -- No thread chains a row for another one.
  guarded_before : (u : ℕ) (b : Actor) (x : ℕ) → AtDuty p n m t a d rest → u ≢ t
      → GuardsCells (machine_by_duty m t a d rest) u b x → GuardsCells m u b x
  guarded_before u b x here apart (inl locked) = inl locked
  guarded_before u b x here apart (inr chained) =
      let leaves = (leaves_others here).memory in
      let dies : dies_by (m.life x) u ≡ true =
      sym (leaves.lives u x apart) ∙ dying_is ((machine_by_duty m t a d rest).life x) u chained.0 in
      inr (is_dying (m.life x) u dies, subst (IsDyingWord u) (leaves.gates u x apart dies) chained.1)

module _ {p : Accounts} {n : ℕ} {m : Machine} where
  -- A gate with a dying word is that of a dying row.
  dying_gate : (t : ℕ) (a : Actor) (x : ℕ) → CoreInvariant p n m → slice_get m.actors t ≡ Some a
      → IsDyingWord t (m.memory (Gate x)) → (w : ℕ) × (m.life x ≡ Dying w)
  dying_gate t a x core found (next, word, low) =
      let few = slice_get_within m.actors t a found in
      elim (m.life x) as
      (λ l. m.life x ≡ l → GateFits m.actors x l (m.memory (Gate x)) → (w : ℕ) × (m.life x ≡ Dying w)) [
        | Unborn ↦ λ is fits. absurd (omega (arith, fits, word))
        | Live ↦ λ is fits. elim fits [
          | IsFree free ↦ absurd (omega (arith, free, word))
          | IsLocked u b at locked gate ↦
              absurd (omega (
                arith,
                gate,
                word,
                slice_get_within m.actors u b at,
                core.threads,
                core.few_threads,
              ))
        ]
        | Dying w ↦ λ is fits. (w, is)
        | Closed ↦ λ is fits. absurd (omega (arith, fits, word, low, few, core.threads, core.few_threads))
      ] refl (core.gates x)

module _ {p : Accounts} {n : ℕ} {m : Machine} {t : ℕ} {a : Actor} {d : Duty} {rest : List Duty} where
  -- A thread chains a row by a step on the row's gate.
  chained_before : (x : ℕ) → AtDuty p n m t a d rest → same_address (address_of m.layout t a.head d) (Gate x) ≡ false
      → HasChained (machine_by_duty m t a d rest) t x → HasChained m t x
  chained_before x here apart chained =
      let word : IsDyingWord t (m.memory (Gate x)) =
      subst (IsDyingWord t)
      (written_apart m.memory (address_of m.layout t a.head d) (Gate x)
      (new_word m.layout t a.head d (m.memory (address_of m.layout t a.head d))) apart) chained.1 in
      let dying = dying_gate t a x here.core here.found word in
      elim (eqb_tells dying.0 t) [
        | inl same ↦ (dying.1 ∙ ap Dying same.1, word)
        | inr other ↦
            let still : (machine_by_duty m t a d rest).life x ≡ Dying dying.0 =
            life_kept m (machine_by_duty m t a d rest) t dying.0 (leaves_others here).memory other.1 x dying.1 in
            let both : Dying dying.0 ≡ Dying t = sym still ∙ chained.0 in
            let threads : dying.0 ≡ t = cc in
            absurd (other.1 threads)
      ]

pub cells_stay : GuardedCellsStay
cells_stay p n m t a d rest counts next =
    let here = at_next counts next in
    record {
      others = λ u b x found apart guards.
          let before = guarded_before u b x here apart guards in (
            before,
            λ i. elim (eqb_tells (memory_by m t a d (Cell x i)) (m.memory (Cell x i))) [
              | inl same ↦ same.1
              | inr other ↦ absurd (no_other t u b d x counts found apart before (edited_by d x i here other.1))
            ],
          );
      own = λ x apart chained. chained_before x here apart chained;
    }

abbrev MayMove : Machine → ℕ → ℕ → Type 0
MayMove m t x = HasLock m t x ⊎ ((m.life x ≡ Dying t) ⊎ ((m.life x ≡ Unborn) × (block_of m.layout x ≡ t)))

-- A step that changes no field but another row's leaves the row's.
by_field : (m : Machine) (t x y word : ℕ) → MayMove m t y
    → written m.memory (Field y) word (Field x) ≢ m.memory (Field x) → MayMove m t x
by_field m t x y word may changed = elim (eqb_tells y x) [
  | inl same ↦ subst (MayMove m t) same.1 may
  | inr other ↦ absurd (changed (ap (λ (b : Bool). cond b word (m.memory (Field x))) other.0))
]

module _ {p : Accounts} {n : ℕ} {m : Machine} {t : ℕ} {a : Actor} {rest : List Duty} where
  moved_by : (d : Duty) (x : ℕ) → AtDuty p n m t a d rest → memory_by m t a d (Field x) ≢ m.memory (Field x)
      → MayMove m t x
  moved_by (TakeField y) x here = by_field m t x y 0 (inr (inl (head_of here).1))
  moved_by (BirthField y h) x here =
      let next = (head_of here).0 in
      by_field m t x y 1 (inr (inr (next_unborn p n m t a y here.core here.found next, next_block m t a y next)))
  moved_by (LendField y) x here = by_field m t x y 0 (inl (a, here.found, (head_of here).1))
  moved_by (ReturnField y) x here =
      let lent = head_of here in
      by_field m t x y 1 (inl (a, here.found, (here.core.each t a here.found).0.lent y lent))
  moved_by _ x here = λ changed. absurd (changed refl)

pub fields_guarded : FieldsAreGuarded
fields_guarded p n m t a d rest x counts next changed =
    elim (moved_by d x (at_next counts next) changed) [
      | inl lock ↦ inl (gate_of t x counts lock)
      | inr other ↦ inr other
    ]

-- ---- local words

module _ {p : Accounts} {n : ℕ} {m : Machine} {t : ℕ} {a : Actor} {d : Duty} {rest : List Duty} where
  -- A live row's owner is the thread of its block.
  owner_block : (x : ℕ) → AtDuty p n m t a d rest → Alive m x → OwnsLocally m t a x → t ≡ block_of m.layout x
  owner_block x here alive owns = elim (live_owner x here.core alive.life) [
    | inl nobody ↦ absurd (omega (arith, nobody, owns.owner))
    | inr block ↦ omega (arith, block, owns.owner)
  ]

abbrev MayCount : Machine → ℕ → ℕ → Type 0
MayCount m t x = Runs m (block_of m.layout x) → t ≡ block_of m.layout x

-- A step that changes no local word but another row's leaves the row's.
by_local : (m : Machine) (t x y word : ℕ) → MayCount m t y
    → written m.memory (Local y) word (Local x) ≢ m.memory (Local x) → MayCount m t x
by_local m t x y word may changed = elim (eqb_tells y x) [
  | inl same ↦ subst (MayCount m t) same.1 may
  | inr other ↦ absurd (changed (written_apart m.memory (Local y) (Local x) word (apart_local y x other.1)))
]

module _ {p : Accounts} {n : ℕ} {m : Machine} {t : ℕ} {a : Actor} {d : Duty} {rest : List Duty} where
  -- A thread that runs has the word of a running thread.
  runs_word : (u : ℕ) → AtDuty p n m t a d rest → Runs m u → m.memory (ThreadWord u) ≡ RUNNING
  runs_word u here (b, found, runs) = (here.core.each u b found).0.word ∙ ap status_word runs

module _ {p : Accounts} {n : ℕ} {m : Machine} {t : ℕ} {a : Actor} {rest : List Duty} where
  counted_by : (d : Duty) (x : ℕ) → AtDuty p n m t a d rest → memory_by m t a d (Local x) ≢ m.memory (Local x)
      → MayCount m t x
  counted_by (RetainLoad y h) x here changed = absurd (changed (written_load m.memory (Local y) (Local x)))
  counted_by (ReleaseLoad y h) x here changed = absurd (changed (written_load m.memory (Local y) (Local x)))
  counted_by (RetainStore y h w) x here changed =
      let fits = head_of here in
      by_local m t x y (w + 1) (λ runs.
      owner_block y here (alive_backed t a y here.core fits.0 fits.1) fits.2) changed
  counted_by (ReleaseStore y w) x here changed =
      let fits = head_of here in
      let alive = given_alive InFlight y here fits.0 (eq-eqb y y refl) refl in
      by_local m t x y (w - 1) (λ runs. owner_block y here alive fits.1) changed
  counted_by (MergeSwap y Own) x here changed =
      let fits = head_of here in
      let one : one_if (y == y) ≡ 1 = ap one_if (eq-eqb y y refl) in
      let alive =
      alive_deciding y here.core fits.0
      (omega (arith, first_weighs (decides y) m.actors t a (MergeSwap y Own) rest here.found here.agenda, one)) in
      by_local m t x y 0 (λ runs. owner_block y here alive fits.1) changed
  counted_by (MergeSwap y Handed) x here changed =
      by_local m t x y 0 (λ runs. elim (head_of here).1 [
        | inl mine ↦ sym mine
        | inr stopped ↦ absurd (stopped (runs_word (block_of m.layout y) here runs))
      ]) changed
  counted_by (BirthLocal y h) x here changed =
      let next = (head_of here).0 in
      by_local m t x y (local_word t 1) (λ runs. sym (next_block m t a y next)) changed
  counted_by _ x here changed = absurd (changed refl)

pub owners_alone : OwnersCountAlone
owners_alone p n m t a d rest x counts next runs changed = counted_by d x (at_next counts next) changed runs

-- ---- threads that are gone

none_locked : (account : Account) (m : Machine) (t : ℕ) (a : Actor) (locked : Option ℕ) → ActorFits account m t a
    → HoldsNone account → a.locked ≡ locked → locked ≡ None
none_locked account m t a None fits none is = refl
none_locked account m t a (Some x) fits none is =
    let it = fits.locks x is in absurd (omega (arith, it.held_so, none it.by x))

none_lent : (account : Account) (m : Machine) (t : ℕ) (a : Actor) (lent : Option ℕ) → ActorFits account m t a
    → a.locked ≡ None → a.lent ≡ lent → lent ≡ None
none_lent account m t a None fits unlocked is = refl
none_lent account m t a (Some x) fits unlocked is =
    absurd (let wrong : None ≡ Some x = sym unlocked ∙ fits.lent x is in cc)

pub gone_hold_nothing : GoneThreadsHoldNothing
gone_hold_nothing p n m t a counts found gone =
    let fits = counts.kept.core.each t a found in
    let idle = subst (AgendaFits a) gone fits.1 in
    let left = fits.0.exited (ap (λ (s : Status). exits s a.agenda) gone) in
    let unlocked = none_locked (p t) m t a a.locked fits.0 left.0 refl in
    record {
      none = left.0;
      agenda = idle.0;
      aside = left.1;
      settled = idle.1;
      unlocked = unlocked;
      returned = none_lent (p t) m t a a.lent fits.0 unlocked refl;
    }
