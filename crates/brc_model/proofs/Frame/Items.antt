-- The list that a thread has locked: no step of another thread changes its kind word or a cell of it. A step of the
-- thread itself may only if it drops items.
use Rattle.std.proofs.Common.{◌≡◌, ◌≢◌, ℕ, ◌+◌, Bool, true, false, List, Some, refl, sym, ap, ◌∙◌, subst, arith}
use Rattle.std.specs.Prelude.{◌==◌, ◌&&◌, slice_get}
use Rattle.std.proofs.lemmas.Bool.{ne_eqb}
use Rattle.brc_model.specs.declared.duty.Duty.{Duty}
use Rattle.brc_model.specs.declared.duty.Duty.TheVariants.{SettleKind, SettleCell, BirthKind, KindLoad, LockGate, UnlockGate, CellLoad, CellSwap}
use Rattle.brc_model.specs.declared.duty.Holding.{Holding}
use Rattle.brc_model.specs.declared.address.Address.TheVariants.{KindOf, Cell}
use Rattle.brc_model.specs.Duties.{address_of}
use Rattle.brc_model.specs.declared.actor.Actor.{Actor}
use Rattle.brc_model.specs.Machine.{Machine, Unborn, actor_by, machine_by_duty, Live}
use Rattle.brc_model.specs.Accounts.{Accounts}
use Rattle.brc_word.specs.Words.{locked_word}
use Rattle.brc_model.specs.Invariant.{CoreInvariant, AtDuty}
use Rattle.brc_model.specs.Knowledge.{HasNoRetainAside}
use Rattle.brc_model.specs.OpenWork.{is_piece}
use Rattle.brc_model.proofs.Basics.Blocks.{next_unborn}
use Rattle.brc_model.proofs.Basics.Lists.{none_some}
use Rattle.brc_model.proofs.Basics.Written.{written_apart, written_load}
use Rattle.brc_model.proofs.Frame.Alive.{live_born}
use Rattle.brc_model.proofs.Frame.Known.{LeavesList, KeepsList}
use Rattle.brc_model.proofs.Frame.Leaves.{head_of, locked_lives, live_apart}

-- Says whether the step may take items away from its own thread: it unlocks the list or changes a cell of it.
abbrev pub drops_items : Duty → Bool
drops_items (UnlockGate x) = true
drops_items (CellSwap x i y h) = true
drops_items _ = false

module _ (p : Accounts) (n : ℕ) (m : Machine) (t : ℕ) (a : Actor) where
  -- ---- kind words

  -- No step changes the kind word of a born row.
  pub word_stays : (d : Duty) (rest : List Duty) (x : ℕ) → AtDuty p n m t a d rest → m.life x ≢ Unborn
      → (machine_by_duty m t a d rest).memory (KindOf x) ≡ m.memory (KindOf x)
  word_stays (SettleKind y) rest x here born = written_load m.memory (KindOf y) (KindOf x)
  word_stays (KindLoad y) rest x here born = written_load m.memory (KindOf y) (KindOf x)
  word_stays (BirthKind y h w) rest x here born =
      let next = (head_of here).0 in
      let apart : y ≡ x → ⊥ = λ e. born (ap m.life (sym e) ∙ next_unborn p n m t a y here.core here.found next) in
      written_apart m.memory (KindOf y) (KindOf x) w (ne_eqb y x apart)
  word_stays _ rest x here born = refl

  -- ---- cells

  -- A thread that empties a cell leaves those of a living list.
  settled_apart : (y j k : ℕ) (rest : List Duty) (x i : ℕ) → AtDuty p n m t a (SettleCell y j k) rest
      → m.life x ≡ Live
      → (machine_by_duty m t a (SettleCell y j k) rest).memory (Cell x i) ≡ m.memory (Cell x i)
  settled_apart y j k rest x i here lives =
      let dies = (head_of here).1 in
      written_apart m.memory (Cell y j) (Cell x i) 0
      (ap (λ (b : Bool). b && (j == i)) (ne_eqb y x (live_apart m t x y dies lives)))

  -- Two threads that have locked one row are the same thread: the row's gate names it.
  pub one_locker : (u x : ℕ) (b : Actor) → CoreInvariant p n m → slice_get m.actors t ≡ Some a
      → slice_get m.actors u ≡ Some b → b.locked ≡ Some x → a.locked ≡ Some x → u ≡ t
  one_locker u x b core own other theirs mine =
      let same : locked_word u ≡ locked_word t =
      sym ((core.each u b other).0.locks x theirs).gate ∙ ((core.each t a own).0.locks x mine).gate in
      omega (arith, same)

  -- A thread that fills a cell leaves those of a list that another thread has locked.
  swapped_apart : (y j z : ℕ) (h : Holding) (rest : List Duty) (u x i : ℕ) (b : Actor)
      → AtDuty p n m t a (CellSwap y j z h) rest → u ≢ t → slice_get m.actors u ≡ Some b → b.locked ≡ Some x
      → (machine_by_duty m t a (CellSwap y j z h) rest).memory (Cell x i) ≡ m.memory (Cell x i)
  swapped_apart y j z h rest u x i b here ne found e =
      let mine = (head_of here).0 in
      let apart : y ≡ x → ⊥ = λ same. ne (one_locker u x b here.core here.found found e
      (subst (λ (w : ℕ). a.locked ≡ Some w) same mine)) in
      written_apart m.memory (Cell y j) (Cell x i) (z + 1) (ap (λ (b : Bool). b && (j == i)) (ne_eqb y x apart))

  -- A step of another thread leaves the cells of a list that a thread has locked.
  pub items_left : (d : Duty) (rest : List Duty) → AtDuty p n m t a d rest → (u x i : ℕ) (b : Actor) → u ≢ t
      → slice_get m.actors u ≡ Some b → b.locked ≡ Some x
      → (machine_by_duty m t a d rest).memory (Cell x i) ≡ m.memory (Cell x i)
  items_left (SettleCell y j k) rest here u x i b ne found e =
      settled_apart y j k rest x i here (locked_lives u b x here.core found e)
  items_left (CellLoad y j) rest here u x i b ne found e = written_load m.memory (Cell y j) (Cell x i)
  items_left (CellSwap y j z h) rest here u x i b ne found e =
      swapped_apart y j z h rest u x i b here ne found e
  items_left _ rest here u x i b ne found e = refl

  -- So does the thread's own step, unless it drops items.
  pub own_items_left : (d : Duty) (rest : List Duty) → AtDuty p n m t a d rest → drops_items d ≡ false → (x i : ℕ)
      → a.locked ≡ Some x → (machine_by_duty m t a d rest).memory (Cell x i) ≡ m.memory (Cell x i)
  own_items_left (SettleCell y j k) rest here keeps x i e =
      settled_apart y j k rest x i here (locked_lives t a x here.core here.found e)
  own_items_left (CellLoad y j) rest here keeps x i e = written_load m.memory (Cell y j) (Cell x i)
  own_items_left (CellSwap y j z h) rest here keeps x i e = absurd cc
  own_items_left _ rest here keeps x i e = refl

  -- ---- lists

  -- A step of another thread leaves the list that a thread has locked as it is.
  pub lists_left : (d : Duty) (rest : List Duty) → AtDuty p n m t a d rest → (u x : ℕ) (b : Actor) → u ≢ t
      → slice_get m.actors u ≡ Some b → b.locked ≡ Some x → LeavesList m (machine_by_duty m t a d rest) x
  lists_left d rest here u x b ne found e = record {
    kind = word_stays d rest x here (live_born m x (locked_lives u b x here.core found e));
    cells = λ i. items_left d rest here u x i b ne found e;
  }

  -- A thread that has locked a list has it locked after a step that drops no items.
  still_locked : (d : Duty) (rest : List Duty) (x : ℕ) → AtDuty p n m t a d rest → drops_items d ≡ false
      → a.locked ≡ Some x
      → (actor_by m.layout t a d rest (m.memory (address_of m.layout t a.head d))).locked ≡ Some x
  still_locked (LockGate y) rest x here keeps e = absurd (none_some x (sym (head_of here).1 ∙ e))
  still_locked (UnlockGate y) rest x here keeps e = absurd cc
  still_locked _ rest x here keeps e = e

  -- Such a step leaves the list as it is.
  pub own_list_kept : (d : Duty) (rest : List Duty) → AtDuty p n m t a d rest → drops_items d ≡ false
      → KeepsList m (machine_by_duty m t a d rest) a (actor_by m.layout t a d rest
      (m.memory (address_of m.layout t a.head d)))
  own_list_kept d rest here keeps x e = (
    still_locked d rest x here keeps e,
    record {
      kind = word_stays d rest x here (live_born m x (locked_lives t a x here.core here.found e));
      cells = λ i. own_items_left d rest here keeps x i e;
    },
  )

  -- ---- retains put aside

  -- No retain is put aside when the thread drops items beside what is put aside.
  pub drops_alone : (d : Duty) (rest : List Duty) → AtDuty p n m t a d rest → is_piece d ≡ true → drops_items d ≡ true
      → HasNoRetainAside a
  drops_alone (UnlockGate y) rest here piece drops = (head_of here).2
  drops_alone (CellSwap y j z h) rest here piece drops = absurd cc
  drops_alone _ rest here piece drops = absurd cc
