-- What a thread holds and knows is unchanged by the steps of other threads.
use Rattle.std.proofs.Common.{◌≡◌, ◌≢◌, ℕ, ◌+◌, ◌<◌, ◌≤◌, true, cond, List, [], ◌∷◌, inl, inr, Some, refl, sym, ap, ◌∙◌, subst, arith}
use Rattle.std.specs.Prelude.{◌==◌, slice_get, slice_set, count_by}
use Rattle.std.proofs.lemmas.Bool.{eq-eqb, eqb-true}
use Rattle.std.proofs.lemmas.Bool.Decides.{eqb_tells}
use Rattle.std.proofs.lemmas.List.Sums.{sum_by-cons}
use Rattle.std.proofs.lemmas.Option.{slice_get_within}
use Rattle.brc_word.specs.declared.values.TheConstants.{RUNNING, MERGED, EMPTY}
use Rattle.brc_model.specs.declared.duty.Holding.{Holding}
use Rattle.brc_word.specs.Words.{phase_part}
use Rattle.brc_model.specs.declared.duty.Duty.{Duty}
use Rattle.brc_model.specs.declared.duty.Duty.TheVariants.{Die, Settle, SettleKind, SettleCell, TakeField, CloseResource, SettleEnd, Leave, Scan, MarksLoad, TakeFound, Finish, ClaimMark, BirthKind, BirthField, BirthLocal, KindLoad, LockGate, UnlockGate, CellLoad, CellSwap, LendField, ReturnField}
use Rattle.brc_model.specs.declared.address.Address.{Address}
use Rattle.brc_model.specs.declared.address.Address.TheVariants.{Local, Shared, Gate, KindOf, Cell, Field, ThreadWord}
use Rattle.brc_model.specs.declared.actor.Actor.{Actor}
use Rattle.brc_model.specs.Machine.{Life, Unborn, Dying, Machine}
use Rattle.brc_model.specs.AbstractState.{AbstractState}
use Rattle.brc_model.specs.Duties.{cells_of, has_resource, resources_of}
use Rattle.brc_model.specs.References.{held, one_if, reference_of}
use Rattle.brc_model.specs.OpenWork.{is_about, about_of, AllWait, AsideFits, AgendaFits, Linked, dies_by, ChainFits}
use Rattle.brc_model.specs.Gates.{LocksFit}
use Rattle.brc_model.specs.Invariant.{Fits, ActorFits}
use Rattle.brc_model.specs.Accounts.{Accounts, Account, IsBounded}
use Rattle.brc_model.proofs.Frame.Known.{HoldsAsMany, LeavesRow, LeavesList, KeepsList, still_backed, known_kept}
use Rattle.brc_model.specs.Knowledge.{OwnsLocally, IsBacked, IsNext, HasCountedKind, MayRead, HasChained, GuardsCells, BehindFits, HeadFits, HeadOf, AllBehind, BehindOf, IsDyingWord}
use Rattle.brc_model.proofs.Basics.Lists.{some_is, slice_get-set_same, slice_get-set_other}
use Rattle.brc_model.proofs.Basics.Bag.{one_if_true}
use Rattle.brc_model.specs.declared.layout.Layout.{Layout}
use Rattle.brc_model.specs.Layout.{mark_words_of, block_of, block_size, row_at, IsCounted}

-- What a step of thread `t` leaves unchanged of memory and of lives, for all other threads.
pub record LeavesMemory (m new : Machine) (t : ℕ) : Type 0 where
  pub layout : new.layout ≡ m.layout
  pub locals : (u x : ℕ) (b : Actor) → u ≢ t → slice_get m.actors u ≡ Some b → OwnsLocally m u b x
      → new.memory (Local x) ≡ m.memory (Local x)
  pub merged : (x : ℕ) → phase_part (m.memory (Shared x)) ≡ MERGED → phase_part (new.memory (Shared x)) ≡ MERGED
  pub stopped : (u : ℕ) → m.memory (ThreadWord u) ≢ RUNNING → new.memory (ThreadWord u) ≢ RUNNING
  pub words : (u : ℕ) → u ≢ t → new.memory (ThreadWord u) ≡ m.memory (ThreadWord u)
  pub gates : (u x : ℕ) → u ≢ t → dies_by (m.life x) u ≡ true → new.memory (Gate x) ≡ m.memory (Gate x)
  pub locks : (u x : ℕ) (b : Actor) → u ≢ t → slice_get m.actors u ≡ Some b → b.locked ≡ Some x
      → new.memory (Gate x) ≡ m.memory (Gate x)
  -- The list that another thread has locked is as it was.
  pub lists : (u x : ℕ) (b : Actor) → u ≢ t → slice_get m.actors u ≡ Some b → b.locked ≡ Some x → LeavesList m new x
  -- An empty cell of a row that another thread finalises stays empty.
  pub cells : (u x i : ℕ) → u ≢ t → dies_by (m.life x) u ≡ true → m.memory (Cell x i) ≡ EMPTY
      → new.memory (Cell x i) ≡ EMPTY
  -- A kind word that names a counted kind still names one.
  pub kinds : (x : ℕ) → HasCountedKind m.memory x → HasCountedKind new.memory x
  pub lives : (u x : ℕ) → u ≢ t → dies_by (new.life x) u ≡ dies_by (m.life x) u
  pub born : (x : ℕ) → m.life x ≢ Unborn → new.life x ≢ Unborn
  -- A kind word that is stored stays.
  pub stored : (x : ℕ) → m.memory (KindOf x) ≢ 0 → new.memory (KindOf x) ≡ m.memory (KindOf x)
  -- So does that of a born row.
  pub words_born : (x : ℕ) → m.life x ≢ Unborn → new.memory (KindOf x) ≡ m.memory (KindOf x)
  -- What another thread's birth has stored stays.
  pub births : (u x : ℕ) (b : Actor) → u ≢ t → slice_get m.actors u ≡ Some b → IsNext m u b x
      → (new.memory (KindOf x) ≡ m.memory (KindOf x)) × (new.memory (Field x) ≡ m.memory (Field x))

-- What a step of thread `t` leaves unchanged for all other threads.
pub record LeavesOthers (m new : Machine) (t : ℕ) : Type 0 where
  pub memory : LeavesMemory m new t
  pub bag : (u : ℕ) (k : Holding) (object : ℕ) → u ≢ t
      → held (reference_of u k object) new.abstract.references ≡ held (reference_of u k object) m.abstract.references

-- A machine with the same memory, and other threads or references, leaves all of memory.
pub same_memory : (m : Machine) (actors : List Actor) (abstract : AbstractState) (t : ℕ)
    → LeavesMemory m (record m { actors = actors; abstract = abstract }) t
same_memory m actors abstract t = record {
  layout = refl;
  locals = λ u x b ne found owns. refl;
  merged = λ x was. was;
  stopped = λ u was. was;
  words = λ u ne. refl;
  gates = λ u x ne dies. refl;
  locks = λ u x b ne found e. refl;
  lists = λ u x b ne found e. record { kind = refl; cells = λ i. refl };
  cells = λ u x i ne dies was. was;
  kinds = λ x was. was;
  lives = λ u x ne. refl;
  born = λ x was. was;
  stored = λ x some. refl;
  words_born = λ x born. refl;
  births = λ u x b ne found next. (refl, refl);
}

pub dying_is : (l : Life) (u : ℕ) → l ≡ Dying u → dies_by l u ≡ true
dying_is l u is = ap (λ (k : Life). dies_by k u) is ∙ eq-eqb u u refl

pub is_dying : (l : Life) (u : ℕ) → dies_by l u ≡ true → l ≡ Dying u
is_dying (Dying v) u e = ap Dying (eqb-true v u e)
is_dying _ u e = cc

-- A chain stays linked if the gates of its rows don't change.
pub linked_kept : (memory new : Address → ℕ) (t head : ℕ) (chained : List ℕ)
    → ((x : ℕ) → 0 < count_by (λ y. y == x) chained → new (Gate x) ≡ memory (Gate x)) → Linked memory t head chained
    → Linked new t head chained
linked_kept memory new t head [] same linked = linked
linked_kept memory new t head (x ∷ xs) same linked =
    let here : one_if (x == x) ≡ 1 = ap one_if (eq-eqb x x refl) in
    let first : 0 < count_by (λ y. y == x) (x ∷ xs) =
    omega (arith, sum_by-cons (λ y. cond (y == x) 1 0) x xs, here) in (
      linked.0,
      (
        linked.1.0,
        same x first ∙ linked.1.1,
        linked.1.2,
        linked_kept memory new t linked.1.0 xs
            (λ z some. same z (omega (arith, sum_by-cons (λ y. cond (y == z) 1 0) x xs, some))) linked.1.3,
      ),
    )

-- ---- what another thread knows

module _ (m new : Machine) (t u : ℕ) (leaves : LeavesMemory m new t) (ne : u ≢ t) where
  pub life_kept : (x : ℕ) → m.life x ≡ Dying u → new.life x ≡ Dying u
  life_kept x is = is_dying (new.life x) u (leaves.lives u x ne ∙ dying_is (m.life x) u is)

  gate_kept : (x : ℕ) → m.life x ≡ Dying u → new.memory (Gate x) ≡ m.memory (Gate x)
  gate_kept x is = leaves.gates u x ne (dying_is (m.life x) u is)

  dying_word_kept : (x : ℕ) → m.life x ≡ Dying u → IsDyingWord u (m.memory (Gate x))
      → IsDyingWord u (new.memory (Gate x))
  dying_word_kept x is word = subst (IsDyingWord u) (sym (gate_kept x is)) word

  empty_kept : (x : ℕ) → m.life x ≡ Dying u → (i : ℕ) → m.memory (Cell x i) ≡ EMPTY → new.memory (Cell x i) ≡ EMPTY
  empty_kept x is i empty = leaves.cells u x i ne (dying_is (m.life x) u is) empty

  counted_kept : (x : ℕ) → IsCounted m.layout x → IsCounted new.layout x
  counted_kept x counted = subst (λ (l : Layout). IsCounted l x) (sym leaves.layout) counted

  -- A list has as many cells as before.
  cells_kept : (x i : ℕ) → i < cells_of (m.memory (KindOf x)) → i < cells_of (new.memory (KindOf x))
  cells_kept x i some =
      let stored : m.memory (KindOf x) ≢ 0 = λ none. absurd (omega (arith, some, ap cells_of none)) in
      subst (λ (w : ℕ). i < cells_of w) (sym (leaves.stored x stored)) some

  -- A dying row has as many resources as before.
  resources_kept : (x : ℕ) → m.life x ≡ Dying u
      → resources_of (new.memory (KindOf x)) ≡ resources_of (m.memory (KindOf x))
  resources_kept x dies =
      ap resources_of (leaves.words_born x (λ unborn. let wrong : Dying u ≡ Unborn = sym dies ∙ unborn in cc))

  -- What the thread has chained it still has chained.
  chained_kept : (x : ℕ) → HasChained m u x → HasChained new u x
  chained_kept x chained = (life_kept x chained.0, dying_word_kept x chained.0 chained.1)

  -- A duty after the first knows what it knew.
  behind_fits_kept : (d : Duty) → BehindFits m u d → BehindFits new u d
  behind_fits_kept (SettleCell x i n) fits = (
    counted_kept x fits.0,
    life_kept x fits.1,
    fits.2,
    dying_word_kept x fits.1 fits.3,
    λ j out. empty_kept x fits.1 j (fits.4 j out),
    resources_kept x fits.1 ∙ fits.5,
  )
  behind_fits_kept (SettleEnd x) fits = (
    counted_kept x fits.0,
    life_kept x fits.1,
    dying_word_kept x fits.1 fits.2,
    λ j. empty_kept x fits.1 j (fits.3 j),
    resources_kept x fits.1 ∙ fits.4,
  )
  behind_fits_kept _ fits = tt

  all_behind_kept : (ds : List Duty) → AllBehind m u ds → AllBehind new u ds
  all_behind_kept [] all = tt
  all_behind_kept (d ∷ rest) all = (behind_fits_kept d all.0, all_behind_kept rest all.1)

  pub behind_of_kept : (agenda : List Duty) → BehindOf m u agenda → BehindOf new u agenda
  behind_of_kept [] behind = tt
  behind_of_kept (d ∷ rest) behind = all_behind_kept rest behind

  pub chain_kept : (head : ℕ) (agenda : List Duty) → ChainFits m u head agenda → ChainFits new u head agenda
  chain_kept head agenda fits = record {
    chained = fits.chained;
    linked =
        linked_kept m.memory new.memory u head fits.chained
        (λ x some. leaves.gates u x ne (one_if_true _ (omega (arith, fits.once x, some)))) fits.linked;
    once = λ x. fits.once x ∙ ap one_if (sym (leaves.lives u x ne));
  }

  module _ (b : Actor) (found : slice_get m.actors u ≡ Some b) where
    next_kept : (x : ℕ) → IsNext m u b x → IsNext new u b x
    next_kept x next = record {
      running = next.running;
      worker = next.worker;
      there = subst (λ (l : Layout). u ≤ l.workers) (sym leaves.layout) next.there;
      row = subst (λ (l : Layout). x ≡ row_at l u b.used) (sym leaves.layout) next.row;
      room = subst (λ (l : Layout). b.used < block_size l u) (sym leaves.layout) next.room;
    }

    row_left : (x : ℕ) → HoldsAsMany m new u x → LeavesRow m new u b b x
    row_left x many = record {
      layout = leaves.layout;
      status = refl;
      local = leaves.locals u x b ne found;
      merged = leaves.merged x;
      references = many;
      stopped = leaves.stopped;
      born = leaves.born x;
    }

    list_left : KeepsList m new b b
    list_left x locked = (locked, leaves.lists u x b ne found locked)

    backs_kept : (x : ℕ) → HoldsAsMany m new u x → IsBacked m u b x → IsBacked new u b x
    backs_kept x many backed = still_backed m new u b b x many list_left backed

    -- The thread may still look at an object, and still guards the cells that it guarded.
    look_kept : (x : ℕ) → HoldsAsMany m new u x → MayRead m u b x → MayRead new u b x
    look_kept x many (inl backed) = inl (backs_kept x many backed)
    look_kept x many (inr chained) = inr (chained_kept x chained)

    guard_kept : (x : ℕ) → GuardsCells m u b x → GuardsCells new u b x
    guard_kept x (inl locked) = inl locked
    guard_kept x (inr chained) = inr (chained_kept x chained)

    -- A duty knows what it knew, if the thread still holds its references to the object that the duty is about.
    head_kept : (d : Duty) (rest : List Duty) → ((x : ℕ) → is_about x d ≡ true → HoldsAsMany m new u x)
        → HeadFits m u b d rest → HeadFits new u b d rest
    head_kept (Die x) rest many fits =
        (counted_kept x fits.0, life_kept x fits.1, gate_kept x fits.1 ∙ fits.2)
    head_kept Settle rest many fits = fits
    head_kept (SettleKind x) rest many fits =
        (counted_kept x fits.0, life_kept x fits.1, dying_word_kept x fits.1 fits.2)
    head_kept (SettleCell x i n) rest many fits = behind_fits_kept (SettleCell x i n) fits
    head_kept (TakeField x) rest many fits = (
      counted_kept x fits.0,
      life_kept x fits.1,
      dying_word_kept x fits.1 fits.2,
      λ j. empty_kept x fits.1 j (fits.3 j),
      resources_kept x fits.1 ∙ fits.4,
    )
    head_kept (CloseResource x) rest many fits = (
      counted_kept x fits.0,
      life_kept x fits.1,
      dying_word_kept x fits.1 fits.2,
      λ j. empty_kept x fits.1 j (fits.3 j),
    )
    head_kept (SettleEnd x) rest many fits = (
      counted_kept x fits.0,
      life_kept x fits.1,
      dying_word_kept x fits.1 fits.2,
      λ j. empty_kept x fits.1 j (fits.3 j),
    )
    head_kept (Leave i n) rest many fits = fits
    head_kept (Scan w n) rest many fits = fits
    head_kept (TakeFound w marks) rest many fits = fits
    head_kept (MarksLoad w) rest many fits = subst (λ (l : Layout). w < mark_words_of l u) (sym leaves.layout) fits
    head_kept Finish rest many fits = fits
    head_kept (ClaimMark x) rest many fits = ap (λ (r : Layout). block_of r x) leaves.layout ∙ fits
    head_kept (BirthKind x h w) rest many fits = (next_kept x fits.0, fits.1, fits.2)
    head_kept (BirthField x h) rest many fits = (
      next_kept x fits.0,
      fits.1,
      leaves.kinds x fits.2,
      ap resources_of (leaves.births u x b ne found fits.0).0 ∙ fits.3,
    )
    head_kept (BirthLocal x h) rest many fits =
        let same = leaves.births u x b ne found fits.0 in
        (next_kept x fits.0, fits.1, leaves.kinds x fits.2, same.1 ∙ fits.3 ∙ ap resources_of (sym same.0))
    head_kept (KindLoad x) rest many fits = look_kept x (many x (eq-eqb x x refl)) fits
    head_kept (LockGate x) rest many fits =
        (backs_kept x (many x (eq-eqb x x refl)) fits.0, fits.1)
    head_kept (UnlockGate x) rest many fits =
        (backs_kept x (many x (eq-eqb x x refl)) fits.0, fits.1, fits.2, fits.3)
    head_kept (CellLoad x i) rest many fits =
        (look_kept x (many x (eq-eqb x x refl)) fits.0, guard_kept x fits.1, cells_kept x i fits.2)
    head_kept (CellSwap x i y h) rest many fits = (fits.0, cells_kept x i fits.1)
    head_kept (LendField x) rest many fits = (
      counted_kept x fits.0,
      fits.1,
      fits.2,
      ap has_resource (leaves.lists u x b ne found fits.1).kind ∙ fits.3,
    )
    head_kept (ReturnField x) rest many fits = fits
    head_kept d rest many fits =
        known_kept m new u b b d rest refl (λ x about. row_left x (many x about)) (λ retains. list_left) fits

    pub head_of_kept : (agenda : List Duty) → ((x : ℕ) → about_of x agenda ≡ true → HoldsAsMany m new u x)
        → HeadOf m u b agenda → HeadOf new u b agenda
    head_of_kept [] many fits = tt
    head_of_kept (d ∷ rest) many fits = head_kept d rest many fits

    -- So do the duties that are put aside.
    pub waits_kept : (aside : List Duty)
        → ((x : ℕ) → 0 < count_by (is_about x) aside → HoldsAsMany m new u x) → AllWait m u b aside
        → AllWait new u b aside
    waits_kept [] many waits = tt
    waits_kept (d ∷ rest) many waits =
        let all : (x : ℕ) → count_by (is_about x) (d ∷ rest) ≡ one_if (is_about x d) + count_by (is_about x) rest =
        λ x. sum_by-cons (λ (e : Duty). one_if (is_about x e)) d rest in (
          waits.0,
          head_kept d []
              (λ x about. let one : one_if (is_about x d) ≡ 1 = ap one_if about in many x (omega (arith, all x, one)))
              waits.1,
          waits_kept rest (λ x some. many x (omega (arith, all x, some))) waits.2,
        )

    -- A thread that has locked a list still holds it, and the gate still names the thread.
    locks_kept : (account : Account) → LocksFit account m u b → LocksFit account new u b
    locks_kept account locks x e =
        let it = locks x e in
        record {
          by = it.by;
          held_so = it.held_so;
          gate = leaves.locks u x b ne found e ∙ it.gate;
        }

-- ---- a thread that another one's step leaves alone

module _ (m new : Machine) (t u : ℕ) (b : Actor) (leaves : LeavesOthers m new t) (ne : u ≢ t)
    (found : slice_get m.actors u ≡ Some b) where
  many_kept : (x : ℕ) → HoldsAsMany m new u x
  many_kept x k = omega (arith, leaves.bag u k x ne)

  others_fit : (account : Account) → ActorFits account m u b → ActorFits account new u b
  others_fit account fits = record {
    word = leaves.memory.words u ne ∙ fits.word;
    holds = record { each = λ k object. omega (arith, leaves.bag u k object ne, fits.holds.each k object) };
    bounded = subst (λ (l : Layout). IsBounded l account) (sym leaves.memory.layout) fits.bounded;
    exited = fits.exited;
    head_fits =
        head_of_kept m new t u leaves.memory ne b found b.agenda (λ x about. many_kept x) fits.head_fits;
    behind = behind_of_kept m new t u leaves.memory ne b.agenda fits.behind;
    chain = chain_kept m new t u leaves.memory ne b.head b.agenda fits.chain;
    locks = locks_kept m new t u leaves.memory ne b found account fits.locks;
    lent = fits.lent;
  }

  aside_kept : AsideFits m u b → AsideFits new u b
  aside_kept fits = record {
    waits = waits_kept m new t u leaves.memory ne b found b.aside (λ x some. many_kept x) fits.waits;
    apart = fits.apart;
    pieces = fits.pieces;
  }

-- ---- all threads

-- If the thread that steps fits afterwards and leaves what the others rely on, every thread fits afterwards.
pub each_fits : (p q : Accounts) (m new : Machine) (t : ℕ) (a after : Actor) → slice_get m.actors t ≡ Some a
    → LeavesOthers m new t → ((u : ℕ) → u ≢ t → p u ≡ q u) → Fits (q t) new t after
    → ((u : ℕ) (b : Actor) → slice_get m.actors u ≡ Some b → Fits (p u) m u b)
    → (u : ℕ) (b : Actor) → slice_get (slice_set m.actors t after) u ≡ Some b → Fits (q u) new u b
each_fits p q m new t a after at leaves same own each u b is =
    elim (eqb_tells u t) [
      | inl this ↦
          let written_is : Some after ≡ Some b =
          sym (ap (slice_get (slice_set m.actors t after)) this.1
          ∙ slice_get-set_same m.actors t after (slice_get_within m.actors t a at)) ∙ is in
          subst (λ (c : Actor). Fits (q u) new u c) (some_is after b written_is)
          (subst (λ (w : ℕ). Fits (q w) new w after) (sym this.1) own)
      | inr apart ↦
          let found : slice_get m.actors u ≡ Some b = sym (slice_get-set_other m.actors t u after apart.1) ∙ is in
          let old = each u b found in
          let fits = others_fit m new t u b leaves apart.1 found (p u) old.0 in (
            subst (λ (account : Account). ActorFits account new u b) (same u apart.1) fits,
            subst (λ (layout : Layout). AgendaFits b b.status) (sym leaves.memory.layout) old.1,
            aside_kept m new t u b leaves apart.1 found old.2,
          )
    ]
