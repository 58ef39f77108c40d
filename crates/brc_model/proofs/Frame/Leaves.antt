-- A thread's step leaves what the other threads rely on.
use Rattle.std.proofs.Common.{◌≡◌, ◌≢◌, ℕ, ◌+◌, ◌-◌, ◌<◌, ◌≤◌, Bool, true, false, cond, List, ◌∷◌, inl, inr, Some, refl, sym, ap, ◌∙◌, subst, arith, [], Option, None}
use Rattle.std.specs.Prelude.{◌==◌, slice_get, sum_by}
use Rattle.std.proofs.lemmas.List.Sums.{sum_by-cons}
use Rattle.std.proofs.lemmas.Bool.{eqb-true, eq-eqb, ne_eqb}
use Rattle.std.proofs.lemmas.Bool.Decides.{eqb_tells}
use Rattle.brc_word.specs.declared.values.TheConstants.{ONE_REFERENCE, RUNNING, MERGED}
use Rattle.brc_model.specs.declared.duty.Holding.{Holding}
use Rattle.brc_model.specs.declared.duty.Holding.TheVariants.{InFlight}
use Rattle.brc_word.specs.Words.{owner_part, biased_part, phase_part, fresh_word, released_word, merged_word, local_word, free_word, locked_word}
use Rattle.brc_model.specs.declared.duty.Reason.{Reason}
use Rattle.brc_model.specs.declared.duty.Reason.TheVariants.{Own, Handed}
use Rattle.brc_model.specs.declared.duty.Duty.{Duty}
use Rattle.brc_model.specs.declared.duty.Duty.TheVariants.{RetainLoad, RetainStore, RetainAdd, ReleaseLoad, ReleaseStore, DecideAtZero, SharedLoad, SharedExchange, Look, MergeSwap, MergeLoad, MergeExchange, Die, Settle, SettleEnd, Leave, Finish, BirthLocal, LockGate, UnlockGate}
use Rattle.brc_model.specs.declared.address.Address.TheVariants.{Local, Shared, Gate, ThreadWord}
use Rattle.brc_model.specs.Duties.{address_of, new_word}
use Rattle.brc_model.specs.declared.actor.Actor.{Actor}
use Rattle.brc_model.specs.Machine.{Dying, Machine, written, Unborn, Life, Live}
use Rattle.brc_model.proofs.Basics.Lists.{either}
use Rattle.brc_model.proofs.Basics.Bag.{held-le-references_to}
use Rattle.brc_model.specs.References.{held, one_if, reference_of}
use Rattle.brc_model.specs.RowInvariant.{waits, decides, merges, InOwned, InSwapped, InMerged, RowInvariant}
use Rattle.brc_model.specs.Accounts.{Accounts, extra_of, lacks_of, Account, HoldsAt, lacks, HoldsNone}
use Rattle.brc_model.specs.Knowledge.{OwnsLocally, HeadFits, HeadOf, status_word, IsBacked, ByReference}
use Rattle.brc_model.specs.OpenWork.{dies_by, exits}
use Rattle.brc_model.specs.AbstractState.{Reference}
use Rattle.brc_model.specs.Gates.{making, LocksFit}
use Rattle.brc_model.specs.Invariant.{AtDuty, CoreInvariant, numbers_of}
use Rattle.brc_model.proofs.Objects.RowSteps.{shared_range, shared_up, shared_down, shared_merged, released_less}
use Rattle.brc_model.proofs.Frame.Aside.{extra_held}
use Rattle.brc_model.proofs.Frame.Alive.{first_weighs, Alive, alive_referenced, alive_waiting, alive_deciding, alive_merging, backed_lives}
use Rattle.brc_model.proofs.Basics.Written.{written_here, written_apart, written_load, apart_local, apart_shared, apart_gate, apart_thread}
use Rattle.brc_model.proofs.Frame.Others.{is_dying}
use Rattle.brc_model.proofs.Basics.Blocks.{next_counted, next_unborn}
use Rattle.brc_model.specs.Layout.{block_of, IsCounted}

module _ {p : Accounts} {n : ℕ} {m : Machine} {t : ℕ} {a : Actor} {d : Duty} {rest : List Duty} where
  pub head_of : AtDuty p n m t a d rest → HeadFits m t a d rest
  head_of here = subst (λ (l : List Duty). HeadOf m t a l) here.agenda (here.core.each t a here.found).0.head_fits

  -- ---- live rows at a duty

  -- The bag has the reference that the first duty gives up.
  pub gives_held : (k : Holding) (x : ℕ) → AtDuty p n m t a d rest → extra_of (d ∷ rest) k x ≡ true
      → lacks_of (d ∷ rest) k x ≡ false → 0 < held (reference_of t k x) m.abstract.references
  gives_held k x here more less =
      let fits = here.core.each t a here.found in
      extra_held m t (p t) a k x fits.0.holds fits.2 (ap (λ (l : List Duty). extra_of l k x) here.agenda ∙ more)
      (ap (λ (l : List Duty). lacks_of l k x) here.agenda ∙ less)

  pub given_alive : (k : Holding) (x : ℕ) → AtDuty p n m t a d rest → IsCounted m.layout x
      → extra_of (d ∷ rest) k x ≡ true → lacks_of (d ∷ rest) k x ≡ false → Alive m x
  given_alive k x here pos more less =
      let some = gives_held k x here more less in
      alive_referenced x here.core pos
      (omega (arith, some, held-le-references_to (reference_of t k x) m.abstract.references))

module _ {p : Accounts} {n : ℕ} {m : Machine} {t : ℕ} {a : Actor} {rest : List Duty} where
  pub exchange_alive : (x w : ℕ) (r : Reason) → AtDuty p n m t a (SharedExchange x r w) rest → Alive m x
  exchange_alive x w Own here = given_alive InFlight x here (head_of here) (eq-eqb x x refl) refl
  exchange_alive x w Handed here =
      let one : one_if (x == x) ≡ 1 = ap one_if (eq-eqb x x refl) in
      alive_waiting x here.core (head_of here).0 (omega (
        arith,
        first_weighs (waits x) m.actors t a (SharedExchange x Handed w) rest here.found here.agenda,
        one,
      ))

  -- The row of a thread's load before an exchange is live, for the same reason as at the exchange.
  pub load_alive : (x : ℕ) (r : Reason) → AtDuty p n m t a (SharedLoad x r) rest → Alive m x
  load_alive x Own here = given_alive InFlight x here (head_of here) (eq-eqb x x refl) refl
  load_alive x Handed here =
      let one : one_if (x == x) ≡ 1 = ap one_if (eq-eqb x x refl) in
      alive_waiting x here.core (head_of here).0 (omega (
        arith,
        first_weighs (waits x) m.actors t a (SharedLoad x Handed) rest here.found here.agenda,
        one,
      ))

  pub decide_alive : (x : ℕ) → AtDuty p n m t a (DecideAtZero x) rest → Alive m x
  decide_alive x here =
      let one : one_if (x == x) ≡ 1 = ap one_if (eq-eqb x x refl) in
      alive_deciding x here.core (head_of here).0
      (omega (arith, first_weighs (decides x) m.actors t a (DecideAtZero x) rest here.found here.agenda, one))

  pub merge_alive : (x c w : ℕ) (r : Reason) → AtDuty p n m t a (MergeExchange x c w r) rest → Alive m x
  merge_alive x c w r here =
      let one : one_if (x == x) ≡ 1 = ap one_if (eq-eqb x x refl) in
      alive_merging x here.core (head_of here).0
      (omega (arith, first_weighs (merges x) m.actors t a (MergeExchange x c w r) rest here.found here.agenda, one))

  -- The row of a merge that loads the shared word is live, for the same reason as at the exchange.
  pub merge_load_alive : (x c : ℕ) (r : Reason) → AtDuty p n m t a (MergeLoad x c r) rest → Alive m x
  merge_load_alive x c r here =
      let one : one_if (x == x) ≡ 1 = ap one_if (eq-eqb x x refl) in
      alive_merging x here.core (head_of here).0
      (omega (arith, first_weighs (merges x) m.actors t a (MergeLoad x c r) rest here.found here.agenda, one))

  pub claim_alive : (x : ℕ) → AtDuty p n m t a (MergeSwap x Handed) rest → Alive m x
  claim_alive x here =
      let one : one_if (x == x) ≡ 1 = ap one_if (eq-eqb x x refl) in
      alive_waiting x here.core (head_of here).0
      (omega (arith, first_weighs (waits x) m.actors t a (MergeSwap x Handed) rest here.found here.agenda, one))

-- ---- local words

owners_clash : (m : Machine) (t u x y : ℕ) (a b : Actor) → u ≢ t → OwnsLocally m t a y → OwnsLocally m u b x → y ≡ x → ⊥
owners_clash m t u x y a b ne mine other same =
    let theirs : owner_part (m.memory (Local y)) ≡ u + 1 =
    ap (λ (z : ℕ). owner_part (m.memory (Local z))) same ∙ other.owner in
    ne (omega (arith, theirs, mine.owner))

module _ {p : Accounts} {n : ℕ} {m : Machine} {t : ℕ} {a : Actor} {rest : List Duty} where
  claim_clash : (u x y : ℕ) (b : Actor) → AtDuty p n m t a (MergeSwap y Handed) rest → u ≢ t
      → slice_get m.actors u ≡ Some b → OwnsLocally m u b x → y ≡ x → ⊥
  claim_clash u x y b here ne found other same =
      let alive = claim_alive y here in
      let theirs : owner_part (m.memory (Local y)) ≡ u + 1 =
      ap (λ (z : ℕ). owner_part (m.memory (Local z))) same ∙ other.owner in
      let block : u ≡ block_of m.layout y = elim alive.live.mode [
        | InOwned o ↦ omega (arith, o.owned, theirs)
        | InSwapped s ↦ absurd (omega (arith, s.local, theirs))
        | InMerged s ↦ absurd (omega (arith, s.local, theirs))
      ] in
      elim (head_of here).1 [
        | inl mine ↦ ne (block ∙ mine)
        | inr stopped ↦
            stopped (ap (λ (z : ℕ). m.memory (ThreadWord z)) (sym block) ∙ (here.core.each u b found).0.word
            ∙ ap status_word other.running)
      ]

module _ {p : Accounts} {n : ℕ} {m : Machine} where
  -- No thread owns a row that isn't born.
  unowned_clash : (u x y : ℕ) (b : Actor) → CoreInvariant p n m → IsCounted m.layout y → m.life y ≡ Unborn
      → OwnsLocally m u b x → y ≡ x → ⊥
  unowned_clash u x y b core above unborn other same =
      let theirs : owner_part (m.memory (Local y)) ≡ u + 1 =
      ap (λ (z : ℕ). owner_part (m.memory (Local z))) same ∙ other.owner in
      let row =
      subst (λ (l : Life). RowInvariant (block_of m.layout y) l (numbers_of m y)) unborn (core.rows y above) in
      omega (arith, theirs, row.local)

local_kept : (m : Machine) (y x v : ℕ) → (y ≡ x → ⊥) → written m.memory (Local y) v (Local x) ≡ m.memory (Local x)
local_kept m y x v ne = written_apart m.memory (Local y) (Local x) v (apart_local y x ne)

module _ {p : Accounts} {n : ℕ} {m : Machine} {t : ℕ} {a : Actor} {rest : List Duty} where
  -- A step doesn't change the local word of a row that another running thread owns.
  pub locals_left : (d : Duty) → AtDuty p n m t a d rest → (u x : ℕ) (b : Actor) → u ≢ t → slice_get m.actors u ≡ Some b
      → OwnsLocally m u b x
      → written m.memory (address_of m.layout t a.head d)
      (new_word m.layout t a.head d (m.memory (address_of m.layout t a.head d))) (Local x) ≡ m.memory (Local x)
  locals_left (RetainLoad y h) here u x b ne found other = written_load m.memory (Local y) (Local x)
  locals_left (ReleaseLoad y h) here u x b ne found other = written_load m.memory (Local y) (Local x)
  locals_left (RetainStore y h w) here u x b ne found other =
      local_kept m y x (w + 1) (owners_clash m t u x y a b ne (head_of here).2 other)
  locals_left (ReleaseStore y w) here u x b ne found other =
      local_kept m y x (w - 1) (owners_clash m t u x y a b ne (head_of here).1 other)
  locals_left (MergeSwap y Own) here u x b ne found other =
      local_kept m y x 0 (owners_clash m t u x y a b ne (head_of here).1 other)
  locals_left (BirthLocal y h) here u x b ne found other =
      local_kept m y x (local_word t 1)
      (unowned_clash u x y b here.core (next_counted m t a y (head_of here).0)
      (next_unborn p n m t a y here.core here.found (head_of here).0) other)
  locals_left (MergeSwap y Handed) here u x b ne found other =
      local_kept m y x 0 (claim_clash u x y b here ne found other)
  locals_left _ here u x b ne found other = refl

-- ---- a merged object stays merged

abbrev phase_after : Machine → ℕ → ℕ → ℕ → ℕ
phase_after m y v x = phase_part (written m.memory (Shared y) v (Shared x))

phase_written : (m : Machine) (y v x : ℕ) → (phase_part (m.memory (Shared y)) ≡ MERGED → phase_part v ≡ MERGED)
    → phase_part (m.memory (Shared x)) ≡ MERGED → phase_after m y v x ≡ MERGED
phase_written m y v x here was =
    elim (eqb_tells y x) [
      | inl same ↦
          let P : ℕ → Type 0 = λ z. phase_part (m.memory (Shared z)) ≡ MERGED → phase_after m y v z ≡ MERGED in
          let itself : P y = λ w. ap phase_part (written_here m.memory (Shared y) v) ∙ here w in
          subst P same.1 itself was
      | inr other ↦ ap phase_part (written_apart m.memory (Shared y) (Shared x) v (apart_shared y x other.1)) ∙ was
    ]

released_merged : (w : ℕ) → 1 ≤ biased_part w → phase_part w ≡ MERGED → phase_part (released_word w) ≡ MERGED
released_merged w some phase =
    let other : (w == fresh_word) ≡ false = ne_eqb w fresh_word (λ e. absurd (omega (arith, phase, e))) in
    ap phase_part (released_less w other) ∙ (shared_down w some).1 ∙ phase

module _ {p : Accounts} {n : ℕ} {m : Machine} {t : ℕ} {a : Actor} {rest : List Duty} where
  -- A step leaves a merged row merged.
  pub merged_left : (d : Duty) → AtDuty p n m t a d rest → (x : ℕ) → phase_part (m.memory (Shared x)) ≡ MERGED
      → phase_part (written m.memory (address_of m.layout t a.head d)
      (new_word m.layout t a.head d (m.memory (address_of m.layout t a.head d))) (Shared x)) ≡ 3
  merged_left (RetainAdd y h) here x was =
      phase_written m y (m.memory (Shared y) + ONE_REFERENCE) x (λ w. (shared_up (m.memory (Shared y))).1 ∙ w) was
  merged_left (DecideAtZero y) here x was = ap phase_part (written_load m.memory (Shared y) (Shared x)) ∙ was
  merged_left (SharedLoad y r) here x was = ap phase_part (written_load m.memory (Shared y) (Shared x)) ∙ was
  merged_left (SharedExchange y r w) here x was =
      let alive = exchange_alive y w r here in
      phase_written m y (cond (m.memory (Shared y) == w) (released_word w) (m.memory (Shared y))) x
      (λ phase. either (λ v. phase_part v ≡ MERGED) (m.memory (Shared y) == w) (released_word w) (m.memory (Shared y))
      (λ won.
      let same : m.memory (Shared y) ≡ w = eqb-true (m.memory (Shared y)) w won in
      released_merged w (subst (λ (v : ℕ). 1 ≤ biased_part v) same (shared_range _ _ alive.live))
      (ap phase_part (sym same) ∙ phase)) phase) was
  merged_left (MergeLoad y c r) here x was = ap phase_part (written_load m.memory (Shared y) (Shared x)) ∙ was
  merged_left (MergeExchange y c w r) here x was =
      phase_written m y (cond (m.memory (Shared y) == w) (merged_word w c) (m.memory (Shared y))) x
      (λ phase. either (λ v. phase_part v ≡ MERGED) (m.memory (Shared y) == w) (merged_word w c) (m.memory (Shared y))
      (λ won. (shared_merged w c).1) phase) was
  merged_left _ here x was = was

-- ---- thread words

thread_written : (m : Machine) (t u v : ℕ) → v ≢ RUNNING → m.memory (ThreadWord u) ≢ RUNNING
    → written m.memory (ThreadWord t) v (ThreadWord u) ≢ 1
thread_written m t u v other was =
    elim (eqb_tells t u) [
      | inl same ↦
          subst (λ (z : ℕ). written m.memory (ThreadWord t) v (ThreadWord z) ≢ 1) same.1
          (λ e. other (sym (written_here m.memory (ThreadWord t) v) ∙ e))
      | inr apart ↦
          λ e. was (sym (written_apart m.memory (ThreadWord t) (ThreadWord u) v (apart_thread t u apart.1)) ∙ e)
    ]

-- A thread that isn't running doesn't run after the step.
pub stopped_left : (m : Machine) (t : ℕ) (a : Actor) (d : Duty) (u : ℕ) → m.memory (ThreadWord u) ≢ RUNNING
    → written m.memory (address_of m.layout t a.head d)
    (new_word m.layout t a.head d (m.memory (address_of m.layout t a.head d)))
    (ThreadWord u) ≢ 1
stopped_left m t a (Look y) u was =
    λ e. was (sym (written_load m.memory (ThreadWord (block_of m.layout y)) (ThreadWord u)) ∙ e)
stopped_left m t a (Leave y k) u was = thread_written m t u 2 (λ e. absurd (omega (arith, e))) was
stopped_left m t a Finish u was = thread_written m t u 3 (λ e. absurd (omega (arith, e))) was
stopped_left m t a _ u was = was

-- A step doesn't change another thread's word.
pub words_left : (m : Machine) (t : ℕ) (a : Actor) (d : Duty) (u : ℕ) → u ≢ t
    → written m.memory (address_of m.layout t a.head d)
    (new_word m.layout t a.head d (m.memory (address_of m.layout t a.head d)))
    (ThreadWord u) ≡ m.memory (ThreadWord u)
words_left m t a (Look y) u ne = written_load m.memory (ThreadWord (block_of m.layout y)) (ThreadWord u)
words_left m t a (Leave y k) u ne =
    written_apart m.memory (ThreadWord t) (ThreadWord u) 2 (apart_thread t u (λ e. ne (sym e)))
words_left m t a Finish u ne =
    written_apart m.memory (ThreadWord t) (ThreadWord u) 3 (apart_thread t u (λ e. ne (sym e)))
words_left m t a _ u ne = refl

-- ---- locks

-- The duties that make a reference are all of the thread's, not only the first.
makes_first : (agenda : List Duty) (k : Holding) (x : ℕ)
    → one_if (lacks_of agenda k x) ≤ sum_by (λ (d : Duty). one_if (lacks d k x)) agenda
makes_first [] k x = omega arith
makes_first (d ∷ rest) k x = omega (arith, sum_by-cons (λ (e : Duty). one_if (lacks e k x)) d rest)

-- The bag has a reference that a thread holds besides those that it is just making.
pub locked_held : (bag : List Reference) (t : ℕ) (account : Account) (a : Actor) (k : Holding) (x : ℕ)
    → HoldsAt bag t account a.agenda a.aside → making a k x < account k x → 0 < held (reference_of t k x) bag
locked_held bag t account a k x holds some =
    omega (arith, holds.each k x, some, makes_first a.agenda k x)

module _ {p : Accounts} {n : ℕ} {m : Machine} where
  -- A thread holds a reference to the list that it has locked.
  pub locked_backed : (t : ℕ) (a : Actor) (x : ℕ) → CoreInvariant p n m → slice_get m.actors t ≡ Some a
      → a.locked ≡ Some x → IsBacked m t a x
  locked_backed t a x core found e =
      let fits = (core.each t a found).0 in
      let it = fits.locks x e in
      ByReference it.by (locked_held m.abstract.references t (p t) a it.by x fits.holds it.held_so)

  -- So the list lives.
  pub locked_lives : (t : ℕ) (a : Actor) (x : ℕ) → CoreInvariant p n m → slice_get m.actors t ≡ Some a
      → a.locked ≡ Some x → m.life x ≡ Live
  locked_lives t a x core found e = backed_lives t a x core (locked_backed t a x core found e)

unlocked_by : (account : Account) (m : Machine) (t : ℕ) (a : Actor) (locked : Option ℕ) → a.locked ≡ locked
    → LocksFit account m t a → HoldsNone account → locked ≡ None
unlocked_by account m t a None is locks none = refl
unlocked_by account m t a (Some x) is locks none =
    let it = locks x is in absurd (omega (arith, it.held_so, none it.by x))

module _ {p : Accounts} {n : ℕ} {m : Machine} where
  -- A thread whose exit is under way or done has locked nothing.
  pub exits_unlocked : (t : ℕ) (a : Actor) → CoreInvariant p n m → slice_get m.actors t ≡ Some a
      → exits a.status a.agenda ≡ true → a.locked ≡ None
  exits_unlocked t a core found e =
      let fits = (core.each t a found).0 in
      unlocked_by (p t) m t a a.locked refl fits.locks (fits.exited e).0

-- A row that dies, by whichever thread, isn't one that lives.
pub live_apart : (m : Machine) (t x y : ℕ) → m.life y ≡ Dying t → m.life x ≡ Live → y ≡ x → ⊥
live_apart m t x y dies lives same = let wrong : Live ≡ Dying t = sym lives ∙ ap m.life (sym same) ∙ dies in cc

-- The gate of a locked list isn't free.
pub locked_unfree : (t word : ℕ) → word ≡ locked_word t → (word == free_word) ≡ false
locked_unfree t word is = ne_eqb word free_word (λ e. absurd (omega (arith, is, e)))

module _ {p : Accounts} {n : ℕ} {m : Machine} {t : ℕ} {a : Actor} {rest : List Duty} where
  -- A step doesn't change the gate of a list that another thread has locked.
  pub locks_left : (d : Duty) → AtDuty p n m t a d rest → (u x : ℕ) (b : Actor) → u ≢ t → slice_get m.actors u ≡ Some b
      → b.locked ≡ Some x → written m.memory (address_of m.layout t a.head d)
      (new_word m.layout t a.head d (m.memory (address_of m.layout t a.head d))) (Gate x) ≡ m.memory (Gate x)
  locks_left (Die y) here u x b ne found e =
      written_apart m.memory (Gate y) (Gate x) _
      (apart_gate y x (live_apart m t x y (head_of here).1 (locked_lives u b x here.core found e)))
  locks_left Settle here u x b ne found e = written_load m.memory (Gate (a.head - 1)) (Gate x)
  locks_left (SettleEnd y) here u x b ne found e =
      written_apart m.memory (Gate y) (Gate x) _
      (apart_gate y x (live_apart m t x y (head_of here).1 (locked_lives u b x here.core found e)))
  locks_left (LockGate y) here u x b ne found e =
      elim (eqb_tells y x) [
        | inl same ↦
            let gate : m.memory (Gate y) ≡ locked_word u =
            ap (λ (z : ℕ). m.memory (Gate z)) same.1 ∙ ((here.core.each u b found).0.locks x e).gate in
            let kept : new_word m.layout t a.head (LockGate y) (m.memory (Gate y)) ≡ m.memory (Gate y) =
            ap (λ (c : Bool). cond c (locked_word t) (m.memory (Gate y))) (locked_unfree u (m.memory (Gate y)) gate) in
            ap (λ (w : ℕ). written m.memory (Gate y) w (Gate x)) kept ∙ written_load m.memory (Gate y) (Gate x)
        | inr other ↦ written_apart m.memory (Gate y) (Gate x) _ (apart_gate y x other.1)
      ]
  locks_left (UnlockGate y) here u x b ne found e =
      let mine = ((here.core.each t a here.found).0.locks y (head_of here).1).gate in
      let theirs = ((here.core.each u b found).0.locks x e).gate in
      written_apart m.memory (Gate y) (Gate x) _
      (apart_gate y x (λ same. ne
      (let gates : m.memory (Gate y) ≡ m.memory (Gate x) = ap (λ (z : ℕ). m.memory (Gate z)) same in
      omega (arith, mine, theirs, gates))))
  locks_left _ here u x b ne found e = refl

-- ---- gates

gate_clash : (m : Machine) (t u x y : ℕ) → u ≢ t → m.life y ≡ Dying t → dies_by (m.life x) u ≡ true → y ≡ x → ⊥
gate_clash m t u x y ne mine other same =
    let both : Dying t ≡ Dying u = sym mine ∙ ap m.life same ∙ is_dying (m.life x) u other in
    ne (let e : t ≡ u = cc in sym e)

pub living_clash : (m : Machine) (u x y : ℕ) → m.life y ≡ Live → dies_by (m.life x) u ≡ true → y ≡ x → ⊥
living_clash m u x y lives dies same = live_apart m u y x (is_dying (m.life x) u dies) lives (sym same)

module _ {p : Accounts} {n : ℕ} {m : Machine} {t : ℕ} {a : Actor} {rest : List Duty} where
  -- A step doesn't change the gate of a row that another thread is finalising.
  pub gates_left : (d : Duty) → AtDuty p n m t a d rest → (u x : ℕ) → u ≢ t → dies_by (m.life x) u ≡ true
      → written m.memory (address_of m.layout t a.head d)
      (new_word m.layout t a.head d (m.memory (address_of m.layout t a.head d))) (Gate x) ≡ m.memory (Gate x)
  gates_left (Die y) here u x ne dies =
      written_apart m.memory (Gate y) (Gate x) _ (apart_gate y x (gate_clash m t u x y ne (head_of here).1 dies))
  gates_left Settle here u x ne dies = written_load m.memory (Gate (a.head - 1)) (Gate x)
  gates_left (SettleEnd y) here u x ne dies =
      written_apart m.memory (Gate y) (Gate x) _ (apart_gate y x (gate_clash m t u x y ne (head_of here).1 dies))
  gates_left (LockGate y) here u x ne dies =
      written_apart m.memory (Gate y) (Gate x) _
      (apart_gate y x (living_clash m u x y (backed_lives t a y here.core (head_of here).0) dies))
  gates_left (UnlockGate y) here u x ne dies =
      written_apart m.memory (Gate y) (Gate x) _
      (apart_gate y x (living_clash m u x y (backed_lives t a y here.core (head_of here).0) dies))
  gates_left _ here u x ne dies = refl
