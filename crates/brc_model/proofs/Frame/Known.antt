-- A duty that may wait keeps what it knows, if a step leaves what the duty relies on at its row.
use Rattle.std.proofs.Common.{◌≡◌, ◌≢◌, ℕ, ◌<◌, ◌≤◌, true, inl, inr, Some, refl, sym, ap, ◌∙◌, subst, arith}
use Rattle.std.specs.Prelude.{◌==◌, List}
use Rattle.std.proofs.lemmas.Bool.{eq-eqb}
use Rattle.brc_word.specs.declared.values.TheConstants.{RUNNING, MERGED}
use Rattle.brc_word.specs.Words.{immortal_local, owner_part, local_part, phase_part}
use Rattle.brc_model.specs.declared.duty.Holding.{Holding}
use Rattle.brc_model.specs.declared.duty.Reason.{Reason}
use Rattle.brc_model.specs.declared.duty.Reason.TheVariants.{Own, Handed}
use Rattle.brc_model.specs.declared.duty.Duty.{Duty}
use Rattle.brc_model.specs.declared.duty.Duty.TheVariants.{RetainLoad, RetainStore, RetainAdd, ReleaseLoad, ReleaseStore, DecideAtZero, SharedLoad, SharedExchange, SetMark, Look, TakeMark, MergeSwap, MergeLoad, MergeExchange}
use Rattle.brc_model.specs.declared.address.Address.TheVariants.{Local, Shared, KindOf, Cell, ThreadWord}
use Rattle.brc_model.specs.declared.actor.Actor.{Actor}
use Rattle.brc_model.specs.Machine.{Unborn, Machine}
use Rattle.brc_model.specs.References.{held, reference_of}
use Rattle.brc_model.specs.OpenWork.{is_about, may_wait}
use Rattle.brc_model.specs.Knowledge.{OwnsLocally, IsBacked, ByReference, ByItem, MayMerge, MayCarry, is_retain, HeadFits}
use Rattle.brc_model.specs.declared.layout.Layout.{Layout}
use Rattle.brc_model.specs.Layout.{block_of, IsCounted}

-- The thread holds as many references to the row's object as before, or more.
abbrev pub HoldsAsMany : Machine → Machine → ℕ → ℕ → Type 0
HoldsAsMany m new t x =
    (k : Holding) → held (reference_of t k x) m.abstract.references ≤ held (reference_of t k x) new.abstract.references

-- What a step leaves unchanged for a thread's duty about the row.
pub record LeavesRow (m new : Machine) (t : ℕ) (a after : Actor) (x : ℕ) : Type 0 where
  pub layout : new.layout ≡ m.layout
  pub status : after.status ≡ a.status
  pub local : OwnsLocally m t a x → new.memory (Local x) ≡ m.memory (Local x)
  pub merged : phase_part (m.memory (Shared x)) ≡ MERGED → phase_part (new.memory (Shared x)) ≡ MERGED
  pub references : HoldsAsMany m new t x
  pub stopped : (u : ℕ) → m.memory (ThreadWord u) ≢ RUNNING → new.memory (ThreadWord u) ≢ RUNNING
  pub born : m.life x ≢ Unborn → new.life x ≢ Unborn

-- What a step leaves unchanged of a list that a thread has locked.
pub record LeavesList (m new : Machine) (x : ℕ) : Type 0 where
  pub kind : new.memory (KindOf x) ≡ m.memory (KindOf x)
  pub cells : (i : ℕ) → new.memory (Cell x i) ≡ m.memory (Cell x i)

-- A thread that has locked a list still has it locked, and the list is as it was.
abbrev pub KeepsList : Machine → Machine → Actor → Actor → Type 0
KeepsList m new a after = (x : ℕ) → a.locked ≡ Some x → (after.locked ≡ Some x) × LeavesList m new x

itself : (x : ℕ) → (x == x) ≡ true
itself x = eq-eqb x x refl

module _ (m new : Machine) (t : ℕ) (a after : Actor) where
  abbrev LeavesIt : ℕ → Type 0
  LeavesIt x = LeavesRow m new t a after x

  -- What keeps an object alive is left by a step that takes none of the thread's references to it and leaves the list
  -- that the thread has locked.
  pub still_backed : (x : ℕ) → HoldsAsMany m new t x → KeepsList m new a after → IsBacked m t a x
      → IsBacked new t after x
  still_backed x references keeps (ByReference by some) = ByReference by (omega (arith, references by, some))
  still_backed x references keeps (ByItem list i locked word) =
      let it = keeps list locked in ByItem list i it.0 (it.1.cells i ∙ word)

  pub backed_kept : (x : ℕ) → LeavesIt x → KeepsList m new a after → IsBacked m t a x → IsBacked new t after x
  backed_kept x leaves keeps backed = still_backed x leaves.references keeps backed

  owns_kept : (x : ℕ) → LeavesIt x → OwnsLocally m t a x → OwnsLocally new t after x
  owns_kept x leaves owns =
      let same = leaves.local owns in
      record {
        running = leaves.status ∙ owns.running;
        owner = ap owner_part same ∙ owns.owner;
        low = subst (λ (w : ℕ). local_part w < immortal_local) (sym same) owns.low;
      }

  block_kept : (x : ℕ) → LeavesIt x → block_of m.layout x ≡ t → block_of new.layout x ≡ t
  block_kept x leaves mine = ap (λ (r : Layout). block_of r x) leaves.layout ∙ mine

  stopped_kept : (x : ℕ) → LeavesIt x → m.memory (ThreadWord (block_of m.layout x)) ≢ RUNNING
      → new.memory (ThreadWord (block_of new.layout x)) ≢ RUNNING
  stopped_kept x leaves stopped =
      subst (λ (r : Layout). new.memory (ThreadWord (block_of r x)) ≢ RUNNING) (sym leaves.layout)
      (leaves.stopped (block_of m.layout x) stopped)

  may_merge_kept : (x : ℕ) → LeavesIt x → MayMerge m t x → MayMerge new t x
  may_merge_kept x leaves (inl mine) = inl (block_kept x leaves mine)
  may_merge_kept x leaves (inr stopped) = inr (stopped_kept x leaves stopped)

  may_carry_kept : (x : ℕ) (r : Reason) → LeavesIt x → MayCarry m t a x r → MayCarry new t after x r
  may_carry_kept x Own leaves own = (leaves.status ∙ own.0, block_kept x leaves own.1)
  may_carry_kept x Handed leaves handed = tt

  counted_kept : (x : ℕ) → LeavesIt x → IsCounted m.layout x → IsCounted new.layout x
  counted_kept x leaves counted = subst (λ (l : Layout). IsCounted l x) (sym leaves.layout) counted

  -- A duty keeps what it knows if the step leaves what it relies on at its row. A retain also relies on the list that
  -- the thread has locked.
  pub known_kept : (e : Duty) (rest : List Duty) → may_wait e ≡ true → ((x : ℕ) → is_about x e ≡ true → LeavesIt x)
      → (is_retain e ≡ true → KeepsList m new a after) → HeadFits m t a e rest → HeadFits new t after e rest
  known_kept (RetainLoad x h) rest waits leaves list fits = backed_kept x (leaves x (itself x)) (list refl) fits
  known_kept (RetainStore x h w) rest waits leaves list fits =
      let here = leaves x (itself x) in (
        counted_kept x here fits.0,
        backed_kept x here (list refl) fits.1,
        owns_kept x here fits.2,
        here.local fits.2 ∙ fits.3,
        fits.4,
        fits.5,
      )
  known_kept (RetainAdd x h) rest waits leaves list fits =
      (counted_kept x (leaves x (itself x)) fits.0, backed_kept x (leaves x (itself x)) (list refl) fits.1)
  known_kept (ReleaseLoad x h) rest waits leaves list fits = fits
  known_kept (ReleaseStore x w) rest waits leaves list fits =
      let here = leaves x (itself x) in
      (counted_kept x here fits.0, owns_kept x here fits.1, here.local fits.1 ∙ fits.2, fits.3)
  known_kept (DecideAtZero x) rest waits leaves list fits =
      let here = leaves x (itself x) in
      (counted_kept x here fits.0, owns_kept x here fits.1, ap local_part (here.local fits.1) ∙ fits.2)
  known_kept (SharedLoad x Own) rest waits leaves list fits = counted_kept x (leaves x (itself x)) fits
  known_kept (SharedLoad x Handed) rest waits leaves list fits =
      (counted_kept x (leaves x (itself x)) fits.0, (leaves x (itself x)).merged fits.1)
  known_kept (SharedExchange x Own w) rest waits leaves list fits = counted_kept x (leaves x (itself x)) fits
  known_kept (SharedExchange x Handed w) rest waits leaves list fits =
      (counted_kept x (leaves x (itself x)) fits.0, (leaves x (itself x)).merged fits.1)
  known_kept (SetMark x) rest waits leaves list fits = counted_kept x (leaves x (itself x)) fits
  known_kept (Look x) rest waits leaves list fits =
      (counted_kept x (leaves x (itself x)) fits.0, (leaves x (itself x)).born fits.1)
  known_kept (TakeMark x) rest waits leaves list fits =
      let here = leaves x (itself x) in
      (counted_kept x here fits.0, stopped_kept x here fits.1, here.born fits.2)
  known_kept (MergeSwap x Own) rest waits leaves list fits =
      let here = leaves x (itself x) in
      (counted_kept x here fits.0, owns_kept x here fits.1, ap local_part (here.local fits.1) ∙ fits.2)
  known_kept (MergeSwap x Handed) rest waits leaves list fits =
      (counted_kept x (leaves x (itself x)) fits.0, may_merge_kept x (leaves x (itself x)) fits.1)
  known_kept (MergeLoad x c r) rest waits leaves list fits =
      (counted_kept x (leaves x (itself x)) fits.0, fits.1, may_carry_kept x r (leaves x (itself x)) fits.2)
  known_kept (MergeExchange x c w r) rest waits leaves list fits =
      (counted_kept x (leaves x (itself x)) fits.0, fits.1, may_carry_kept x r (leaves x (itself x)) fits.2)
  known_kept _ rest waits leaves list fits = absurd cc
