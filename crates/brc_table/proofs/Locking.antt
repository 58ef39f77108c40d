-- A hand locks an object, unlocks it, or loads a cell of it.
use Rattle.std.proofs.Common.{◌≡◌, ℕ, ◌+◌, ◌<◌, [], ◌∷◌, None, Some, refl, sym, ◌∙◌, subst, arith, inl, inr}
use Rattle.std.proofs.lemmas.Bool.{cases_lt}
use Rattle.brc_model.specs.declared.duty.Duty.TheVariants.{LockGate, UnlockGate, CellLoad}
use Rattle.brc_model.specs.Duties.{cells_of}
use Rattle.brc_model.specs.CountingLaws.{WorkIsPutAside, LocksBegin, UnlocksBegin, CellLoadsBegin, ImmortalsAreFree}
use Rattle.brc_table.specs.Plan.{Plan}
use Rattle.brc_table.specs.declared.view.View.{View}
use Rattle.brc_table.specs.Views.{RowsAreThere, open_work, locking, unlocking, loading_cell, rested}
use Rattle.brc_table.specs.KnownWords.{KnowsCell}
use Rattle.brc_table.specs.Hands.{HoldsOne, MayLoad, HasNoWork, HasNoRetain, IsRunning}
use Rattle.brc_table.specs.Begins.{Becomes}
use Rattle.brc_table.proofs.AtHand.{is_ready, alone, has_one, with_one}
use Rattle.brc_table.proofs.Becoming.{then_begins, rearranged, rearranged_with}

-- A hand begins to lock an object that it holds.
pub locking_becomes : WorkIsPutAside → LocksBegin → ImmortalsAreFree → (plan : Plan) (v : View) (x n : ℕ)
    → IsRunning v → HasNoWork v x → HoldsOne v x → v.actor.locked ≡ None
    → Becomes plan v (locking v x n)
locking_becomes put law free plan v x n running none holding unlocked =
    then_begins put plan v (locking v x n) running.1 refl
    (λ y locks. let wrong : None ≡ Some y = sym unlocked ∙ locks in absurd cc)
    (λ words views id stands here.
    let one =
    has_one free plan words views id v x
    (record { stands = stands; here = here; running = running.0; free = none }) holding in
    let s = one.stands in
    with_one one
    (rearranged_with plan words views id (rested v) s here (LockGate x ∷ []) (open_work v) n
    (law s.accounts (1 + s.machine.layout.workers) s.machine v.thread (rested v).actor x s.counts
    (is_ready plan words views id v s here running.0) (alone v x none) one.more unlocked)))

-- A hand begins to unlock the object that it has locked.
pub unlocking_becomes : WorkIsPutAside → UnlocksBegin → ImmortalsAreFree → (plan : Plan) (v : View) (x : ℕ)
    → IsRunning v → HasNoWork v x → HoldsOne v x → v.actor.locked ≡ Some x → HasNoRetain v
    → Becomes plan v (unlocking v x)
unlocking_becomes put law free plan v x running none holding locked retains =
    then_begins put plan v (unlocking v x) running.1 refl (λ y locks. refl)
    (λ words views id stands here.
    let one =
    has_one free plan words views id v x
    (record { stands = stands; here = here; running = running.0; free = none }) holding in
    let s = one.stands in
    with_one one
    (rearranged plan words views id (rested v) s here (UnlockGate x ∷ []) (open_work v)
    (law s.accounts (1 + s.machine.layout.workers) s.machine v.thread (rested v).actor x s.counts
    (is_ready plan words views id v s here running.0) (alone v x none) one.more locked retains
    (s.lends_none id (rested v) here))))

-- The kind word of an object with a cell is above 0.
pub kind_some : (word i : ℕ) → i < cells_of word → 0 < word
kind_some word i low = elim (cases_lt 0 word) [
  | inl more ↦ more
  | inr none ↦
      let is : word ≡ 0 = omega (arith, none) in
      let low' : i < cells_of 0 = subst (λ (w : ℕ). i < cells_of w) is low in
      absurd (omega (arith, low'))
]

-- A hand begins to load a cell of the list that it has locked, or is to finalise.
pub loading_becomes : WorkIsPutAside → CellLoadsBegin → ImmortalsAreFree → (plan : Plan) (v : View) (x i : ℕ)
    → IsRunning v → HasNoWork v x → MayLoad v x → KnowsCell v x i → Becomes plan v (loading_cell v x i)
loading_becomes put law free plan v x i running none (inl (locked, holding)) knows =
    then_begins put plan v (loading_cell v x i) running.1 refl (λ y locks. refl)
    (λ words views id stands here.
    let one =
    has_one free plan words views id v x
    (record { stands = stands; here = here; running = running.0; free = none }) holding in
    let s = one.stands in
    let more : 0 < knows.word = kind_some knows.word i knows.low in
    let kind = s.kinds_seen id x knows.word (rested v) here more knows.seen in
    with_one one
    (rearranged plan words views id (rested v) s here (CellLoad x i ∷ []) (open_work v)
    (law s.accounts (1 + s.machine.layout.workers) s.machine v.thread (rested v).actor x i s.counts
    (is_ready plan words views id v s here running.0) (alone v x none) (inl (one.more, locked))
    (subst (λ (w : ℕ). i < cells_of w) (sym kind) knows.low))))
loading_becomes put law free plan v x i running none (inr first) knows =
    then_begins put plan v (loading_cell v x i) running.1 refl (λ y locks. refl)
    (λ words views id s here.
    let more : 0 < knows.word = kind_some knows.word i knows.low in
    let kind = s.kinds_seen id x knows.word (rested v) here more knows.seen in
    rearranged plan words views id (rested v) s here (CellLoad x i ∷ []) (open_work v)
    (law s.accounts (1 + s.machine.layout.workers) s.machine v.thread (rested v).actor x i s.counts
    (is_ready plan words views id v s here running.0) (alone v x none) (inr (omega (arith, first)))
    (subst (λ (w : ℕ). i < cells_of w) (sym kind) knows.low)))

-- A list's cell is one of those that a list may have.
pub known_low : (v : View) (x i : ℕ) → RowsAreThere v → KnowsCell v x i → i < v.layout.cells
known_low v x i rows knows = omega (arith, knows.low, rows.kinds x knows.word knows.seen)
