-- After the thread's own step the duties after the first know what they knew: the step closes no row of theirs, and
-- doesn't change their gates.
use Rattle.std.proofs.Common.{◌≡◌, ℕ, zero, suc, ◌+◌, ◌-◌, ◌<◌, Bool, true, false, cond, List, [], ◌∷◌, ◌++◌, Some, refl, sym, ap, ◌∙◌, subst, arith}
use Rattle.std.specs.Prelude.{nat_lt}
use Rattle.std.proofs.lemmas.Bool.{eq-eqb, eqb-false, ltb-true, ltb-false, false≢true}
use Rattle.brc_model.specs.declared.duty.Duty.{Duty}
use Rattle.brc_model.specs.declared.duty.Duty.TheVariants.{Die, Settle, SettleCell, SettleEnd, Scan, TakeFound, LockGate, UnlockGate}
use Rattle.brc_model.specs.declared.address.Address.TheVariants.{Gate, KindOf, Cell}
use Rattle.brc_model.specs.declared.layout.Layout.{Layout}
use Rattle.brc_model.specs.Duties.{address_of, new_word, new_head, ready, resources_of, cells_from, release_found}
use Rattle.brc_model.specs.declared.actor.Actor.{Actor}
use Rattle.brc_model.specs.Machine.{Life, Unborn, Live, Dying, Machine, is_running, ended_row, actor_by, machine_by_duty, written}
use Rattle.brc_model.specs.Layout.{IsCounted}
use Rattle.brc_model.specs.References.{one_if}
use Rattle.brc_model.specs.Accounts.{Accounts}
use Rattle.brc_model.specs.Knowledge.{BehindFits, AllBehind, BehindOf, IsDyingWord, IsEmptyBut}
use Rattle.brc_model.specs.OpenWork.{is_finalising, finalised, dies_by, ChainFits}
use Rattle.brc_model.specs.Invariant.{AtDuty}
use Rattle.brc_model.proofs.Basics.Bag.{one_if_low}
use Rattle.brc_model.proofs.Basics.Continuation.{Continuation, Ends, Finishes, GoesOn, Frees, FreesOld, SettlesRow, Claims, ClaimsNone, Exits, Scans, Takes, TakesNone, continues}
use Rattle.brc_model.proofs.Basics.Lists.{some_is, none_some}
use Rattle.brc_model.proofs.Basics.Written.{written_apart, written_load, apart_gate}
use Rattle.brc_model.proofs.Frame.Alive.{backed_lives}
use Rattle.brc_model.proofs.Frame.Leaves.{head_of, living_clash}
use Rattle.brc_model.proofs.Frame.Items.{word_stays}
use Rattle.brc_model.proofs.Frame.Lives.{next_of}
use Rattle.brc_model.proofs.Frame.Cells.{stays_empty, one_emptied, all_emptied}
use Rattle.brc_model.proofs.Objects.Closing.{GoesOn as LifeGoesOn, BeginsToDie, IsClosed, IsBorn, life_step}

-- ---- the rows of later duties

-- An agenda's duties finalise the row of the first one once more than those after it.
pub finalised_first : (d : Duty) (rest : List Duty) (x : ℕ)
    → finalised (d ∷ rest) x ≡ one_if (is_finalising d x) + finalised rest x
finalised_first d rest x =
    elim (is_finalising d x) as
    (λ b. cond b (1 + finalised rest x) (finalised rest x) ≡ one_if b + finalised rest x) [
      | true ↦ omega arith
      | false ↦ omega arith
    ]

module _ {p : Accounts} {n : ℕ} {m : Machine} {t : ℕ} {a : Actor} {d : Duty} {rest : List Duty} where
  -- The thread finalises a row by one duty alone.
  one_finalises : (x : ℕ) → AtDuty p n m t a d rest → 0 < finalised rest x → is_finalising d x ≡ false
  one_finalises x here some =
      let chain = subst (λ (l : List Duty). ChainFits m t a.head l) here.agenda
      (here.core.each t a here.found).0.chain in
      elim (is_finalising d x) as (λ b. is_finalising d x ≡ b → is_finalising d x ≡ false) [
        | true ↦ λ this.
            let one : one_if (is_finalising d x) ≡ 1 = ap one_if this in
            absurd (omega (arith, one, some, chain.once x, finalised_first d rest x, one_if_low (dies_by (m.life x) t)))
        | false ↦ λ other. other
      ] refl

module _ {p : Accounts} {n : ℕ} {m : Machine} {t : ℕ} {a : Actor} {rest : List Duty} where
  -- A step changes no gate of the thread's dying rows but that of the row that its duty finalises: what it locks or
  -- unlocks lives.
  gate_stays : (d : Duty) (x : ℕ) → AtDuty p n m t a d rest → is_finalising d x ≡ false → m.life x ≡ Dying t
      → written m.memory (address_of m.layout t a.head d)
      (new_word m.layout t a.head d (m.memory (address_of m.layout t a.head d))) (Gate x) ≡ m.memory (Gate x)
  gate_stays (Die y) x here other dies =
      written_apart m.memory (Gate y) (Gate x) _ (apart_gate y x (eqb-false y x other))
  gate_stays Settle x here other dies = written_load m.memory (Gate (a.head - 1)) (Gate x)
  gate_stays (SettleEnd y) x here other dies =
      written_apart m.memory (Gate y) (Gate x) _ (apart_gate y x (eqb-false y x other))
  gate_stays (LockGate y) x here other dies =
      let own : dies_by (m.life x) t ≡ true = ap (λ (l : Life). dies_by l t) dies ∙ eq-eqb t t refl in
      written_apart m.memory (Gate y) (Gate x) _
      (apart_gate y x (living_clash m t x y (backed_lives t a y here.core (head_of here).0) own))
  gate_stays (UnlockGate y) x here other dies =
      let own : dies_by (m.life x) t ≡ true = ap (λ (l : Life). dies_by l t) dies ∙ eq-eqb t t refl in
      written_apart m.memory (Gate y) (Gate x) _
      (apart_gate y x (living_clash m t x y (backed_lives t a y here.core (head_of here).0) own))
  gate_stays _ x here other dies = refl

dying_unlive : (t : ℕ) → Dying t ≡ Live → ⊥
dying_unlive t e = cc

ended_finalising : (d : Duty) (x : ℕ) → ended_row d ≡ Some x → is_finalising d x ≡ true
ended_finalising (SettleEnd y) x ended = eq-eqb y x (some_is y x ended)
ended_finalising _ x ended = absurd (none_some x ended)

module _ {p : Accounts} {n : ℕ} {m : Machine} {t : ℕ} {a : Actor} {d : Duty} {rest : List Duty} where
  -- A row that the thread finalises is still dying, unless the step closes it.
  life_stays : (x : ℕ) → AtDuty p n m t a d rest → is_finalising d x ≡ false → m.life x ≡ Dying t
      → (machine_by_duty m t a d rest).life x ≡ Dying t
  life_stays x here other dies =
      elim (life_step d x here) [
        | LifeGoesOn now still ↦ now ∙ dies
        | BeginsToDie now alive counted none ↦ now
        | IsClosed now dying counted ended ↦ absurd (false≢true (sym other ∙ ended_finalising d x ended))
        | IsBorn now unborn counted born none ↦ absurd (let wrong : Unborn ≡ Dying t = sym unborn ∙ dies in cc)
      ]

  -- The row has as many resources as before.
  resources_stay : (x : ℕ) → AtDuty p n m t a d rest → m.life x ≡ Dying t
      → resources_of ((machine_by_duty m t a d rest).memory (KindOf x)) ≡ resources_of (m.memory (KindOf x))
  resources_stay x here dies =
      ap resources_of (word_stays p n m t a d rest x here
      (λ unborn. let wrong : Dying t ≡ Unborn = sym dies ∙ unborn in cc))

  fits_still : (e : Duty) → AtDuty p n m t a d rest
      → ((x : ℕ) → is_finalising e x ≡ true → is_finalising d x ≡ false) → BehindFits m t e
      → BehindFits (machine_by_duty m t a d rest) t e
  fits_still (SettleCell x i k) here apart fits =
      let other = apart x (eq-eqb x x refl) in (
        fits.0,
        life_stays x here other fits.1,
        fits.2,
        subst (IsDyingWord t) (sym (gate_stays d x here other fits.1)) fits.3,
        λ j out. stays_empty x j here (λ live. dying_unlive t (sym fits.1 ∙ live)) (fits.4 j out),
        resources_stay x here fits.1 ∙ fits.5,
      )
  fits_still (SettleEnd x) here apart fits =
      let other = apart x (eq-eqb x x refl) in (
        fits.0,
        life_stays x here other fits.1,
        subst (IsDyingWord t) (sym (gate_stays d x here other fits.1)) fits.2,
        λ j. stays_empty x j here (λ live. dying_unlive t (sym fits.1 ∙ live)) (fits.3 j),
        resources_stay x here fits.1 ∙ fits.4,
      )
  fits_still _ here apart fits = tt

  all_still : (ds : List Duty) → AtDuty p n m t a d rest
      → ((x : ℕ) → 0 < finalised ds x → is_finalising d x ≡ false) → AllBehind m t ds
      → AllBehind (machine_by_duty m t a d rest) t ds
  all_still [] here apart all = tt
  all_still (e ∷ ds) here apart all = (
    fits_still e here
        (λ x this. let one : one_if (is_finalising e x) ≡ 1 = ap one_if this in
        apart x (omega (arith, one, finalised_first e ds x))) all.0,
    all_still ds here (λ x some. apart x (omega (arith, some, finalised_first e ds x))) all.1,
  )

  -- The duties after the first know what they knew.
  pub still_behind : AtDuty p n m t a d rest → AllBehind (machine_by_duty m t a d rest) t rest
  still_behind here =
      all_still rest here (λ x some. one_finalises x here some)
      (subst (BehindOf m t) here.agenda (here.core.each t a here.found).0.behind)

-- ---- the agenda after a step

behind_tail : (m : Machine) (t : ℕ) (l : List Duty) → AllBehind m t l → BehindOf m t l
behind_tail m t [] all = tt
behind_tail m t (d ∷ rest) all = all.1

behind_ready : (m : Machine) (t head : ℕ) (l : List Duty) → BehindOf m t l → BehindOf m t (ready head l)
behind_ready m t zero [] behind = tt
behind_ready m t (suc head) [] behind = tt
behind_ready m t zero (Settle ∷ rest) behind = behind_ready m t zero rest (behind_tail m t rest behind)
behind_ready m t (suc head) (Settle ∷ rest) behind = behind
behind_ready m t zero (Scan i zero ∷ rest) behind = behind_ready m t zero rest (behind_tail m t rest behind)
behind_ready m t (suc head) (Scan i zero ∷ rest) behind =
    behind_ready m t (suc head) rest (behind_tail m t rest behind)
behind_ready m t zero (Scan i (suc n) ∷ rest) behind = behind
behind_ready m t (suc head) (Scan i (suc n) ∷ rest) behind = behind
behind_ready m t zero (TakeFound w zero ∷ rest) behind = behind_ready m t zero rest (behind_tail m t rest behind)
behind_ready m t (suc head) (TakeFound w zero ∷ rest) behind =
    behind_ready m t (suc head) rest (behind_tail m t rest behind)
behind_ready m t zero (TakeFound w (suc k) ∷ rest) behind = behind
behind_ready m t (suc head) (TakeFound w (suc k) ∷ rest) behind = behind
behind_ready m t zero (_ ∷ rest) behind = behind
behind_ready m t (suc head) (_ ∷ rest) behind = behind

abbrev empties_cell : Duty → Bool
empties_cell (SettleCell x i n) = true
empties_cell _ = false

behind_next : {layout : Layout} {t head found : ℕ} (m : Machine) (u : ℕ) (d : Duty) (next rest : List Duty)
    → Continuation layout t head found d next → empties_cell d ≡ false → AllBehind m u rest
    → BehindOf m u (next ++ rest)
behind_next m u d next rest (Ends inner) other all = behind_tail m u rest all
behind_next m u d next rest Finishes other all = behind_tail m u rest all
behind_next m u d next rest (GoesOn e leads) other all = all
behind_next m u d next rest (Frees x i k y e set leads) other all = absurd (false≢true (sym other))
behind_next m u d next rest (FreesOld x i y z h set) other all = all
behind_next m u d next rest SettlesRow other all = (tt, all)
behind_next m u d next rest (Claims x set) other all = (tt, all)
behind_next m u d next rest (ClaimsNone x) other all = all
behind_next m u d next rest (Exits i k) other all = (tt, all)
behind_next m u d next rest (Scans w k) other all = (tt, all)
behind_next m u d next rest (Takes w k set) other all = (tt, (tt, all))
behind_next m u d next rest (TakesNone w k) other all = (tt, all)

-- ---- the cells of a dying list

-- A release of what a cell held needs to know nothing.
released_behind : (m : Machine) (t w : ℕ) (next rest : List Duty) → AllBehind m t (next ++ rest)
    → AllBehind m t ((release_found w ++ next) ++ rest)
released_behind m t zero next rest all = all
released_behind m t (suc y) next rest all = (tt, all)

-- The next cell's duty knows what it needs, and so does the row's closing if no cell is left.
pub cells_known : (m : Machine) (t x i k : ℕ) (rest : List Duty) → IsCounted m.layout x → m.life x ≡ Dying t
    → IsDyingWord t (m.memory (Gate x)) → IsEmptyBut m.memory x i k → resources_of (m.memory (KindOf x)) ≡ 0
    → AllBehind m t rest
    → AllBehind m t (cells_from x i k ++ rest)
cells_known m t x i k rest counted dies gate empty none all =
    elim (nat_lt i k) as (λ b. nat_lt i k ≡ b
    → AllBehind m t (cond b (SettleCell x i k ∷ []) (SettleEnd x ∷ []) ++ rest)) [
      | true ↦ λ e. ((counted, dies, ltb-true i k e, gate, empty, none), all)
      | false ↦ λ e. ((counted, dies, gate, all_emptied m.memory x i k (ltb-false i k e) empty, none), all)
    ] refl

module _ {p : Accounts} {n : ℕ} {m : Machine} {t : ℕ} {a : Actor} {rest : List Duty} where
  -- A row whose cells the thread empties is still dying.
  emptying_dies : (x i k : ℕ) → AtDuty p n m t a (SettleCell x i k) rest
      → (machine_by_duty m t a (SettleCell x i k) rest).life x ≡ Dying t
  emptying_dies x i k here =
      let dies = (head_of here).1 in
      elim (life_step (SettleCell x i k) x here) [
        | LifeGoesOn now still ↦ now ∙ dies
        | BeginsToDie now alive counted none ↦ now
        | IsClosed now dying counted ended ↦ absurd (none_some x ended)
        | IsBorn now unborn counted born none ↦ absurd (none_some x born)
      ]

  -- After a cell is emptied, its list's next duty knows what it needs.
  pub emptied_known : (x i k : ℕ) → AtDuty p n m t a (SettleCell x i k) rest
      → AllBehind (machine_by_duty m t a (SettleCell x i k) rest) t (cells_from x (i + 1) k ++ rest)
  emptied_known x i k here =
      let fits = head_of here in
      cells_known (machine_by_duty m t a (SettleCell x i k) rest) t x (i + 1) k rest fits.0 (emptying_dies x i k here)
      fits.3
      (one_emptied m.memory x i k fits.4) fits.5 (still_behind here)

  next_behind : (d : Duty) → AtDuty p n m t a d rest → BehindOf (machine_by_duty m t a d rest) t
      (next_of m t a d ++ rest)
  next_behind (SettleCell x i k) here =
      let new = machine_by_duty m t a (SettleCell x i k) rest in
      behind_tail new t (next_of m t a (SettleCell x i k) ++ rest)
      (released_behind new t (m.memory (Cell x i)) (cells_from x (i + 1) k) rest (emptied_known x i k here))
  next_behind d here =
      behind_next (machine_by_duty m t a d rest) t d (next_of m t a d) rest
      (continues m.layout t (is_running a.status) a.head d (m.memory (address_of m.layout t a.head d))) refl
      (still_behind here)

module _ {p : Accounts} {n : ℕ} {m : Machine} {t : ℕ} {a : Actor} {d : Duty} {rest : List Duty} where
  -- The duties after the first of the new agenda know what they need.
  pub behind_after : AtDuty p n m t a d rest
      → BehindOf (machine_by_duty m t a d rest) t
      (actor_by m.layout t a d rest (m.memory (address_of m.layout t a.head d))).agenda
  behind_after here =
      behind_ready (machine_by_duty m t a d rest) t (new_head a.head d (m.memory (address_of m.layout t a.head d)))
      (next_of m t a d ++ rest) (next_behind d here)
