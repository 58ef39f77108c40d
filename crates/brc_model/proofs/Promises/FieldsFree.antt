-- A thread takes a row's field only while no thread uses it: nobody has locked the row, and no duty of a birth or a
-- deallocation needs the field.
use Rattle.std.proofs.Common.{◌≡◌, ◌≢◌, ℕ, ◌+◌, ◌<◌, Bool, true, false, cond, List, [], ◌∷◌, inl, inr, None, Some, refl, sym, ap, ◌∙◌, subst, arith}
use Rattle.std.specs.Prelude.{◌==◌, ◌||◌, slice_get, sum_by}
use Rattle.std.specs.List.{list_any}
use Rattle.std.proofs.lemmas.Bool.{eq-eqb, eqb-true, cases_Bool}
use Rattle.std.proofs.lemmas.Bool.Decides.{eqb_tells}
use Rattle.std.proofs.lemmas.List.Sums.{sum_by-cons}
use Rattle.brc_word.specs.Words.{free_word}
use Rattle.brc_model.specs.declared.duty.Holding.{Holding}
use Rattle.brc_model.specs.declared.duty.Duty.{Duty}
use Rattle.brc_model.specs.declared.duty.Duty.TheVariants.{LockGate, UnlockGate, BirthKind, BirthField, BirthLocal, SettleKind, SettleCell, TakeField, CloseResource, SettleEnd}
use Rattle.brc_model.specs.declared.address.Address.TheVariants.{Gate}
use Rattle.brc_model.specs.Duties.{address_of}
use Rattle.brc_model.specs.declared.actor.Actor.{Actor}
use Rattle.brc_model.specs.Machine.{Life, Unborn, Live, Dying, Machine, locked_by}
use Rattle.brc_model.specs.References.{one_if}
use Rattle.brc_model.specs.RowInvariant.{agenda_weight, weight}
use Rattle.brc_model.specs.Accounts.{Accounts}
use Rattle.brc_model.specs.Knowledge.{IsNext, HeadFits}
use Rattle.brc_model.specs.OpenWork.{is_about, dies_by}
use Rattle.brc_model.specs.Invariant.{CoreInvariant, AtDuty}
use Rattle.brc_model.specs.FieldLaws.{Stays, Takes, Gives, use_of, needs_field, Unlocks, GivenFieldsAreUnlocked, NeededFieldsAreUnlocked, FieldsAreFree}
use Rattle.brc_model.proofs.Basics.Bag.{one_if_low}
use Rattle.brc_model.proofs.Basics.Blocks.{next_block, next_unborn}
use Rattle.brc_model.proofs.Basics.Lists.{some_is}
use Rattle.brc_model.proofs.Frame.Alive.{live_born, backed_lives}
use Rattle.brc_model.proofs.Frame.Aside.{IsOfRow}
use Rattle.brc_model.proofs.Frame.Leaves.{head_of, locked_lives}
use Rattle.brc_model.proofs.Objects.Finalisers.{unfinalised, finalised_alone}
use Rattle.brc_model.proofs.Objects.SettlingWeights.{settles, IsOfSettling, finalises}
use Rattle.brc_model.proofs.Objects.Weights.{agenda_weight-le}
use Rattle.brc_model.proofs.Work.Deciders.{sum_zero}
use Rattle.brc_model.proofs.Work.Weighing.{weighing, own_weighs}
use Rattle.brc_model.proofs.Promises.Guarded.{at_next}

-- ---- the duties that need a field

-- 1 if the duty is one of a deallocation that has begun to use the row's field, else 0
abbrev settling : ℕ → Duty → ℕ
settling x d = one_if (settles d x)

-- 1 if it is one of such a birth
abbrev bearing : ℕ → Duty → ℕ
bearing x (BirthField y h) = one_if (y == x)
bearing x (BirthLocal y h) = one_if (y == x)
bearing x _ = 0

-- The first weight counts duties that settle the row alone.
of_settling : (x : ℕ) → IsOfSettling x (settling x)
of_settling x = record {
  others = λ d e. ap one_if e;
  low = λ d. one_if_low (settles d x);
  light = record { settle = refl; scan = λ w n. refl; take = λ w n. refl };
}

-- A duty that isn't about the row weighs nothing by the second one.
bearing_about : (x : ℕ) (d : Duty) → is_about x d ≡ false → bearing x d ≡ 0
bearing_about x (BirthField y h) e = ap one_if e
bearing_about x (BirthLocal y h) e = ap one_if e
bearing_about x _ e = refl

-- So the second weight counts duties about the row alone.
of_bearing : (x : ℕ) → IsOfRow x (bearing x)
of_bearing x = record { about = bearing_about x; cell = λ y i n. refl; end = λ y. refl }

-- A test that holds counts as 1.
is_one : (b : Bool) → b ≡ true → one_if b ≡ 1
is_one b e = ap one_if e

-- By one of the two a duty that needs the row's field weighs something.
duty_needs : (x : ℕ) (d : Duty) → needs_field x d ≡ true → settling x d + bearing x d ≡ 1
duty_needs x (BirthField y h) needs = omega (arith, is_one (y == x) needs)
duty_needs x (BirthLocal y h) needs = omega (arith, is_one (y == x) needs)
duty_needs x (SettleCell y i n) needs = omega (arith, is_one (y == x) needs)
duty_needs x (TakeField y) needs = omega (arith, is_one (y == x) needs)
duty_needs x (CloseResource y) needs = omega (arith, is_one (y == x) needs)
duty_needs x (SettleEnd y) needs = omega (arith, is_one (y == x) needs)
duty_needs x _ needs = absurd cc

-- So does an agenda with such a duty.
agenda_needs : (x : ℕ) (ds : List Duty) → list_any (needs_field x) ds ≡ true
    → 0 < sum_by (settling x) ds + sum_by (bearing x) ds
agenda_needs x [] needs = absurd cc
agenda_needs x (d ∷ ds) needs =
    let settle = sum_by-cons (settling x) d ds in
    let bear = sum_by-cons (bearing x) d ds in
    elim (cases_Bool (needs_field x d)) [
      | inl this ↦ omega (arith, settle, bear, duty_needs x d this)
      | inr other ↦
          let later = sym (ap (λ (b : Bool). b || list_any (needs_field x) ds) other) ∙ needs in
          omega (arith, settle, bear, agenda_needs x ds later)
    ]

-- ---- a field that nobody uses

-- No thread uses the row's field.
record IsFree (m : Machine) (x : ℕ) : Type 0 where
  settled : weight (settling x) m.actors ≡ 0
  unbegun : weight (bearing x) m.actors ≡ 0
  unlocked : (u : ℕ) (b : Actor) → slice_get m.actors u ≡ Some b → b.locked ≡ Some x → ⊥

-- A duty of the row's birth, once it has begun, knows that the row is the next one of the thread's block.
bears_next : (m : Machine) (u x : ℕ) (b : Actor) (d : Duty) (rest : List Duty) → HeadFits m u b d rest
    → 0 < bearing x d → IsNext m u b x
bears_next m u x b (BirthField y h) rest fits some =
    elim (eqb_tells y x) [
      | inl same ↦ subst (IsNext m u b) same.1 fits.0
      | inr other ↦ let none : one_if (y == x) ≡ 0 = ap one_if other.0 in absurd (omega (arith, some, none))
    ]
bears_next m u x b (BirthLocal y h) rest fits some =
    elim (eqb_tells y x) [
      | inl same ↦ subst (IsNext m u b) same.1 fits.0
      | inr other ↦ let none : one_if (y == x) ≡ 0 = ap one_if other.0 in absurd (omega (arith, some, none))
    ]
bears_next m u x b _ rest fits some = absurd (omega (arith, some))

module _ (p : Accounts) (n : ℕ) (m : Machine) (x : ℕ) (core : CoreInvariant p n m) where
  -- So a thread that has begun the row's birth gives birth to the next row of its block.
  bearer : (u : ℕ) (b : Actor) → slice_get m.actors u ≡ Some b → 0 < agenda_weight (bearing x) b → IsNext m u b x
  bearer u b found some =
      let it = weighing u x b (bearing x) (of_bearing x) core found some in
      bears_next m u x b it.duty it.rest it.knows it.some

  -- Nobody gives birth to a row that was born.
  none_bears : (m.life x ≢ Unborn) → weight (bearing x) m.actors ≡ 0
  none_bears born =
      sum_zero (agenda_weight (bearing x)) m.actors (λ u b found.
      elim (eqb_tells (agenda_weight (bearing x) b) 0) [
        | inl none ↦ none.1
        | inr more ↦
            absurd (born (next_unborn p n m u b x core found (bearer u b found (omega (arith, more.1)))))
      ])

  -- Nobody deallocates a row that isn't dying.
  none_settles : ((u : ℕ) → dies_by (m.life x) u ≡ false) → weight (settling x) m.actors ≡ 0
  none_settles none = unfinalised p n m x (settling x) (finalises x (settling x) (of_settling x)) core none

  -- Nobody has locked a row that doesn't live.
  none_locked : (m.life x ≢ Live) → (u : ℕ) (b : Actor) → slice_get m.actors u ≡ Some b → b.locked ≡ Some x → ⊥
  none_locked dead u b found locked = dead (locked_lives u b x core found locked)

-- ---- the threads that take a field

module _ (p : Accounts) (n : ℕ) (m : Machine) (t : ℕ) (a : Actor) where
  -- A thread that finds the gate free locks a row that lives, and that nobody has locked.
  locking_free : (x : ℕ) (rest : List Duty) → AtDuty p n m t a (LockGate x) rest → m.memory (Gate x) ≡ free_word
      → IsFree m x
  locking_free x rest here free =
      let lives = backed_lives t a x here.core (head_of here).0 in
      record {
        settled = none_settles p n m x here.core (λ u. ap (λ (l : Life). dies_by l u) lives);
        unbegun = none_bears p n m x here.core (live_born m x lives);
        unlocked = λ u b found locked.
            omega (arith, free, ((here.core.each u b found).0.locks x locked).gate);
      }

  -- A thread that begins a birth does so alone, since the row is in its block.
  birth_free : (x : ℕ) (h : Holding) (w : ℕ) (rest : List Duty) → AtDuty p n m t a (BirthKind x h w) rest → IsFree m x
  birth_free x h w rest here =
      let next = (head_of here).0 in
      let unborn = next_unborn p n m t a x here.core here.found next in
      let mine : agenda_weight (bearing x) a ≡ 0 = own_weighs x (bearing x) here (of_bearing x) (eq-eqb x x refl) in
      record {
        settled = none_settles p n m x here.core (λ u. ap (λ (l : Life). dies_by l u) unborn);
        unbegun = sum_zero (agenda_weight (bearing x)) m.actors (λ u b found.
            elim (eqb_tells (agenda_weight (bearing x) b) 0) [
              | inl none ↦ none.1
              | inr more ↦
                  let theirs = bearer p n m x here.core u b found (omega (arith, more.1)) in
                  let same : t ≡ u = sym (next_block m t a x next) ∙ next_block m u b x theirs in
                  let which : a ≡ b = some_is a b (sym here.found ∙ ap (slice_get m.actors) same ∙ found) in
                  ap (agenda_weight (bearing x)) (sym which) ∙ mine
            ]);
        unlocked = none_locked p n m x here.core (λ lives. let wrong : Unborn ≡ Live = sym unborn ∙ lives in cc);
      }

  -- A thread that begins to deallocate a row is the only one that finalises it, and does so by this duty alone.
  settling_free : (x : ℕ) (rest : List Duty) → AtDuty p n m t a (SettleKind x) rest → IsFree m x
  settling_free x rest here =
      let dies = (head_of here).1 in
      record {
        settled =
            finalised_alone p n m x (settling x) (finalises x (settling x) (of_settling x)) t a (SettleKind x) rest here
            (eq-eqb x x refl) dies;
        unbegun = none_bears p n m x here.core (λ unborn. let wrong : Dying t ≡ Unborn = sym dies ∙ unborn in cc);
        unlocked = none_locked p n m x here.core (λ lives. let wrong : Dying t ≡ Live = sym dies ∙ lives in cc);
      }

  -- A duty takes one row's field.
  taken_is : (y x : ℕ) → Takes y ≡ Takes x → y ≡ x
  taken_is y x e = cc

  -- Nobody uses a field that the thread's duty takes.
  taken_free : (d : Duty) (rest : List Duty) (x : ℕ) → AtDuty p n m t a d rest
      → use_of d (m.memory (address_of m.layout t a.head d)) ≡ Takes x → IsFree m x
  taken_free (LockGate y) rest x here takes =
      elim (eqb_tells (m.memory (Gate y)) free_word) [
        | inl free ↦
            let is = sym (ap (λ (b : Bool). cond b (Takes y) Stays) free.0) ∙ takes in
            subst (IsFree m) (taken_is y x is) (locking_free y rest here free.1)
        | inr not ↦
            absurd (let wrong : Stays ≡ Takes x = sym (ap (λ (b : Bool). cond b (Takes y) Stays) not.0) ∙ takes in cc)
      ]
  taken_free (BirthKind y h w) rest x here takes = subst (IsFree m) (taken_is y x takes) (birth_free y h w rest here)
  taken_free (SettleKind y) rest x here takes = subst (IsFree m) (taken_is y x takes) (settling_free y rest here)
  taken_free _ rest x here takes = absurd cc

-- A thread takes a field that no thread uses.
pub fields_free : FieldsAreFree
fields_free p n m t a d rest u b x counts next takes found uses =
    let free = taken_free p n m t a d rest x (at_next counts next) takes in
    elim uses [
      | inl locked ↦ free.unlocked u b found locked
      | inr needs ↦
          omega (
            arith,
            agenda_needs x b.agenda needs,
            agenda_weight-le (settling x) m.actors u b found,
            agenda_weight-le (bearing x) m.actors u b found,
            free.settled,
            free.unbegun,
          )
    ]

-- ---- the threads that give a field back

-- The duty doesn't change the thread's lock. If the thread hasn't locked the row before the duty, it hasn't locked it
-- after the duty either.
lock_left : (a : Actor) (d : Duty) (found x : ℕ) → locked_by a.locked d found ≡ a.locked
    → (a.locked ≡ Some x → ⊥) → Unlocks a d found x
lock_left a d found x same unlocked = record {
  left = λ y locked.
      let mine : a.locked ≡ Some y = sym same ∙ locked in
      ((λ e. unlocked (mine ∙ ap Some e)), mine);
  kept = λ y apart locked. same ∙ locked;
}

given_is : (y x : ℕ) → Gives y ≡ Gives x → y ≡ x
given_is y x e = cc

-- A thread that gives a field back hasn't locked the row any more.
pub fields_unlocked : GivenFieldsAreUnlocked
fields_unlocked p n m t a (UnlockGate y) rest found x counts next gives =
    let here = at_next counts next in
    let locked : a.locked ≡ Some y = (head_of here).1 in
    record {
      left = λ z is. let wrong : None ≡ Some z = is in cc;
      kept = λ z apart is.
          let same : y ≡ z = let e : Some y ≡ Some z = sym locked ∙ is in cc in
          absurd (apart (sym same ∙ given_is y x gives));
    }
fields_unlocked p n m t a (BirthLocal y h) rest found x counts next gives =
    let here = at_next counts next in
    let born = (head_of here).0 in
    let unborn = next_unborn p n m t a y here.core here.found born in
    lock_left a (BirthLocal y h) found x refl (λ locked.
    none_locked p n m x here.core
    (λ lives. let wrong : Unborn ≡ Live = sym (ap m.life (sym (given_is y x gives)) ∙ unborn) ∙ lives in cc) t a
    here.found locked)
fields_unlocked p n m t a (SettleEnd y) rest found x counts next gives =
    let here = at_next counts next in
    let dies = (head_of here).1 in
    lock_left a (SettleEnd y) found x refl (λ locked.
    none_locked p n m x here.core
    (λ lives. let wrong : Dying t ≡ Live = sym (ap m.life (sym (given_is y x gives)) ∙ dies) ∙ lives in cc) t a
    here.found locked)
fields_unlocked p n m t a (LockGate y) rest found x counts next gives =
    elim (eqb_tells found free_word) [
      | inl free ↦
          absurd (let wrong : Takes y ≡ Gives x = sym (ap (λ (b : Bool). cond b (Takes y) Stays) free.0) ∙ gives in cc)
      | inr not ↦
          absurd (let wrong : Stays ≡ Gives x = sym (ap (λ (b : Bool). cond b (Takes y) Stays) not.0) ∙ gives in cc)
    ]
fields_unlocked p n m t a _ rest found x counts next gives = absurd cc

-- ---- the threads that need a field

-- A thread that gives birth to a row's object, or deallocates it, hasn't locked the row.
module _ (p : Accounts) (n : ℕ) (m : Machine) (t : ℕ) (a : Actor) (x : ℕ) (core : CoreInvariant p n m)
    (found : slice_get m.actors t ≡ Some a) where
  unborn_unlocked : (y : ℕ) → IsNext m t a y → (y == x) ≡ true → a.locked ≡ Some x → ⊥
  unborn_unlocked y next same =
      let unborn = next_unborn p n m t a y core found next in
      let here : m.life x ≡ Unborn = ap m.life (sym (eqb-true y x same)) ∙ unborn in
      none_locked p n m x core (λ lives. let wrong : Unborn ≡ Live = sym here ∙ lives in cc) t a found

  dying_unlocked : (y : ℕ) → m.life y ≡ Dying t → (y == x) ≡ true → a.locked ≡ Some x → ⊥
  dying_unlocked y dies same =
      let here : m.life x ≡ Dying t = ap m.life (sym (eqb-true y x same)) ∙ dies in
      none_locked p n m x core (λ lives. let wrong : Dying t ≡ Live = sym here ∙ lives in cc) t a found

pub needed_unlocked : NeededFieldsAreUnlocked
needed_unlocked p n m t a (BirthField y h) rest x counts next needs =
    let here = at_next counts next in
    unborn_unlocked p n m t a x here.core here.found y (head_of here).0 needs
needed_unlocked p n m t a (BirthLocal y h) rest x counts next needs =
    let here = at_next counts next in
    unborn_unlocked p n m t a x here.core here.found y (head_of here).0 needs
needed_unlocked p n m t a (SettleCell y i k) rest x counts next needs =
    let here = at_next counts next in
    dying_unlocked p n m t a x here.core here.found y (head_of here).1 needs
needed_unlocked p n m t a (TakeField y) rest x counts next needs =
    let here = at_next counts next in
    dying_unlocked p n m t a x here.core here.found y (head_of here).1 needs
needed_unlocked p n m t a (CloseResource y) rest x counts next needs =
    let here = at_next counts next in
    dying_unlocked p n m t a x here.core here.found y (head_of here).1 needs
needed_unlocked p n m t a (SettleEnd y) rest x counts next needs =
    let here = at_next counts next in
    dying_unlocked p n m t a x here.core here.found y (head_of here).1 needs
needed_unlocked p n m t a _ rest x counts next needs = absurd cc
