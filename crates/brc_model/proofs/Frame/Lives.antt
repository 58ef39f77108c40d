-- Which rows a step can make die. A step doesn't change the lives of the rows that other threads are finalising.
use Rattle.std.proofs.Common.{◌≡◌, ◌≢◌, ℕ, Bool, true, false, cond, List, [], ◌∷◌, inl, inr, Option, None, Some, refl, sym, ap, ◌∙◌, subst}
use Rattle.std.specs.Prelude.{◌==◌}
use Rattle.std.proofs.lemmas.Bool.{ne_eqb, false≢true}
use Rattle.std.proofs.lemmas.Bool.Decides.{eqb_tells}
use Rattle.brc_model.specs.declared.duty.Duty.{Duty}
use Rattle.brc_model.specs.declared.duty.Duty.TheVariants.{DecideAtZero, SharedExchange, MergeExchange, Die, SettleKind, SettleEnd, BirthKind, BirthLocal, KindLoad}
use Rattle.brc_model.specs.Duties.{address_of, continuation}
use Rattle.brc_model.specs.declared.actor.Actor.{Actor}
use Rattle.brc_model.specs.Machine.{Life, Unborn, Live, Dying, Closed, Machine, is_running, dies_next, ended_row, born_row, with_life, life_by, machine_by_duty}
use Rattle.brc_model.proofs.Basics.Lists.{some_is, none_some}
use Rattle.brc_model.specs.Accounts.{Accounts}
use Rattle.brc_model.specs.OpenWork.{dies_by}
use Rattle.brc_model.specs.Knowledge.{HasCountedKind}
use Rattle.brc_model.specs.Invariant.{AtDuty}
use Rattle.brc_model.proofs.Basics.Written.{written_load}
use Rattle.brc_model.specs.declared.address.Address.TheVariants.{KindOf}
use Rattle.brc_model.specs.Kinds.{kind_of_word, is_counted_kind}
use Rattle.brc_model.proofs.Basics.Continuation.{MayDie, Origin, Continuation, GoesOn, continues}
use Rattle.brc_model.proofs.Frame.Alive.{Alive}
use Rattle.brc_model.proofs.Basics.Blocks.{next_unborn}
use Rattle.brc_model.proofs.Frame.Cells.{stays_empty}
use Rattle.brc_model.proofs.Frame.Items.{word_stays, lists_left}
use Rattle.brc_model.proofs.Frame.Kinds.{kind_stays}
use Rattle.brc_model.proofs.Frame.Births.{births_left}
use Rattle.brc_model.proofs.Frame.Others.{LeavesOthers}
use Rattle.brc_model.proofs.Frame.Leaves.{head_of, exchange_alive, decide_alive, merge_alive, locals_left, merged_left, stopped_left, words_left, gates_left, locks_left}
use Rattle.brc_model.proofs.Basics.MovesApart.{moves_apart}
use Rattle.brc_model.specs.declared.layout.Layout.{Layout}

one_dies : (d : Duty) (found : ℕ) (e : Duty) (y : ℕ) → Origin d found e → dies_next (e ∷ []) ≡ Some y → MayDie d y
one_dies d found (Die x) y origin dies = subst (MayDie d) (some_is x y dies) origin
one_dies d found _ y origin dies = absurd (none_some y dies)

-- only three duties are followed by one that lets a row die
pub next_dies : {layout : Layout} {t head found : ℕ} (d : Duty) (next : List Duty) (y : ℕ)
    → Continuation layout t head found d next → dies_next next ≡ Some y → MayDie d y
next_dies {found = found} d next y (GoesOn e leads) dies = one_dies d found e y leads.origin dies
next_dies d next y _ dies = absurd (none_some y dies)

-- ---- rows that begin to die are live

module _ {p : Accounts} {n : ℕ} {m : Machine} {t : ℕ} {a : Actor} {rest : List Duty} where
  may_die_alive : (d : Duty) (y : ℕ) → AtDuty p n m t a d rest → MayDie d y → Alive m y
  may_die_alive (DecideAtZero x) y here is = subst (Alive m) is (decide_alive x here)
  may_die_alive (SharedExchange x r w) y here is = subst (Alive m) is (exchange_alive x w r here)
  may_die_alive (MergeExchange x c w r) y here is = subst (Alive m) is (merge_alive x c w r here)
  may_die_alive _ y here is = absurd is

abbrev pub next_of : Machine → ℕ → Actor → Duty → List Duty
next_of m t a d = continuation m.layout t (is_running a.status) a.head d (m.memory (address_of m.layout t a.head d))

pub next_may_die : (m : Machine) (t : ℕ) (a : Actor) (d : Duty) (y : ℕ) → dies_next (next_of m t a d) ≡ Some y
    → MayDie d y
next_may_die m t a d y dies =
    next_dies d (next_of m t a d) y
    (continues m.layout t (is_running a.status) a.head d (m.memory (address_of m.layout t a.head d))) dies

module _ {p : Accounts} {n : ℕ} {m : Machine} {t : ℕ} {a : Actor} {d : Duty} {rest : List Duty} where
  -- A row that a step makes die was live before it.
  pub dying_was_alive : (y : ℕ) → AtDuty p n m t a d rest → dies_next (next_of m t a d) ≡ Some y → Alive m y
  dying_was_alive y here e = may_die_alive d y here (next_may_die m t a d y e)

-- ---- life after a step

-- A row whose life changes, and which the thread finalises neither before nor after, changes nothing of what it
-- finalises.
changes_life : (life : ℕ → Life) (o : Option ℕ) (state : Life) (u x : ℕ) → dies_by state u ≡ false
    → ((y : ℕ) → o ≡ Some y → dies_by (life y) u ≡ false)
    → dies_by (with_life life o state x) u ≡ dies_by (life x) u
changes_life life None state u x now was = refl
changes_life life (Some y) state u x now was =
    elim (eqb_tells y x) [
      | inl same ↦
          ap (λ (b : Bool). dies_by (cond b state (life x)) u) same.0 ∙ now
          ∙ sym (ap (λ (z : ℕ). dies_by (life z) u) (sym same.1) ∙ was y refl)
      | inr other ↦ ap (λ (b : Bool). dies_by (cond b state (life x)) u) other.0
    ]

module _ {p : Accounts} {n : ℕ} {m : Machine} {t : ℕ} {a : Actor} {rest : List Duty} where
  ended_mine : (d : Duty) (u y : ℕ) → AtDuty p n m t a d rest → u ≢ t → ended_row d ≡ Some y
      → dies_by (m.life y) u ≡ false
  ended_mine (SettleEnd x) u y here ne e =
      let mine : m.life y ≡ Dying t = ap m.life (sym (some_is x y e)) ∙ (head_of here).1 in
      ap (λ (l : Life). dies_by l u) mine ∙ ne_eqb t u (λ q. ne (sym q))
  ended_mine _ u y here ne e = absurd (none_some y e)

  born_was : (d : Duty) (y : ℕ) → AtDuty p n m t a d rest → born_row d ≡ Some y → m.life y ≡ Unborn
  born_was (BirthLocal x h) y here e =
      ap m.life (sym (some_is x y e)) ∙ next_unborn p n m t a x here.core here.found (head_of here).0
  born_was _ y here e = absurd (none_some y e)

module _ {p : Accounts} {n : ℕ} {m : Machine} {t : ℕ} {a : Actor} {d : Duty} {rest : List Duty} where
  lives_left : AtDuty p n m t a d rest → (u x : ℕ) → u ≢ t
      → dies_by (life_by m.life t d (next_of m t a d) x) u ≡ dies_by (m.life x) u
  lives_left here u x ne =
      let dying = with_life m.life (dies_next (next_of m t a d)) (Dying t) in
      let closed = with_life dying (ended_row d) Closed in
      let first =
      λ (z : ℕ). changes_life m.life (dies_next (next_of m t a d)) (Dying t) u z (ne_eqb t u (λ e. ne (sym e)))
      (λ y e. ap (λ (l : Life). dies_by l u) (dying_was_alive y here e).life) in
      let second =
      λ (z : ℕ). changes_life dying (ended_row d) Closed u z refl
      (λ y e. first y ∙ ended_mine d u y here ne e) ∙ first z in
      changes_life closed (born_row d) Live u x refl
      (λ y e. second y ∙ ap (λ (l : Life). dies_by l u) (born_was d y here e)) ∙ second x

-- A row that was born is still born after its life changes to one that isn't `Unborn`.
born_through : (life : ℕ → Life) (o : Option ℕ) (state : Life) (x : ℕ) → state ≢ Unborn → life x ≢ Unborn
    → with_life life o state x ≢ Unborn
born_through life None state x now was = was
born_through life (Some y) state x now was =
    elim (y == x) as (λ b. cond b state (life x) ≢ Unborn) [
      | true ↦ now
      | false ↦ was
    ]

-- A born row is still born after a step.
pub born_left : (life : ℕ → Life) (t : ℕ) (d : Duty) (next : List Duty) (x : ℕ) → life x ≢ Unborn
    → life_by life t d next x ≢ Unborn
born_left life t d next x was =
    let dying = with_life life (dies_next next) (Dying t) in
    let first : dying x ≢ Unborn = born_through life (dies_next next) (Dying t) x (λ e. cc) was in
    born_through (with_life dying (ended_row d) Closed) (born_row d) Live x (λ e. cc)
    (born_through dying (ended_row d) Closed x (λ e. cc) first)

-- ---- kinds

module _ {p : Accounts} {n : ℕ} {m : Machine} {t : ℕ} {a : Actor} {rest : List Duty} where
  -- A kind word that names a counted kind still does after a step: a birth stores such kinds alone.
  kinds_left : (d : Duty) → AtDuty p n m t a d rest → (x : ℕ) → HasCountedKind m.memory x
      → HasCountedKind (machine_by_duty m t a d rest).memory x
  kinds_left (SettleKind y) here x was =
      ap (λ (w : ℕ). is_counted_kind (kind_of_word w)) (written_load m.memory (KindOf y) (KindOf x)) ∙ was
  kinds_left (KindLoad y) here x was =
      ap (λ (w : ℕ). is_counted_kind (kind_of_word w)) (written_load m.memory (KindOf y) (KindOf x)) ∙ was
  kinds_left (BirthKind y h w) here x was =
      let said = (head_of here).2 in
      elim (y == x) as (λ b. is_counted_kind (kind_of_word (cond b w (m.memory (KindOf x)))) ≡ true) [
        | true ↦ said
        | false ↦ was
      ]
  kinds_left _ here x was = was

-- ---- everything that other threads rely on

dying_unlive : (l : Life) (u : ℕ) → dies_by l u ≡ true → l ≡ Live → ⊥
dying_unlive l u dies lives =
    absurd (false≢true (sym (ap (λ (k : Life). dies_by k u) lives) ∙ dies))

module _ {p : Accounts} {n : ℕ} {m : Machine} {t : ℕ} {a : Actor} {d : Duty} {rest : List Duty} where
  -- A thread's step leaves what the other threads rely on.
  pub leaves_others : AtDuty p n m t a d rest → LeavesOthers m (machine_by_duty m t a d rest) t
  leaves_others here = record {
    memory = record {
      layout = refl;
      locals = λ u x b ne found owns. locals_left d here u x b ne found owns;
      merged = λ x was. merged_left d here x was;
      stopped = λ u was. stopped_left m t a d u was;
      words = λ u ne. words_left m t a d u ne;
      gates = λ u x ne dies. gates_left d here u x ne dies;
      locks = λ u x b ne found e. locks_left d here u x b ne found e;
      lists = λ u x b ne found e. lists_left p n m t a d rest here u x b ne found e;
      cells = λ u x i ne dies was.
          stays_empty x i here (dying_unlive (m.life x) u dies) was;
      kinds = λ x was. kinds_left d here x was;
      lives = λ u x ne. lives_left here u x ne;
      born = λ x was. born_left m.life t d (next_of m t a d) x was;
      stored = λ x some. kind_stays x here some;
      words_born = λ x born. word_stays p n m t a d rest x here born;
      births = λ u x b ne found next. births_left p n m t u a b d rest x here ne found next;
    };
    bag = λ u k object ne. moves_apart m.memory m.abstract u t k object d (m.memory (address_of m.layout t a.head d))
        ne;
  }
