-- A thread fits after the step of a steady duty: one that changes neither the thread's status nor the head of its chain
-- nor the gate of a row that it finalises. Such a step makes no row die, or makes its own row die, which the thread
-- then finalises.
use Rattle.std.proofs.Common.{◌≡◌, ℕ, ◌+◌, Bool, true, false, cond, List, [], ◌∷◌, ◌++◌, inl, inr, Option, None, Some, refl, sym, ap, ◌∙◌, subst, arith}
use Rattle.std.specs.Prelude.{◌==◌, slice_get, ◌&&◌}
use Rattle.std.proofs.lemmas.Bool.{eq-eqb}
use Rattle.std.proofs.lemmas.Bool.Decides.{eqb_tells}
use Rattle.brc_model.specs.declared.duty.Duty.{Duty}
use Rattle.brc_model.specs.declared.duty.Duty.TheVariants.{Look, Die, Settle, SettleKind, SettleCell, SettleEnd, Leave, Finish, TakeField, CloseResource, BirthLocal, LockGate, UnlockGate}
use Rattle.brc_model.specs.declared.address.Address.TheVariants.{Gate, ThreadWord}
use Rattle.brc_model.specs.Duties.{new_head, ready}
use Rattle.brc_model.specs.declared.actor.Status.{Status}
use Rattle.brc_model.specs.declared.actor.Actor.{Actor}
use Rattle.brc_model.specs.Machine.{Life, Live, Dying, Closed, Machine, status_by, dies_next, ended_row, with_life, life_by, actor_by, machine_by_duty, born_row, locked_by}
use Rattle.brc_model.specs.References.{one_if, reference_of}
use Rattle.brc_model.specs.Accounts.{Accounts, extra_of, lacks_of, HoldsAt}
use Rattle.brc_model.specs.Knowledge.{HeadFits, HeadOf}
use Rattle.brc_model.specs.OpenWork.{Later, Agenda, finalised, dies_by}
use Rattle.brc_model.specs.RowInvariant.{IsDead, RowInvariant}
use Rattle.brc_model.specs.Gates.{LiveGate, IsFree, IsLocked, GateFits}
use Rattle.brc_word.specs.Words.{free_word}
use Rattle.brc_model.proofs.Basics.Written.{written_load, written_apart, apart_gate}
use Rattle.brc_model.proofs.Basics.MovesApart.{moves_apart}
use Rattle.brc_model.proofs.Basics.Bag.{held-le-references_to}
use Rattle.brc_model.proofs.Basics.Lists.{some_is, and_first, and_second}
use Rattle.brc_model.proofs.Frame.Lives.{next_of}
use Rattle.brc_model.proofs.Stepping.Behind.{finalised_first, still_behind}
use Rattle.brc_model.proofs.Objects.RowsAfter.{rows_after}
use Rattle.brc_model.proofs.Frame.Leaves.{head_of, locked_held, living_clash}
use Rattle.brc_model.proofs.Frame.Alive.{backed_lives}
use Rattle.brc_model.proofs.Stepping.Own.{HeldStep, holds_step, ready_is, ChainSame, chain_same, ready_first}
use Rattle.brc_model.proofs.Stepping.FitsAfter.{found_by, bag_by, memory_by, uses_same, NotGone, FitsAfter, life_same}
use Rattle.brc_model.proofs.Basics.Continuation.{is_inner}
use Rattle.brc_model.specs.Invariant.{AtDuty, numbers_of}
use Rattle.brc_model.specs.Layout.{block_of, IsCounted}
use Rattle.brc_model.proofs.Stepping.Shown.{own_shown, agenda_shown}

-- ---- steady duties

-- Says whether the duty leaves the thread's status, the head of its chain and the gates of the rows that it finalises,
-- and neither closes a row nor is the last of a birth.
abbrev pub is_steady : Duty → Bool
is_steady (Die x) = false
is_steady Settle = false
is_steady (SettleEnd x) = false
is_steady (Leave x n) = false
is_steady Finish = false
is_steady (BirthLocal x h) = false
is_steady _ = true

-- Says whether the duty finalises no row.
abbrev pub finalises_none : Duty → Bool
finalises_none (Die x) = false
finalises_none (SettleKind x) = false
finalises_none (SettleCell x i n) = false
finalises_none (TakeField x) = false
finalises_none (CloseResource x) = false
finalises_none (SettleEnd x) = false
finalises_none _ = true

abbrev pub keeps_lives : Duty → Bool
keeps_lives d = is_steady d && finalises_none d

-- A steady duty closes no row.
pub keeping_ends : (d : Duty) → is_steady d ≡ true → ended_row d ≡ None
keeping_ends (SettleEnd x) kept = absurd cc
keeping_ends _ kept = refl

-- A steady duty gives birth to no row.
pub keeping_born : (d : Duty) → is_steady d ≡ true → born_row d ≡ None
keeping_born (BirthLocal x h) kept = absurd cc
keeping_born _ kept = refl

keeping_head : (head found : ℕ) (d : Duty) → is_steady d ≡ true → new_head head d found ≡ head
keeping_head head found (Die x) kept = absurd cc
keeping_head head found Settle kept = absurd cc
keeping_head head found _ kept = refl

keeping_status : (status : Status) (d : Duty) → is_steady d ≡ true → status_by status d ≡ status
keeping_status status (Leave x n) kept = absurd cc
keeping_status status Finish kept = absurd cc
keeping_status status _ kept = refl

module _ {p : Accounts} {n : ℕ} {m : Machine} {t : ℕ} {a : Actor} {rest : List Duty} where
  -- A steady duty leaves the gates of the rows that the thread finalises.
  pub keeping_gates : (d : Duty) (x : ℕ) → AtDuty p n m t a d rest → is_steady d ≡ true → dies_by (m.life x) t ≡ true
      → memory_by m t a d (Gate x) ≡ m.memory (Gate x)
  keeping_gates (LockGate y) x here kept dies =
      written_apart m.memory (Gate y) (Gate x) _
      (apart_gate y x (living_clash m t x y (backed_lives t a y here.core (head_of here).0) dies))
  keeping_gates (UnlockGate y) x here kept dies =
      written_apart m.memory (Gate y) (Gate x) _
      (apart_gate y x (living_clash m t x y (backed_lives t a y here.core (head_of here).0) dies))
  keeping_gates _ x here kept dies = cc

-- A step that makes a row die changes no gate.
dying_gates : (m : Machine) (t : ℕ) (a : Actor) (d : Duty) (x y : ℕ) → is_steady d ≡ true
    → next_of m t a d ≡ Die x ∷ [] → memory_by m t a d (Gate y) ≡ m.memory (Gate y)
dying_gates m t a (Die z) x y kept next = absurd cc
dying_gates m t a _ x y kept next = cc

keeping_word : (m : Machine) (t : ℕ) (a : Actor) (d : Duty) → is_steady d ≡ true
    → memory_by m t a d (ThreadWord t) ≡ m.memory (ThreadWord t)
keeping_word m t a (Look y) kept = written_load m.memory (ThreadWord (block_of m.layout y)) (ThreadWord t)
keeping_word m t a _ kept = cc

keeping_hand : (d : Duty) (rest : List Duty) (x : ℕ) → finalises_none d ≡ true
    → finalised (d ∷ rest) x ≡ finalised rest x
keeping_hand (Die y) rest x kept = absurd cc
keeping_hand _ rest x kept = cc

-- ---- no row begins to die

keeping_lives : (e : Duty) → finalises_none e ≡ true → dies_next (e ∷ []) ≡ None
keeping_lives (Die x) kept = absurd cc
keeping_lives _ kept = refl

-- What the step of a steady duty that makes no row die has to show: the new agenda fits.
pub record SteadyStep (m : Machine) (t : ℕ) (a : Actor) (d : Duty) (rest next agenda : List Duty) : Type 0 where
  pub next_is : next_of m t a d ≡ next
  pub none_dies : dies_next next ≡ None
  pub agenda_is : ready a.head (next ++ rest) ≡ agenda
  pub hands : (x : ℕ) → finalised agenda x ≡ finalised (d ∷ rest) x
  pub held : HeldStep m.abstract.references (bag_by m t a d) t (d ∷ rest) agenda
  pub fits : Agenda a.used a.status agenda
  pub knows : (b : Actor) → b.status ≡ a.status → b.head ≡ a.head → b.used ≡ a.used
      → b.locked ≡ locked_by a.locked d (found_by m t a d) → HeadOf (machine_by_duty m t a d rest) t b agenda

module _ {p : Accounts} {n : ℕ} {m : Machine} {t : ℕ} {a : Actor} {d : Duty} {rest : List Duty} where
  -- The thread fits after the step of a steady duty that makes no row die.
  pub own_steady : (next agenda : List Duty) → AtDuty p n m t a d rest → NotGone a → is_steady d ≡ true
      → SteadyStep m t a d rest next agenda → FitsAfter p m t a d rest
  own_steady next agenda here alive steady step =
      let old = (here.core.each t a here.found).0 in
      let new = machine_by_duty m t a d rest in
      let born = keeping_born d steady in
      let same_head = keeping_head a.head (found_by m t a d) d steady in
      let whole : (actor_by m.layout t a d rest (found_by m t a d)).agenda ≡ agenda =
      ap (λ (h : ℕ). ready h (next_of m t a d ++ rest)) same_head
      ∙ ap (λ (l : List Duty). ready a.head (l ++ rest)) step.next_is ∙ step.agenda_is in
      let same : ChainSame m new t a.agenda agenda = record {
        gates = λ x dies. keeping_gates d x here steady dies;
        hands = λ x.
            let hands : finalised agenda x ≡ finalised a.agenda x =
            step.hands x ∙ ap (λ (l : List Duty). finalised l x) (sym here.agenda) in
            let life : one_if (dies_by (new.life x) t) ≡ one_if (dies_by (m.life x) t) =
            ap (λ (l : Life). one_if (dies_by l t))
            (life_same m t a d next x step.next_is step.none_dies (keeping_ends d steady) born) in
            omega (arith, hands, life);
      } in
      own_shown agenda a.status a.head here (record {
        head_is = same_head;
        status_is = keeping_status a.status d steady;
        agenda_is = whole;
        word = keeping_word m t a d steady ∙ old.word;
        held = step.held;
        chain = chain_same m new t a.head a.agenda agenda same old.chain;
        fits = agenda_shown m t a d rest agenda a.status alive born whole step.fits;
        knows = λ b status head used locked. step.knows b status head (used ∙ uses_same a.used d born) locked;
      })

  -- If nothing follows the duty, the agenda goes on with the duties after it.
  pub own_done : AtDuty p n m t a d rest → NotGone a → keeps_lives d ≡ true → next_of m t a d ≡ []
      → Later a.used a.status rest → HeldStep m.abstract.references (bag_by m t a d) t (d ∷ rest) []
      → FitsAfter p m t a d rest
  own_done here alive kept next later moves =
      let then = ready_is m.layout t a.used a.status a.head rest later in
      own_steady [] (ready a.head rest) here alive (and_first (is_steady d) (finalises_none d) kept) (record {
        next_is = next;
        none_dies = refl;
        agenda_is = refl;
        hands = λ x. then.hands x ∙ sym (keeping_hand d rest x (and_second (is_steady d) (finalises_none d) kept));
        held = record {
          each = λ k object.
              let more : one_if (extra_of (ready a.head rest) k object) ≡ 0 = ap one_if (then.more k object) in
              let less : one_if (lacks_of (ready a.head rest) k object) ≡ 0 = ap one_if (then.less k object) in
              omega (arith, moves.each k object, more, less);
        };
        fits = then.fits;
        knows = λ b status head used locked. then.knows (machine_by_duty m t a d rest) b head (still_behind here);
      })

  -- If one duty follows, it is the first of the new agenda.
  pub own_next : (e : Duty) → AtDuty p n m t a d rest → NotGone a → keeps_lives d ≡ true → finalises_none e ≡ true
      → is_inner e ≡ true → next_of m t a d ≡ e ∷ []
      → HeldStep m.abstract.references (bag_by m t a d) t (d ∷ rest) (e ∷ rest) → Agenda a.used a.status (e ∷ rest)
      → ((b : Actor) → b.status ≡ a.status → b.head ≡ a.head → b.used ≡ a.used
      → b.locked ≡ locked_by a.locked d (found_by m t a d) → HeadFits (machine_by_duty m t a d rest) t b e rest)
      → FitsAfter p m t a d rest
  own_next e here alive kept other stays next moves fits knows =
      own_steady (e ∷ []) (e ∷ rest) here alive (and_first (is_steady d) (finalises_none d) kept) (record {
        next_is = next;
        none_dies = keeping_lives e other;
        agenda_is = ready_first a.head e rest stays;
        hands = λ x. keeping_hand e rest x other
            ∙ sym (keeping_hand d rest x (and_second (is_steady d) (finalises_none d) kept));
        held = moves;
        fits = fits;
        knows = knows;
      })

-- ---- a row begins to die

-- What a step that makes its row die has to show.
pub record DyingStep (m : Machine) (t : ℕ) (a : Actor) (d : Duty) (rest : List Duty) (x : ℕ) : Type 0 where
  pub next_is : next_of m t a d ≡ Die x ∷ []
  pub counted : IsCounted m.layout x
  pub lived : m.life x ≡ Live
  pub held : HeldStep m.abstract.references (bag_by m t a d) t (d ∷ rest) (Die x ∷ rest)
  pub later : Later a.used a.status rest

dying_life : (m : Machine) (t : ℕ) (a : Actor) (d : Duty) (x y : ℕ) → next_of m t a d ≡ Die x ∷ [] → ended_row d ≡ None
    → born_row d ≡ None → life_by m.life t d (next_of m t a d) y ≡ cond (x == y) (Dying t) (m.life y)
dying_life m t a d x y is ends born =
    ap (λ (l : List Duty). with_life (with_life (with_life m.life (dies_next l) (Dying t)) (ended_row d) Closed)
    (born_row d) Live y) is
    ∙ ap (λ (o : Option ℕ). with_life (with_life (with_life m.life (Some x) (Dying t)) o Closed) (born_row d) Live y)
    ends ∙ ap (λ (o : Option ℕ). with_life (with_life m.life (Some x) (Dying t)) o Live y) born

-- The row that begins to die is the one that the thread finalises next. It wasn't dying before.
dying_hands : (life : ℕ → Life) (t x y : ℕ) → life x ≡ Live
    → one_if (x == y) + one_if (dies_by (life y) t) ≡ one_if (dies_by (cond (x == y) (Dying t) (life y)) t)
dying_hands life t x y lived =
    elim (eqb_tells x y) [
      | inl same ↦
          let hand : one_if (x == y) ≡ 1 = ap one_if same.0 in
          let before : one_if (dies_by (life y) t) ≡ 0 =
          ap (λ (l : Life). one_if (dies_by l t)) (ap life (sym same.1) ∙ lived) in
          let after : one_if (dies_by (cond (x == y) (Dying t) (life y)) t) ≡ 1 =
          ap (λ (b : Bool). one_if (dies_by (cond b (Dying t) (life y)) t)) same.0 ∙ ap one_if (eq-eqb t t refl) in
          omega (arith, hand, before, after)
      | inr other ↦
          let hand : one_if (x == y) ≡ 0 = ap one_if other.0 in
          let after : one_if (dies_by (cond (x == y) (Dying t) (life y)) t) ≡ one_if (dies_by (life y) t) =
          ap (λ (b : Bool). one_if (dies_by (cond b (Dying t) (life y)) t)) other.0 in
          omega (arith, hand, after)
    ]

module _ {p : Accounts} {n : ℕ} {m : Machine} {t : ℕ} {a : Actor} {d : Duty} {rest : List Duty} where
  -- A row that begins to die isn't locked: who has locked it still holds it, and a dying row has no reference.
  dying_unlocked : (x : ℕ) → AtDuty p n m t a d rest → NotGone a → IsCounted m.layout x
      → (machine_by_duty m t a d rest).life x ≡ Dying t
      → HoldsAt (machine_by_duty m t a d rest).abstract.references t (p t) (Die x ∷ rest) a.aside → (u : ℕ) (b : Actor)
      → slice_get m.actors u ≡ Some b → b.locked ≡ Some x → ⊥
  dying_unlocked x here alive counted dies holds u b found e =
      let new = machine_by_duty m t a d rest in
      let row : IsDead (numbers_of new x) =
      subst (λ (l : Life). RowInvariant (block_of m.layout x) l (numbers_of new x)) dies
      (rows_after t a d rest here.core here.found here.agenda alive x counted) in
      elim (eqb_tells u t) [
        | inl same ↦
            let this : b ≡ a = some_is b a (sym found ∙ ap (slice_get m.actors) same.1 ∙ here.found) in
            let it = (here.core.each t a here.found).0.locks x (ap (λ (c : Actor). c.locked) (sym this) ∙ e) in
            absurd (omega (
              arith,
              holds.each it.by x,
              it.held_so,
              held-le-references_to (reference_of t it.by x) new.abstract.references,
              row.references,
            ))
        | inr other ↦
            let fits = (here.core.each u b found).0 in
            let it = fits.locks x e in
            absurd (omega (
              arith,
              locked_held m.abstract.references u (p u) b it.by x fits.holds it.held_so,
              moves_apart m.memory m.abstract u t it.by x d (found_by m t a d) other.1,
              held-le-references_to (reference_of u it.by x) new.abstract.references,
              row.references,
            ))
      ]

  -- So its gate is free.
  dying_free : (x : ℕ) → AtDuty p n m t a d rest → NotGone a → DyingStep m t a d rest x
      → (machine_by_duty m t a d rest).life x ≡ Dying t
      → HoldsAt (machine_by_duty m t a d rest).abstract.references t (p t) (Die x ∷ rest) a.aside
      → m.memory (Gate x) ≡ free_word
  dying_free x here alive step dies holds =
      let live : LiveGate m.actors x (m.memory (Gate x)) =
      subst (λ (l : Life). GateFits m.actors x l (m.memory (Gate x))) step.lived (here.core.gates x) in
      elim live [
        | IsFree free ↦ free
        | IsLocked u b found e gate ↦ absurd (dying_unlocked x here alive step.counted dies holds u b found e)
      ]

  -- The thread fits after a step that keeps lives and makes its row die.
  pub own_dying : (x : ℕ) → AtDuty p n m t a d rest → NotGone a → keeps_lives d ≡ true → DyingStep m t a d rest x
      → FitsAfter p m t a d rest
  own_dying x here alive kept step =
      let old = (here.core.each t a here.found).0 in
      let new = machine_by_duty m t a d rest in
      let agenda : List Duty = Die x ∷ rest in
      let steady = and_first (is_steady d) (finalises_none d) kept in
      let same_head = keeping_head a.head (found_by m t a d) d steady in
      let whole : (actor_by m.layout t a d rest (found_by m t a d)).agenda ≡ agenda =
      ap (λ (h : ℕ). ready h (next_of m t a d ++ rest)) same_head
      ∙ ap (λ (l : List Duty). ready a.head (l ++ rest)) step.next_is ∙ ready_first a.head (Die x) rest refl in
      let life = λ (y : ℕ). dying_life m t a d x y step.next_is (keeping_ends d steady) (keeping_born d steady) in
      let holds : HoldsAt new.abstract.references t (p t) agenda a.aside =
      holds_step m.abstract.references new.abstract.references t (p t) (d ∷ rest) agenda a.aside step.held
      (subst (λ (l : List Duty). HoldsAt m.abstract.references t (p t) l a.aside) here.agenda old.holds) in
      let same : ChainSame m new t a.agenda agenda = record {
        gates = λ y dies. dying_gates m t a d x y steady step.next_is;
        hands = λ y.
            let before : finalised a.agenda y ≡ finalised rest y =
            ap (λ (l : List Duty). finalised l y) here.agenda
            ∙ keeping_hand d rest y (and_second (is_steady d) (finalises_none d) kept) in
            let now : one_if (dies_by (new.life y) t) ≡ one_if (dies_by (cond (x == y) (Dying t) (m.life y)) t) =
            ap (λ (l : Life). one_if (dies_by l t)) (life y) in
            omega (arith, before, now, finalised_first (Die x) rest y, dying_hands m.life t x y step.lived);
      } in
      let dies : new.life x ≡ Dying t = life x ∙ ap (λ (b : Bool). cond b (Dying t) (m.life x)) (eq-eqb x x refl) in
      own_shown agenda a.status a.head here (record {
        head_is = same_head;
        status_is = keeping_status a.status d steady;
        agenda_is = whole;
        word = keeping_word m t a d steady ∙ old.word;
        held = step.held;
        chain = chain_same m new t a.head a.agenda agenda same old.chain;
        fits = agenda_shown m t a d rest agenda a.status alive (keeping_born d steady) whole step.later;
        knows = λ b status head used locked. (
          step.counted,
          dies,
          dying_gates m t a d x x steady step.next_is ∙ dying_free x here alive step dies holds,
        );
      })
