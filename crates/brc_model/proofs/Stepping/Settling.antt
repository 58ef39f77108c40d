-- A thread fits after its own steps on the row that it is finalising: it reads the row's kind, and empties its cells or
-- closes its resource.
use Rattle.std.proofs.Common.{◌≡◌, ℕ, zero, suc, ◌+◌, Bool, true, false, cond, List, [], ◌∷◌, ◌++◌, inl, inr, None, refl, sym, ap, ◌∙◌, subst, arith, Option}
use Rattle.std.specs.Prelude.{◌==◌, ◌&&◌, ◌||◌, nat_lt}
use Rattle.std.proofs.lemmas.Bool.{ltb-true, ltb-false, ne_eqb, false≢true, eq-eqb}
use Rattle.brc_model.specs.declared.duty.Holding.{Holding}
use Rattle.brc_model.specs.declared.duty.Holding.TheVariants.{InFlight}
use Rattle.brc_model.specs.declared.duty.Duty.{Duty}
use Rattle.brc_model.specs.declared.duty.Duty.TheVariants.{ReleaseLoad, SettleKind, SettleCell, SettleEnd, TakeField, CloseResource, Leave, Scan, TakeFound, Finish, Settle}
use Rattle.brc_model.specs.declared.address.Address.TheVariants.{Gate, KindOf, Cell}
use Rattle.brc_model.specs.Duties.{cells_of, cells_from, release_found, has_resource, resources_of}
use Rattle.brc_model.specs.declared.actor.Status.{Status}
use Rattle.brc_model.specs.declared.actor.Actor.{Actor}
use Rattle.brc_model.specs.Machine.{Dying, Machine, machine_by_duty, dies_next, Life}
use Rattle.brc_model.specs.Moves.{take_out}
use Rattle.brc_model.specs.AbstractState.{Reference, same_holding, same, without, moved}
use Rattle.brc_model.specs.References.{one_if, reference_of, cell_reference}
use Rattle.brc_word.specs.Words.{kind_part, argument_part}
use Rattle.brc_model.specs.Accounts.{Accounts, extra_of, lacks_of, extra, lacks}
use Rattle.brc_model.specs.OpenWork.{Later, Agenda, finalised, is_finalising, dies_by}
use Rattle.brc_model.specs.Knowledge.{IsDyingWord, IsEmptyBut, HeadFits}
use Rattle.brc_model.proofs.Basics.Written.{written_load}
use Rattle.brc_model.proofs.Frame.Leaves.{head_of}
use Rattle.brc_model.proofs.Frame.Lives.{next_of}
use Rattle.brc_model.proofs.Stepping.Own.{HeldStep, ready_first}
use Rattle.brc_model.proofs.Stepping.FitsAfter.{bag_by, agenda_here, life_same, NotGone, FitsAfter}
use Rattle.brc_model.proofs.Stepping.Counts.{same_is, held_same}
use Rattle.brc_model.proofs.Basics.Bag.{held-cons}
use Rattle.brc_model.proofs.Basics.MovesApart.{held-without_apart}
use Rattle.brc_model.proofs.Frame.Cells.{one_emptied, all_emptied}
use Rattle.brc_model.proofs.Basics.Continuation.{is_inner}
use Rattle.brc_model.specs.Invariant.{AtDuty}
use Rattle.brc_model.specs.Layout.{IsCounted}
use Rattle.brc_model.proofs.Stepping.Steps.{own_steady, is_steady, keeping_ends, keeping_born, keeping_gates}

-- ---- the duties that follow a step

-- What the steps between `Settle` and `SettleEnd` have in common: the row is dying by this thread.
record SettlingStep (m : Machine) (t : ℕ) (a : Actor) (d : Duty) (x : ℕ) (rest : List Duty) : Type 0 where
  above : IsCounted m.layout x
  dies : m.life x ≡ Dying t
  gate : IsDyingWord t (m.memory (Gate x))
  steady : is_steady d ≡ true
  hands : (y : ℕ) → (x == y) ≡ is_finalising d y
  held : (e : Duty) → ((h : Holding) (object : ℕ) → extra_of (e ∷ rest) h object ≡ false)
      → ((h : Holding) (object : ℕ) → lacks_of (e ∷ rest) h object ≡ false)
      → HeldStep m.abstract.references (bag_by m t a d) t (d ∷ rest) (e ∷ rest)
  later : Later a.used a.status rest

-- The row that a duty finalises, the row that dies by it, whether it works on one object, and the references that it
-- makes and gives up.
record Hand : Type 0 where
  finalises : ℕ → Bool
  dying : Option ℕ
  inner : Bool
  makes : Holding → ℕ → Bool
  gives_up : Holding → ℕ → Bool

abbrev hand_of : Duty → Hand
hand_of d = record {
  finalises = is_finalising d;
  dying = dies_next (d ∷ []);
  inner = is_inner d;
  makes = lacks d;
  gives_up = extra d;
}

-- The duty is one more step on the row that the thread is finalising.
abbrev KeepsHand : Duty → ℕ → Type 0
KeepsHand e x =
    hand_of e ≡ record {
      finalises = λ y. x == y;
      dying = None;
      inner = true;
      makes = λ h o. false;
      gives_up = λ h o. false;
    }

-- A duty that works on one object may come before any duties that are for later.
agenda_from : (e : Duty) (used : ℕ) (status : Status) (rest : List Duty) → is_inner e ≡ true → Later used status rest
    → Agenda used status (e ∷ rest)
agenda_from Settle used status rest inner later = absurd cc
agenda_from (Leave i k) used status rest inner later = absurd cc
agenda_from (Scan i k) used status rest inner later = absurd cc
agenda_from (TakeFound w k) used status rest inner later = absurd cc
agenda_from Finish used status rest inner later = absurd cc
agenda_from _ used status rest inner later = later

module _ {p : Accounts} {n : ℕ} {m : Machine} {t : ℕ} {a : Actor} {d : Duty} {rest : List Duty} where
  settles_on : (e : Duty) (x : ℕ) → AtDuty p n m t a d rest → NotGone a → SettlingStep m t a d x rest → KeepsHand e x
      → next_of m t a d ≡ e ∷ []
      → ((machine_by_duty m t a d rest).life x ≡ Dying t
      → IsDyingWord t ((machine_by_duty m t a d rest).memory (Gate x)) → (b : Actor)
      → HeadFits (machine_by_duty m t a d rest) t b e rest) → FitsAfter p m t a d rest
  settles_on e x here alive step keeps next knows =
      let dying : dies_next (e ∷ []) ≡ None = ap (λ (k : Hand). k.dying) keeps in
      let inner : is_inner e ≡ true = ap (λ (k : Hand). k.inner) keeps in
      let own : dies_by (m.life x) t ≡ true = ap (λ (l : Life). dies_by l t) step.dies ∙ eq-eqb t t refl in
      own_steady (e ∷ []) (e ∷ rest) here alive step.steady (record {
        next_is = next;
        none_dies = dying;
        agenda_is = ready_first a.head e rest inner;
        hands = λ y. ap (λ (b : Bool). cond b (1 + finalised rest y) (finalised rest y))
            (ap (λ (k : Hand). k.finalises y) keeps ∙ step.hands y);
        held = step.held e (λ h o. ap (λ (k : Hand). k.gives_up h o) keeps)
            (λ h o. ap (λ (k : Hand). k.makes h o) keeps);
        fits = agenda_from e a.used a.status rest inner step.later;
        knows =
            λ b status head used locked. knows
            (life_same m t a d (e ∷ []) x next dying (keeping_ends d step.steady) (keeping_born d step.steady)
            ∙ step.dies)
            (subst (IsDyingWord t) (sym (keeping_gates d x here step.steady own)) step.gate) b;
      })

  -- The next cell follows, or the row's closing if no cell is left.
  cells_step : (x i k : ℕ) → AtDuty p n m t a d rest → NotGone a → SettlingStep m t a d x rest
      → next_of m t a d ≡ cells_from x i k → IsEmptyBut (machine_by_duty m t a d rest).memory x i k
      → resources_of ((machine_by_duty m t a d rest).memory (KindOf x)) ≡ 0 → FitsAfter p m t a d rest
  cells_step x i k here alive step next_is empty no_resource =
      elim (nat_lt i k) as (λ b. nat_lt i k ≡ b → FitsAfter p m t a d rest) [
        | true ↦ λ e.
            let next : next_of m t a d ≡ SettleCell x i k ∷ [] =
            next_is ∙ ap (λ (b : Bool). cond b (SettleCell x i k ∷ []) (SettleEnd x ∷ [])) e in
            settles_on (SettleCell x i k) x here alive step refl next
            (λ dies gate b. (step.above, dies, ltb-true i k e, gate, empty, no_resource))
        | false ↦ λ e.
            let next : next_of m t a d ≡ SettleEnd x ∷ [] =
            next_is ∙ ap (λ (b : Bool). cond b (SettleCell x i k ∷ []) (SettleEnd x ∷ [])) e in
            let none = all_emptied (machine_by_duty m t a d rest).memory x i k (ltb-false i k e) empty in
            settles_on (SettleEnd x) x here alive step refl next
            (λ dies gate b. (step.above, dies, gate, none))
      ] refl

-- ---- the row's kind

-- A file or a socket has no cells.
resource_cells : (word : ℕ) → has_resource word ≡ true → cells_of word ≡ 0
resource_cells word resource =
    ap (λ (b : Bool). cond b (argument_part word) 0) (ne_eqb (kind_part word) 3 (λ list.
    let none : has_resource word ≡ false = ap (λ (k : ℕ). (k == 4) || (k == 5)) list in
    absurd (false≢true (sym none ∙ resource))))

module _ {p : Accounts} {n : ℕ} {m : Machine} {t : ℕ} {a : Actor} {rest : List Duty} where
  -- `DyingResource` and `DyingCells`: a file or a socket has a resource to close, and a list has cells to empty.
  pub thread_after_settle_kind : (x : ℕ) → AtDuty p n m t a (SettleKind x) rest → NotGone a
      → FitsAfter p m t a (SettleKind x) rest
  thread_after_settle_kind x here alive =
      let fits = head_of here in
      let word = m.memory (KindOf x) in
      let step : SettlingStep m t a (SettleKind x) x rest = record {
        above = fits.0;
        dies = fits.1;
        gate = fits.2;
        steady = refl;
        hands = λ y. refl;
        held = λ e more less. held_same m.abstract.references t (SettleKind x ∷ rest) (e ∷ rest) more less;
        later = agenda_here here alive;
      } in
      let same : resources_of ((machine_by_duty m t a (SettleKind x) rest).memory (KindOf x)) ≡ resources_of word =
      ap resources_of (written_load m.memory (KindOf x) (KindOf x)) in
      elim (has_resource word) as (λ b. has_resource word ≡ b → FitsAfter p m t a (SettleKind x) rest) [
        | true ↦
            λ e. settles_on (TakeField x) x here alive step refl
            (ap (λ (b : Bool). cond b (TakeField x ∷ []) (cells_from x 0 (cells_of word))) e) (λ dies gate b. (
              fits.0,
              dies,
              gate,
              λ j.
                  let few : cells_of word ≡ 0 = resource_cells word e in here.core.cells_end x j (omega (arith, few)),
              same ∙ ap (λ (b : Bool). cond b 1 0) e,
            ))
        | false ↦
            λ e. cells_step x 0 (cells_of word) here alive step
            (ap (λ (b : Bool). cond b (TakeField x ∷ []) (cells_from x 0 (cells_of word))) e)
            (λ j out. here.core.cells_end x j (elim out [
              | inl low ↦ absurd (omega (arith, low))
              | inr high ↦ high
            ])) (same ∙ ap (λ (b : Bool). cond b 1 0) e)
      ] refl

-- ---- the row's cells

-- The bag has the reference in flight that was a cell's.
pub held_taken_out : (bag : List Reference) (t x i y : ℕ) (agenda later : List Duty)
    → ((k : Holding) (object : ℕ) → extra_of agenda k object ≡ false)
    → ((k : Holding) (object : ℕ) → lacks_of agenda k object ≡ false)
    → ((k : Holding) (object : ℕ) → extra_of later k object ≡ (same_holding InFlight k && (y == object)))
    → ((k : Holding) (object : ℕ) → lacks_of later k object ≡ false)
    → HeldStep bag (reference_of t InFlight y ∷ without (cell_reference x i y) bag) t agenda later
held_taken_out bag t x i y agenda later no_more no_less more less = record {
  each = λ k object.
      let r = reference_of t k object in
      let gained : one_if (same r (reference_of t InFlight y)) ≡ one_if (extra_of later k object) =
      ap one_if (same_is t y InFlight k object ∙ sym (more k object)) in
      let a : one_if (extra_of agenda k object) ≡ 0 = ap one_if (no_more k object) in
      let b : one_if (lacks_of agenda k object) ≡ 0 = ap one_if (no_less k object) in
      let c : one_if (lacks_of later k object) ≡ 0 = ap one_if (less k object) in
      omega (
        arith,
        held-cons r (reference_of t InFlight y) (without (cell_reference x i y) bag),
        held-without_apart r (cell_reference x i y) bag refl,
        gained,
        a,
        b,
        c,
      );
}

-- The row that the list's next duty finalises is the same.
cells_finalise : (x i k j : ℕ) (rest : List Duty) (z : ℕ)
    → finalised (cells_from x j k ++ rest) z ≡ finalised (SettleCell x i k ∷ rest) z
cells_finalise x i k j rest z =
    elim (nat_lt j k) as
    (λ b. finalised (cond b (SettleCell x j k ∷ []) (SettleEnd x ∷ []) ++ rest) z ≡ finalised (SettleCell x i k ∷ rest)
    z) [
      | true ↦ refl
      | false ↦ refl
    ]

cells_later : (used : ℕ) (status : Status) (x j k : ℕ) (rest : List Duty) → Later used status rest
    → Later used status (cells_from x j k ++ rest)
cells_later used status x j k rest later =
    elim (nat_lt j k) as
    (λ b. Later used status (cond b (SettleCell x j k ∷ []) (SettleEnd x ∷ []) ++ rest)) [
      | true ↦ later
      | false ↦ later
    ]

module _ {p : Accounts} {n : ℕ} {m : Machine} {t : ℕ} {a : Actor} {rest : List Duty} where
  -- `CellEmptied`: what the cell held is released before the next cell is emptied.
  pub thread_after_settle_cell : (x i k : ℕ) → AtDuty p n m t a (SettleCell x i k) rest → NotGone a
      → FitsAfter p m t a (SettleCell x i k) rest
  thread_after_settle_cell x i k here alive =
      let fits = head_of here in
      let later = agenda_here here alive in
      let bag = m.abstract.references in
      elim (m.memory (Cell x i)) as (λ w. m.memory (Cell x i) ≡ w → FitsAfter p m t a (SettleCell x i k) rest) [
        | zero ↦ λ is.
            let empty : release_found (m.memory (Cell x i)) ≡ [] = ap release_found is in
            cells_step x (i + 1) k here alive (record {
              above = fits.0;
              dies = fits.1;
              gate = fits.3;
              steady = refl;
              hands = λ y. refl;
              held =
                  λ e more less. subst (λ (w : ℕ). HeldStep bag (moved m.abstract (take_out t x i w)).references t
                  (SettleCell x i k ∷ rest) (e ∷ rest)) (sym is)
                  (held_same bag t (SettleCell x i k ∷ rest) (e ∷ rest) more less);
              later = later;
            }) (ap (λ (l : List Duty). l ++ cells_from x (i + 1) k) empty) (one_emptied m.memory x i k fits.4) fits.5
        | suc y ↦ λ is.
            let next = ReleaseLoad y InFlight ∷ cells_from x (i + 1) k in
            own_steady next (next ++ rest) here alive refl (record {
              next_is = ap (λ (w : ℕ). release_found w ++ cells_from x (i + 1) k) is;
              none_dies = refl;
              agenda_is = ready_first a.head (ReleaseLoad y InFlight) (cells_from x (i + 1) k ++ rest) refl;
              hands = λ z. cells_finalise x i k (i + 1) rest z;
              held =
                  subst (λ (w : ℕ). HeldStep bag (moved m.abstract (take_out t x i w)).references t
                  (SettleCell x i k ∷ rest) (next ++ rest)) (sym is)
                  (held_taken_out bag t x i y (SettleCell x i k ∷ rest) (next ++ rest) (λ h o. refl) (λ h o. refl)
                  (λ h o. refl) (λ h o. refl));
              fits = cells_later a.used a.status x (i + 1) k rest later;
              knows = λ b status head used locked. tt;
            })
      ] refl

  -- ---- the row's resource

  -- The thread fits after `FieldEmptied`.
  pub thread_after_take_field : (x : ℕ) → AtDuty p n m t a (TakeField x) rest → NotGone a
      → FitsAfter p m t a (TakeField x) rest
  thread_after_take_field x here alive =
      let fits = head_of here in
      settles_on (CloseResource x) x here alive (record {
        above = fits.0;
        dies = fits.1;
        gate = fits.2;
        steady = refl;
        hands = λ y. refl;
        held = λ e more less. held_same m.abstract.references t (TakeField x ∷ rest) (e ∷ rest) more less;
        later = agenda_here here alive;
      }) refl refl (λ dies gate b. (fits.0, dies, gate, fits.3))

  -- The thread fits after `ResourceClosed`.
  pub thread_after_close_resource : (x : ℕ) → AtDuty p n m t a (CloseResource x) rest → NotGone a
      → FitsAfter p m t a (CloseResource x) rest
  thread_after_close_resource x here alive =
      let fits = head_of here in
      settles_on (SettleEnd x) x here alive (record {
        above = fits.0;
        dies = fits.1;
        gate = fits.2;
        steady = refl;
        hands = λ y. refl;
        held = λ e more less. held_same m.abstract.references t (CloseResource x ∷ rest) (e ∷ rest) more less;
        later = agenda_here here alive;
      }) refl refl (λ dies gate b. (fits.0, dies, gate, fits.3))
