-- A thread fits after its own steps of an exit: it says that it leaves, looks through its rows' marks, and says that it
-- is gone.
use Rattle.std.proofs.Common.{◌≡◌, ℕ, ◌+◌, ◌-◌, ◌*◌, Bool, true, false, cond, List, [], ◌∷◌, ◌++◌, inl, inr, None, refl, ap, ◌∙◌, subst, arith, ◌≢◌}
use Rattle.std.specs.Prelude.{◌==◌}
use Rattle.std.proofs.lemmas.Bool.{eqb-true}
use Rattle.brc_word.specs.declared.values.TheConstants.{SET}
use Rattle.brc_word.specs.Words.{marks_of_word, unmarked_word, lowest_mark, first_marks}
use Rattle.brc_model.specs.declared.duty.Holding.{Holding}
use Rattle.brc_model.specs.declared.duty.Reason.TheVariants.{Handed}
use Rattle.brc_model.specs.declared.duty.Duty.{Duty}
use Rattle.brc_model.specs.declared.duty.Duty.TheVariants.{MergeSwap, Settle, Leave, Scan, TakeFound, Finish, ClaimMark}
use Rattle.brc_model.specs.declared.address.Address.TheVariants.{Gate, ThreadWord}
use Rattle.brc_model.specs.Duties.{found_row, claimed, ready}
use Rattle.brc_model.specs.declared.actor.Status.TheVariants.{Leaving, Gone}
use Rattle.brc_model.specs.declared.actor.Actor.{Actor}
use Rattle.brc_model.specs.Machine.{Life, Machine, dies_next, machine_by_duty, Unborn, mark_of}
use Rattle.brc_model.specs.References.{one_if}
use Rattle.brc_model.specs.Accounts.{Accounts, extra_of, lacks_of}
use Rattle.brc_model.specs.Knowledge.{AllBehind}
use Rattle.brc_model.specs.OpenWork.{Later, finalised, dies_by, ChainFits}
use Rattle.brc_model.specs.Invariant.{AtDuty, numbers_of, CoreInvariant}
use Rattle.brc_model.specs.RowInvariant.{RowInvariant}
use Rattle.brc_model.proofs.Basics.Written.{written_here}
use Rattle.brc_model.proofs.Frame.Leaves.{head_of}
use Rattle.brc_model.proofs.Frame.Lives.{next_of}
use Rattle.brc_model.proofs.Stepping.Behind.{still_behind}
use Rattle.brc_model.proofs.Stepping.Own.{HeldStep, ready_is, chain_same, ready_first}
use Rattle.brc_model.proofs.Stepping.FitsAfter.{found_by, bag_by, memory_by, agenda_here, NotGone, FitsAfter}
use Rattle.brc_model.proofs.Stepping.Counts.{held_same}
use Rattle.brc_model.proofs.Stepping.Shown.{own_shown, agenda_shown}
use Rattle.brc_model.proofs.Stepping.Chains.{chain_here}
use Rattle.brc_model.proofs.Basics.Blocks.{used_block}
use Rattle.brc_model.proofs.Basics.FoundMarks.{found_used, lowest_used, taken_used}
use Rattle.brc_model.proofs.Stepping.Settled.{ready_none}
use Rattle.brc_model.specs.Layout.{block_of, IsCounted}
use Rattle.brc_model.proofs.Stepping.Steps.{own_steady, is_steady}

-- ---- marked rows

module _ {p : Accounts} {n : ℕ} {m : Machine} where
  -- A marked row is counted.
  pub mark_above : (x : ℕ) → CoreInvariant p n m → mark_of m.layout m.memory x ≡ SET → IsCounted m.layout x
  mark_above x core marked = elim (core.marks x) [
    | inl none ↦ absurd (omega (arith, none, marked))
    | inr some ↦ some.1
  ]

  -- A marked row was born.
  pub marked_born : (x : ℕ) → CoreInvariant p n m → mark_of m.layout m.memory x ≡ SET → m.life x ≢ Unborn
  marked_born x core marked = λ unborn.
      let row =
      subst (λ (l : Life). RowInvariant (block_of m.layout x) l (numbers_of m x)) unborn
      (core.rows x (mark_above x core marked)) in
      absurd (omega (arith, row.mark, marked))

-- ---- claiming a mark

-- What `TakeFound` and `ClaimMark` have in common. `behind` are the duties that follow whether or not the mark was set.
record ClaimStep (m : Machine) (t : ℕ) (a : Actor) (d : Duty) (x : ℕ) (rest behind : List Duty) : Type 0 where
  next_is : next_of m t a d ≡ claimed x (mark_of m.layout m.memory x) ++ behind
  none_dies : dies_next behind ≡ None
  hands : (y : ℕ) → finalised (behind ++ rest) y ≡ finalised (d ∷ rest) y
  held : (agenda : List Duty) → ((h : Holding) (object : ℕ) → extra_of agenda h object ≡ false)
      → ((h : Holding) (object : ℕ) → lacks_of agenda h object ≡ false)
      → HeldStep m.abstract.references (bag_by m t a d) t (d ∷ rest) agenda
  block : mark_of m.layout m.memory x ≡ SET → block_of m.layout x ≡ t
  later : Later a.used a.status (behind ++ rest)
  knows : (new : Machine) → AllBehind new t rest → AllBehind new t (behind ++ rest)

module _ {p : Accounts} {n : ℕ} {m : Machine} {t : ℕ} {a : Actor} {d : Duty} {rest : List Duty} where
  claim_step : (x : ℕ) (behind : List Duty) → AtDuty p n m t a d rest → NotGone a → is_steady d ≡ true
      → ClaimStep m t a d x rest behind → FitsAfter p m t a d rest
  claim_step x behind here alive steady step =
      elim (mark_of m.layout m.memory x == SET) as (λ b. (mark_of m.layout m.memory x == SET) ≡ b
      → FitsAfter p m t a d rest) [
        | true ↦ λ e.
            let marked : mark_of m.layout m.memory x ≡ SET = eqb-true (mark_of m.layout m.memory x) 1 e in
            let above = mark_above x here.core marked in
            own_steady (MergeSwap x Handed ∷ behind) (MergeSwap x Handed ∷ (behind ++ rest)) here alive steady (record {
              next_is = step.next_is ∙ ap (λ (b : Bool). cond b (MergeSwap x Handed ∷ []) [] ++ behind) e;
              none_dies = refl;
              agenda_is = ready_first a.head (MergeSwap x Handed) (behind ++ rest) refl;
              hands = step.hands;
              held = step.held (MergeSwap x Handed ∷ (behind ++ rest)) (λ h o. refl) (λ h o. refl);
              fits = step.later;
              knows = λ b status head used locked. (above, inl (step.block marked));
            })
        | false ↦ λ e.
            let ready_so = ready_is m.layout t a.used a.status a.head (behind ++ rest) step.later in
            own_steady behind (ready a.head (behind ++ rest)) here alive steady (record {
              next_is = step.next_is ∙ ap (λ (b : Bool). cond b (MergeSwap x Handed ∷ []) [] ++ behind) e;
              none_dies = step.none_dies;
              agenda_is = refl;
              hands = λ y. ready_so.hands y ∙ step.hands y;
              held = step.held (ready a.head (behind ++ rest)) ready_so.more ready_so.less;
              fits = ready_so.fits;
              knows =
                  λ b status head used locked. ready_so.knows (machine_by_duty m t a d rest) b head
                  (step.knows (machine_by_duty m t a d rest) (still_behind here));
            })
      ] refl

module _ {p : Accounts} {n : ℕ} {m : Machine} {t : ℕ} {a : Actor} {rest : List Duty} where
  -- The thread fits after `MarksRead`: the marks that it has found are of rows that it has used.
  pub thread_after_scan : (w k : ℕ) → AtDuty p n m t a (Scan w k) rest → NotGone a → FitsAfter p m t a (Scan w k) rest
  thread_after_scan w k here alive =
      let fits = agenda_here here alive in
      let marks = first_marks (found_by m t a (Scan w k)) k in
      let next : List Duty = TakeFound w marks ∷ Scan (w + 1) (k - marks_of_word) ∷ [] in
      let later : Later a.used a.status (next ++ rest) = (
        fits.0,
        found_used (found_by m t a (Scan w k)) a.used w k fits.1,
        (fits.0, omega (arith, fits.1), fits.2),
      ) in
      let ready_so = ready_is m.layout t a.used a.status a.head (next ++ rest) later in
      own_steady next (ready a.head (next ++ rest)) here alive refl (record {
        next_is = refl;
        none_dies = refl;
        agenda_is = refl;
        hands = λ y. ready_so.hands y;
        held =
            held_same m.abstract.references t (Scan w k ∷ rest) (ready a.head (next ++ rest)) ready_so.more
            ready_so.less;
        fits = ready_so.fits;
        knows =
            λ b status head used locked. ready_so.knows (machine_by_duty m t a (Scan w k) rest) b head
            (tt, (tt, still_behind here));
      })

  -- The thread fits after `FoundMarkTaken` and `FoundMarkGone`.
  pub thread_after_take : (w marks : ℕ) → AtDuty p n m t a (TakeFound w marks) rest → NotGone a
      → FitsAfter p m t a (TakeFound w marks) rest
  thread_after_take w marks here alive =
      let some = head_of here in
      let fits = agenda_here here alive in
      let x = found_row m.layout t w marks in
      claim_step x (Settle ∷ TakeFound w (unmarked_word marks (lowest_mark marks)) ∷ []) here alive refl (record {
        next_is = refl;
        none_dies = refl;
        hands = λ y. refl;
        held = λ agenda more less. held_same m.abstract.references t (TakeFound w marks ∷ rest) agenda more less;
        block =
            λ marked. used_block t a (marks_of_word * w + lowest_mark marks) here.core here.found
            (lowest_used marks a.used w some fits.1);
        later = (fits.0, taken_used marks a.used w fits.1, fits.2);
        knows = λ new all. (tt, (tt, all));
      })

  -- `MarkClaimed` and `NothingToClaim`: a running thread looks into its queue.
  pub thread_after_claim_mark : (x : ℕ) → AtDuty p n m t a (ClaimMark x) rest → NotGone a
      → FitsAfter p m t a (ClaimMark x) rest
  thread_after_claim_mark x here alive =
      claim_step x (Settle ∷ []) here alive refl (record {
        next_is = refl;
        none_dies = refl;
        hands = λ y. refl;
        held = λ agenda more less. held_same m.abstract.references t (ClaimMark x ∷ rest) agenda more less;
        block = λ marked. head_of here;
        later = agenda_here here alive;
        knows = λ new all. (tt, all);
      })

-- ---- the thread says that it leaves

module _ {p : Accounts} {n : ℕ} {m : Machine} {t : ℕ} {a : Actor} {d : Duty} {rest : List Duty} where
  -- The chain fits after a step that changes no gate and no life, if the duties finalise what they did before.
  exit_chain : (agenda : List Duty) → AtDuty p n m t a d rest
      → ((y : ℕ) → memory_by m t a d (Gate y) ≡ m.memory (Gate y))
      → ((y : ℕ) → (machine_by_duty m t a d rest).life y ≡ m.life y)
      → ((y : ℕ) → finalised agenda y ≡ finalised (d ∷ rest) y)
      → ChainFits (machine_by_duty m t a d rest) t a.head agenda
  exit_chain agenda here gates lives hands =
      chain_same m (machine_by_duty m t a d rest) t a.head (d ∷ rest) agenda (record {
        gates = λ y dies. gates y;
        hands = λ y.
            let life : one_if (dies_by ((machine_by_duty m t a d rest).life y) t) ≡ one_if (dies_by (m.life y) t) =
            ap (λ (l : Life). one_if (dies_by l t)) (lives y) in
            omega (arith, hands y, life);
      }) (chain_here here)

-- The thread fits after `SaysLeaving`.
pub thread_after_leave : (p : Accounts) (n : ℕ) (m : Machine) (t : ℕ) (a : Actor) (x k : ℕ) (rest : List Duty)
    → AtDuty p n m t a (Leave x k) rest → NotGone a → FitsAfter p m t a (Leave x k) rest
thread_after_leave p n m t a x k [] here alive =
    let fits = agenda_here here alive in
    let looks : List Duty = Scan x k ∷ Finish ∷ [] in
    let ready_so = ready_is m.layout t a.used Leaving a.head looks (refl, omega (arith, fits.1, fits.2), refl) in
    own_shown (ready a.head looks) Leaving a.head here (record {
      head_is = refl;
      status_is = refl;
      agenda_is = refl;
      word = written_here m.memory (ThreadWord t) 2;
      held = held_same m.abstract.references t (Leave x k ∷ []) (ready a.head looks) ready_so.more ready_so.less;
      chain = exit_chain (ready a.head looks) here (λ y. refl) (λ y. refl) ready_so.hands;
      fits = agenda_shown m t a (Leave x k) [] (ready a.head looks) Leaving (λ e. cc) refl refl ready_so.fits;
      knows = λ b status head used locked. ready_so.knows (machine_by_duty m t a (Leave x k) []) b head (tt, (tt, tt));
    })
thread_after_leave p n m t a x k (e ∷ rest) here alive = absurd (agenda_here here alive)

-- ---- the thread says that it is gone

-- `SaysGone`: the thread's chain is empty by `IsSettled`, since a thread settles before it leaves and after each mark.
pub thread_after_finish : (p : Accounts) (n : ℕ) (m : Machine) (t : ℕ) (a : Actor) (rest : List Duty)
    → AtDuty p n m t a Finish rest → NotGone a → (empty : a.head ≡ 0) → FitsAfter p m t a Finish rest
thread_after_finish p n m t a [] here alive empty =
    own_shown [] Gone a.head here (record {
      head_is = refl;
      status_is = refl;
      agenda_is = ready_none a.head;
      word = written_here m.memory (ThreadWord t) 3;
      held = held_same m.abstract.references t (Finish ∷ []) [] (λ k o. refl) (λ k o. refl);
      chain = exit_chain [] here (λ y. refl) (λ y. refl) (λ y. refl);
      fits = (ready_none a.head, empty);
      knows = λ b status head used locked. tt;
    })
thread_after_finish p n m t a (e ∷ rest) here alive empty = absurd (agenda_here here alive)
