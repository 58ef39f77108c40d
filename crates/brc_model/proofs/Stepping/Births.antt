-- A thread fits after its own steps of a birth. It gains its reference to the object with the last one.
use Rattle.std.proofs.Common.{◌≡◌, ◌≤◌, ◌<◌, ℕ, Bool, true, false, cond, List, [], ◌∷◌, inl, inr, refl, sym, ap, ◌∙◌, subst, arith}
use Rattle.std.specs.Prelude.{◌==◌}
use Rattle.std.proofs.lemmas.Bool.Decides.{eqb_tells}
use Rattle.brc_word.specs.declared.values.TheConstants.{EMPTY}
use Rattle.brc_model.specs.declared.duty.Holding.{Holding}
use Rattle.brc_model.specs.declared.duty.Duty.{Duty}
use Rattle.brc_model.specs.declared.duty.Duty.TheVariants.{BirthKind, BirthField, BirthLocal}
use Rattle.brc_model.specs.Duties.{has_resource, resources_of}
use Rattle.brc_model.specs.declared.actor.Actor.{Actor}
use Rattle.brc_model.specs.Machine.{Life, Unborn, Live, Machine, machine_by_duty, actor_by}
use Rattle.brc_model.specs.References.{one_if}
use Rattle.brc_model.specs.Accounts.{Accounts}
use Rattle.brc_model.specs.Knowledge.{IsNext, HasCountedKind}
use Rattle.brc_model.specs.OpenWork.{Agenda, dies_by}
use Rattle.brc_model.proofs.Basics.Written.{written_here}
use Rattle.brc_model.specs.declared.address.Address.TheVariants.{KindOf, Field}
use Rattle.brc_model.specs.Kinds.{kind_of_word, is_counted_kind}
use Rattle.brc_model.proofs.Basics.Blocks.{next_unborn, next_block, next_index}
use Rattle.brc_model.proofs.Objects.BlanksAfter.{blanks_here}
use Rattle.brc_model.proofs.Frame.Leaves.{head_of}
use Rattle.brc_model.proofs.Stepping.Own.{chain_same}
use Rattle.brc_model.proofs.Stepping.FitsAfter.{found_by, agenda_here, agenda_out, NotGone, FitsAfter}
use Rattle.brc_model.proofs.Stepping.Counts.{held_same, held_gained}
use Rattle.brc_model.proofs.Stepping.Shown.{own_shown}
use Rattle.brc_model.proofs.Stepping.Chains.{chain_here}
use Rattle.brc_model.proofs.Stepping.Settled.{ready_none}
use Rattle.brc_model.specs.Invariant.{AtDuty}
use Rattle.brc_model.specs.declared.layout.Layout.{Layout}
use Rattle.brc_model.specs.Layout.{block_size, row_at}
use Rattle.brc_model.proofs.Stepping.Steps.{own_next}

-- The row is still the next one of the thread's block.
still_next : (m new : Machine) (t : ℕ) (a b : Actor) (x : ℕ) → new.layout ≡ m.layout → b.status ≡ a.status
    → b.used ≡ a.used
    → IsNext m t a x → IsNext new t b x
still_next m new t a b x same status used next = record {
  running = status ∙ next.running;
  worker = next.worker;
  there = subst (λ (l : Layout). t ≤ l.workers) (sym same) next.there;
  row = next.row ∙ ap (λ (u : ℕ). row_at m.layout t u) (sym used) ∙ ap (λ (l : Layout). row_at l t b.used) (sym same);
  room = subst (λ (l : Layout). b.used < block_size l t) (sym same) (omega (arith, next.room, used));
}

module _ {p : Accounts} {n : ℕ} {m : Machine} {t : ℕ} {a : Actor} {rest : List Duty} where
  -- The thread fits after `KindOfResource` and `KindOfOther`.
  pub thread_after_birth_kind : (x : ℕ) (h : Holding) (w : ℕ) → AtDuty p n m t a (BirthKind x h w) rest → NotGone a
      → FitsAfter p m t a (BirthKind x h w) rest
  thread_after_birth_kind x h w here alive =
      let d : Duty = BirthKind x h w in
      let fits = head_of here in
      let new = machine_by_duty m t a d rest in
      let said : HasCountedKind new.memory x =
      ap (λ (v : ℕ). is_counted_kind (kind_of_word v)) (written_here m.memory (KindOf x) w) ∙ fits.2 in
      let empty : m.memory (Field x) ≡ EMPTY = (blanks_here here).fields x (next_block m t a x fits.0)
      (omega (arith, next_index m t a x fits.0)) refl in
      elim (has_resource w) as (λ b. has_resource w ≡ b → FitsAfter p m t a d rest) [
        | true ↦ λ e.
            own_next (BirthField x h) here alive refl refl refl
            (ap (λ (b : Bool). cond b (BirthField x h ∷ []) (BirthLocal x h ∷ [])) e)
            (held_same m.abstract.references t (d ∷ rest) (BirthField x h ∷ rest) (λ k o. refl) (λ k o. refl))
            (agenda_here here alive) (λ b status head used locked. (
              still_next m new t a b x refl status used fits.0,
              fits.1,
              said,
              ap resources_of (written_here m.memory (KindOf x) w) ∙ ap (λ (c : Bool). cond c 1 0) e,
            ))
        | false ↦ λ e.
            own_next (BirthLocal x h) here alive refl refl refl
            (ap (λ (b : Bool). cond b (BirthField x h ∷ []) (BirthLocal x h ∷ [])) e)
            (held_same m.abstract.references t (d ∷ rest) (BirthLocal x h ∷ rest) (λ k o. refl) (λ k o. refl))
            (agenda_here here alive) (λ b status head used locked. (
              still_next m new t a b x refl status used fits.0,
              fits.1,
              said,
              empty ∙ sym (ap resources_of (written_here m.memory (KindOf x) w) ∙ ap (λ (c : Bool). cond c 1 0) e),
            ))
      ] refl

  -- The thread fits after `FieldFilled`.
  pub thread_after_birth_field : (x : ℕ) (h : Holding) → AtDuty p n m t a (BirthField x h) rest → NotGone a
      → FitsAfter p m t a (BirthField x h) rest
  thread_after_birth_field x h here alive =
      let d : Duty = BirthField x h in
      let fits = head_of here in
      let new = machine_by_duty m t a d rest in
      own_next (BirthLocal x h) here alive refl refl refl refl
      (held_same m.abstract.references t (d ∷ rest) (BirthLocal x h ∷ rest) (λ k o. refl) (λ k o. refl))
      (agenda_here here alive) (λ b status head used locked. (
        still_next m new t a b x refl status used fits.0,
        fits.1,
        fits.2,
        written_here m.memory (Field x) 1 ∙ sym fits.3,
      ))

-- A birth doesn't change which rows the thread is finalising.
born_dies : (life : ℕ → Life) (t x y : ℕ) → life x ≡ Unborn
    → dies_by (cond (x == y) Live (life y)) t ≡ dies_by (life y) t
born_dies life t x y unborn =
    elim (eqb_tells x y) [
      | inl same ↦
          ap (λ (b : Bool). dies_by (cond b Live (life y)) t) same.0
          ∙ sym (ap (λ (l : Life). dies_by l t) (ap life (sym same.1) ∙ unborn))
      | inr other ↦ ap (λ (b : Bool). dies_by (cond b Live (life y)) t) other.0
    ]

-- `Born`: the object is born, and the thread's agenda is empty.
pub thread_after_birth_local : (p : Accounts) (n : ℕ) (m : Machine) (t : ℕ) (a : Actor) (x : ℕ) (h : Holding)
    (rest : List Duty)
    → AtDuty p n m t a (BirthLocal x h) rest → NotGone a → FitsAfter p m t a (BirthLocal x h) rest
thread_after_birth_local p n m t a x h [] here alive =
    let d : Duty = BirthLocal x h in
    let fits = head_of here in
    let later = agenda_here here alive in
    let new = machine_by_duty m t a d [] in
    let after = actor_by m.layout t a d [] (found_by m t a d) in
    own_shown [] a.status a.head here (record {
      head_is = refl;
      status_is = refl;
      agenda_is = ready_none a.head;
      word = (here.core.each t a here.found).0.word;
      held = held_gained m.abstract.references t x h (d ∷ []) [] (λ k o. refl) (λ k o. refl) (λ k o. refl)
          (λ k o. refl);
      chain = chain_same m new t a.head (d ∷ []) [] (record {
        gates = λ y dies. refl;
        hands =
            λ y. let life : one_if (dies_by (new.life y) t) ≡ one_if (dies_by (m.life y) t) =
            ap one_if (born_dies m.life t x y (next_unborn p n m t a x here.core here.found fits.0)) in omega
            (arith, life);
      }) (chain_here here);
      fits =
          agenda_out after a.status alive
          (subst (λ (l : List Duty). Agenda after.used a.status l) (sym (ready_none a.head)) later);
      knows = λ b status head used locked. tt;
    })
thread_after_birth_local p n m t a x h (e ∷ rest) here alive =
    absurd (let wrong : (e ∷ rest) ≡ [] = (head_of here).1 in cc)
