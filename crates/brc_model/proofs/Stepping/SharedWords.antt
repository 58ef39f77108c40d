-- A thread fits after its own steps of a release by the shared word.
use Rattle.std.proofs.Common.{◌≡◌, ℕ, Bool, true, false, cond, List, [], ◌∷◌, refl, sym, ap, ◌∙◌, subst}
use Rattle.std.specs.Prelude.{◌==◌}
use Rattle.brc_model.specs.declared.duty.Holding.{Holding}
use Rattle.brc_model.specs.declared.duty.Holding.TheVariants.{InFlight}
use Rattle.brc_model.specs.AbstractState.{Reference, without, moved}
use Rattle.brc_word.specs.Words.{phase_part, fresh_word, dead_word, released_word}
use Rattle.brc_model.specs.declared.duty.Reason.{Reason}
use Rattle.brc_model.specs.declared.duty.Reason.TheVariants.{Own, Handed}
use Rattle.brc_model.specs.declared.duty.Duty.{Duty}
use Rattle.brc_model.specs.declared.duty.Duty.TheVariants.{SharedLoad, SharedExchange, SetMark, Die}
use Rattle.brc_model.specs.declared.address.Address.TheVariants.{Shared}
use Rattle.brc_model.specs.Duties.{shared_result}
use Rattle.brc_model.specs.declared.actor.Actor.{Actor}
use Rattle.brc_model.specs.Machine.{Machine}
use Rattle.brc_model.specs.Moves.{lose}
use Rattle.brc_model.specs.References.{reference_of}
use Rattle.brc_model.specs.Accounts.{Accounts, extra_of, lacks_of}
use Rattle.brc_model.proofs.Basics.Written.{written_load}
use Rattle.brc_model.proofs.Frame.Leaves.{head_of, exchange_alive}
use Rattle.brc_model.proofs.Frame.Lives.{leaves_others}
use Rattle.brc_model.proofs.Stepping.Own.{HeldStep}
use Rattle.brc_model.proofs.Stepping.FitsAfter.{bag_by, agenda_here, NotGone, FitsAfter}
use Rattle.brc_model.proofs.Stepping.Counts.{held_same}
use Rattle.brc_model.proofs.Stepping.Steps.{own_done, own_next, own_dying}
use Rattle.brc_model.proofs.Stepping.Releases.{held_let_go}
use Rattle.brc_model.specs.Invariant.{AtDuty}
use Rattle.brc_model.specs.Layout.{IsCounted}

-- ---- the shared word

module _ {p : Accounts} {n : ℕ} {m : Machine} {t : ℕ} {a : Actor} {rest : List Duty} where
  -- The thread fits after `SharedRead`.
  pub thread_after_shared_load : (x : ℕ) (r : Reason) → AtDuty p n m t a (SharedLoad x r) rest → NotGone a
      → FitsAfter p m t a (SharedLoad x r) rest
  thread_after_shared_load x Own here alive =
      let d : Duty = SharedLoad x Own in
      own_next (SharedExchange x Own (m.memory (Shared x))) here alive refl refl refl refl
      (held_same m.abstract.references t (d ∷ rest) (SharedExchange x Own (m.memory (Shared x)) ∷ rest) (λ k o. refl)
      (λ k o. refl)) (agenda_here here alive) (λ b status head used locked. head_of here)
  thread_after_shared_load x Handed here alive =
      let d : Duty = SharedLoad x Handed in
      let fits = head_of here in
      own_next (SharedExchange x Handed (m.memory (Shared x))) here alive refl refl refl refl
      (held_same m.abstract.references t (d ∷ rest) (SharedExchange x Handed (m.memory (Shared x)) ∷ rest) (λ k o. refl)
      (λ k o. refl)) (agenda_here here alive)
      (λ b status head used locked. (fits.0, ap phase_part (written_load m.memory (Shared x) (Shared x)) ∙ fits.1))

exchange_next : (x w found : ℕ) (r : Reason) (fresh dead : Bool) → (found == w) ≡ true → (w == fresh_word) ≡ fresh
    → (released_word w == dead_word) ≡ dead
    → cond (found == w) (shared_result x w) (SharedLoad x r ∷ [])
    ≡ cond fresh (SetMark x ∷ []) (cond dead (Die x ∷ []) [])
exchange_next x w found r fresh dead won is_fresh is_dead =
    ap (λ (b : Bool). cond b (shared_result x w) (SharedLoad x r ∷ [])) won
    ∙ (ap (λ (b : Bool). cond b (SetMark x ∷ []) (cond (released_word w == dead_word) (Die x ∷ []) [])) is_fresh
    ∙ ap (λ (b : Bool). cond fresh (SetMark x ∷ []) (cond b (Die x ∷ []) [])) is_dead)

module _ {p : Accounts} {n : ℕ} {m : Machine} {t : ℕ} {a : Actor} {rest : List Duty} where
  -- `Queues`, `Decrements` and `DecrementsToZero`: the exchange is won, and the old word decides what follows.
  exchange_won : (x w : ℕ) (r : Reason) → AtDuty p n m t a (SharedExchange x r w) rest → NotGone a
      → IsCounted m.layout x → (m.memory (Shared x) == w) ≡ true
      → ((later : List Duty) → ((k : Holding) (object : ℕ) → extra_of later k object ≡ false)
      → ((k : Holding) (object : ℕ) → lacks_of later k object ≡ false)
      → HeldStep m.abstract.references (bag_by m t a (SharedExchange x r w)) t (SharedExchange x r w ∷ rest) later)
      → FitsAfter p m t a (SharedExchange x r w) rest
  exchange_won x w r here alive pos won moves =
      let d : Duty = SharedExchange x r w in
      let later = agenda_here here alive in
      elim (w == fresh_word) as (λ b. (w == fresh_word) ≡ b → FitsAfter p m t a d rest) [
        | true ↦ λ fresh.
            own_next (SetMark x) here alive refl refl refl
            (exchange_next x w (m.memory (Shared x)) r true (released_word w == dead_word) won fresh refl)
            (moves (SetMark x ∷ rest) (λ k o. refl) (λ k o. refl)) later (λ b status head used locked. pos)
        | false ↦ λ other.
            elim (released_word w == dead_word)
            as (λ b. (released_word w == dead_word) ≡ b → FitsAfter p m t a d rest) [
              | true ↦ λ dead.
                  own_dying x here alive refl (record {
                    next_is = exchange_next x w (m.memory (Shared x)) r false true won other dead;
                    counted = pos;
                    lived = (exchange_alive x w r here).life;
                    held = moves (Die x ∷ rest) (λ k o. refl) (λ k o. refl);
                    later = later;
                  })
              | false ↦ λ some.
                  own_done here alive refl (exchange_next x w (m.memory (Shared x)) r false false won other some) later
                  (moves [] (λ k o. refl) (λ k o. refl))
            ] refl
      ] refl

  -- The thread fits after `Queues`, `Decrements`, `DecrementsToZero` and `ExchangeLost`.
  pub thread_after_shared_exchange : (x : ℕ) (r : Reason) (w : ℕ) → AtDuty p n m t a (SharedExchange x r w) rest
      → NotGone a → FitsAfter p m t a (SharedExchange x r w) rest
  thread_after_shared_exchange x Own w here alive =
      let found = m.memory (Shared x) in
      let d : Duty = SharedExchange x Own w in
      let pos = head_of here in
      elim (found == w) as (λ b. (found == w) ≡ b → FitsAfter p m t a d rest) [
        | true ↦ λ won.
            let bag : bag_by m t a d ≡ without (reference_of t InFlight x) m.abstract.references =
            ap (λ (b : Bool). (moved m.abstract (cond b (lose t x) [])).references) won in
            exchange_won x w Own here alive pos won
            (λ later more less. subst (λ (l : List Reference). HeldStep m.abstract.references l t (d ∷ rest) later)
            (sym bag) (held_let_go later x here (λ k o. refl) (λ k o. refl) more less))
        | false ↦ λ lost.
            let bag : bag_by m t a d ≡ m.abstract.references =
            ap (λ (b : Bool). (moved m.abstract (cond b (lose t x) [])).references) lost in
            own_next (SharedLoad x Own) here alive refl refl refl
            (ap (λ (b : Bool). cond b (shared_result x w) (SharedLoad x Own ∷ [])) lost)
            (subst (λ (l : List Reference). HeldStep m.abstract.references l t (d ∷ rest) (SharedLoad x Own ∷ rest))
            (sym bag) (held_same m.abstract.references t (d ∷ rest) (SharedLoad x Own ∷ rest) (λ k o. refl)
            (λ k o. refl))) (agenda_here here alive) (λ b status head used locked. pos)
      ] refl
  thread_after_shared_exchange x Handed w here alive =
      let found = m.memory (Shared x) in
      let d : Duty = SharedExchange x Handed w in
      let fits = head_of here in
      elim (found == w) as (λ b. (found == w) ≡ b → FitsAfter p m t a d rest) [
        | true ↦ λ won.
            exchange_won x w Handed here alive fits.0 won
            (λ later more less. held_same m.abstract.references t (d ∷ rest) later more less)
        | false ↦ λ lost.
            own_next (SharedLoad x Handed) here alive refl refl refl
            (ap (λ (b : Bool). cond b (shared_result x w) (SharedLoad x Handed ∷ [])) lost)
            (held_same m.abstract.references t (d ∷ rest) (SharedLoad x Handed ∷ rest) (λ k o. refl) (λ k o. refl))
            (agenda_here here alive)
            (λ b status head used locked. (fits.0, (leaves_others here).memory.merged x fits.1))
      ] refl
