-- The theorem in two parts: doing a thread's next duty isn't bad and keeps the invariant; taking up work keeps the
-- invariant if the work meets its condition. The invariant doesn't say what the threads run, so the step world and the
-- running threads both use it.
use Rattle.std.proofs.Common.{◌≡◌, ℕ, false, List, ◌∷◌, Some, refl, sym, ◌∙◌, subst, inl, inr, []}
use Rattle.std.specs.Prelude.{slice_get}
use Rattle.std.proofs.lemmas.Option.{slice_get_within}
use Rattle.brc_model.specs.declared.duty.Reason.TheVariants.{Own, Handed}
use Rattle.brc_model.specs.declared.duty.Duty.{Duty}
use Rattle.brc_model.specs.declared.duty.Duty.TheVariants.{RetainLoad, RetainStore, RetainAdd, ReleaseLoad, ReleaseStore, DecideAtZero, SharedLoad, SharedExchange, SetMark, Look, TakeMark, MergeSwap, MergeLoad, MergeExchange, Die, Settle, SettleKind, SettleCell, TakeField, CloseResource, SettleEnd, Leave, Scan, TakeFound, Finish, ClaimMark, BirthKind, BirthField, BirthLocal, CellSwap}
use Rattle.brc_model.specs.declared.actor.Status.TheVariants.{Running, Gone}
use Rattle.brc_model.specs.declared.actor.Actor.{Actor}
use Rattle.brc_model.specs.Machine.{Machine, actor_by, machine_by_duty, with_actor}
use Rattle.brc_model.specs.BadDuties.{is_bad_duty}
use Rattle.brc_model.proofs.Basics.Lists.{slice_get-set_same, written_actor}
use Rattle.brc_model.specs.Accounts.{Account, Accounts}
use Rattle.brc_model.specs.Invariant.{AtDuty, Invariant}
use Rattle.brc_model.specs.OpenWork.{IsSettled}
use Rattle.brc_model.proofs.Stepping.FitsAfter.{found_by, agenda_here, FitsAfter, NotGone}
use Rattle.brc_model.proofs.Stepping.Retains.{thread_after_retain_counted}
use Rattle.brc_model.proofs.Stepping.Releases.{thread_after_retain_store, thread_after_retain_add, thread_after_release_counted, release_held, thread_after_release_store, thread_after_decide_at_zero}
use Rattle.brc_model.proofs.Stepping.SharedWords.{thread_after_shared_load, thread_after_shared_exchange}
use Rattle.brc_model.proofs.Stepping.Merges.{thread_after_set_mark, thread_after_look, thread_after_take_mark, thread_after_merge_swap_own, thread_after_merge_swap_handed, thread_after_merge_load, thread_after_merge_exchange}
use Rattle.brc_model.proofs.Stepping.Chains.{thread_after_die, thread_after_settle, thread_after_settle_end}
use Rattle.brc_model.proofs.Stepping.Settling.{thread_after_settle_kind, thread_after_settle_cell, thread_after_take_field, thread_after_close_resource}
use Rattle.brc_model.proofs.Stepping.CellSwaps.{thread_after_cell_swap}
use Rattle.brc_model.proofs.Stepping.Exits.{thread_after_leave, thread_after_scan, thread_after_take, thread_after_finish, thread_after_claim_mark}
use Rattle.brc_model.proofs.Stepping.Settled.{settled_after}
use Rattle.brc_model.proofs.Work.Watches.{marks_after}
use Rattle.brc_model.proofs.Keeping.KeepsDuty.{keeps_by}
use Rattle.brc_model.proofs.Keeping.NotBad.{duty_not_bad}
use Rattle.brc_model.proofs.Keeping.Sits.{sitting, Sits, AtRest, sits_core, taken_up_step}
use Rattle.brc_model.specs.Counting.{with_account}
use Rattle.brc_model.proofs.Stepping.Births.{thread_after_birth_kind, thread_after_birth_field, thread_after_birth_local}
use Rattle.brc_model.proofs.Stepping.Nones.{thread_after_retain_immortal, thread_after_release_immortal}
use Rattle.std.proofs.lemmas.Bool.{cases_Bool}
use Rattle.brc_model.specs.Layout.{is_immortal_row}
use Rattle.brc_model.proofs.Stepping.Steps.{own_done}
use Rattle.brc_model.proofs.Stepping.Counts.{held_same}

-- ---- doing a duty

module _ {p : Accounts} {n : ℕ} {m : Machine} {t : ℕ} {a : Actor} {rest : List Duty} where
  thread_after_duty : (d : Duty) → AtDuty p n m t a d rest → NotGone a → IsSettled a.head (d ∷ rest)
      → FitsAfter p m t a d rest
  thread_after_duty (RetainLoad x h) here alive settled =
      elim (cases_Bool (is_immortal_row m.layout x)) [
        | inl immortal ↦ thread_after_retain_immortal x h here immortal alive
        | inr counted ↦ thread_after_retain_counted x h counted here alive
      ]
  thread_after_duty (RetainStore x h w) here alive settled = thread_after_retain_store x h w here alive
  thread_after_duty (RetainAdd x h) here alive settled = thread_after_retain_add x h here alive
  thread_after_duty (ReleaseLoad x h) here alive settled =
      elim (cases_Bool (is_immortal_row m.layout x)) [
        | inl immortal ↦ thread_after_release_immortal x h here immortal alive (release_held x h here)
        | inr counted ↦ thread_after_release_counted x h counted here alive
      ]
  thread_after_duty (ReleaseStore x w) here alive settled = thread_after_release_store x w here alive
  thread_after_duty (DecideAtZero x) here alive settled = thread_after_decide_at_zero x here alive
  thread_after_duty (SharedLoad x r) here alive settled = thread_after_shared_load x r here alive
  thread_after_duty (SharedExchange x r w) here alive settled = thread_after_shared_exchange x r w here alive
  thread_after_duty (SetMark x) here alive settled = thread_after_set_mark x here alive
  thread_after_duty (Look x) here alive settled = thread_after_look x here alive
  thread_after_duty (TakeMark x) here alive settled = thread_after_take_mark x here alive
  thread_after_duty (MergeSwap x Own) here alive settled = thread_after_merge_swap_own x here alive
  thread_after_duty (MergeSwap x Handed) here alive settled = thread_after_merge_swap_handed x here alive
  thread_after_duty (MergeLoad x c r) here alive settled = thread_after_merge_load x c r here alive
  thread_after_duty (MergeExchange x c w r) here alive settled = thread_after_merge_exchange x c w r here alive
  thread_after_duty (Die x) here alive settled = thread_after_die x here alive
  thread_after_duty Settle here alive settled = thread_after_settle here alive
  thread_after_duty (SettleKind x) here alive settled = thread_after_settle_kind x here alive
  thread_after_duty (SettleCell x i k) here alive settled = thread_after_settle_cell x i k here alive
  thread_after_duty (TakeField x) here alive settled = thread_after_take_field x here alive
  thread_after_duty (CloseResource x) here alive settled = thread_after_close_resource x here alive
  thread_after_duty (SettleEnd x) here alive settled = thread_after_settle_end x here alive
  thread_after_duty (Leave x k) here alive settled = thread_after_leave p n m t a x k rest here alive
  thread_after_duty (Scan w k) here alive settled = thread_after_scan w k here alive
  thread_after_duty (TakeFound w k) here alive settled = thread_after_take w k here alive
  thread_after_duty Finish here alive settled = thread_after_finish p n m t a rest here alive settled.0
  thread_after_duty (ClaimMark x) here alive settled = thread_after_claim_mark x here alive
  thread_after_duty (BirthKind x h w) here alive settled = thread_after_birth_kind x h w here alive
  thread_after_duty (BirthField x h) here alive settled = thread_after_birth_field x h here alive
  thread_after_duty (BirthLocal x h) here alive settled = thread_after_birth_local p n m t a x h rest here alive
  thread_after_duty (CellSwap x i y h) here alive settled = thread_after_cell_swap x i y h here alive
  -- `KindRead`, `Locks`, `LockHeld`, `Unlocks`, `CellRead`, `ResourceLent` and `ResourceReturned`: nothing follows the
  -- duty, and no reference moves.
  thread_after_duty d here alive settled =
      own_done here alive refl refl (agenda_here here alive)
      (held_same m.abstract.references t (d ∷ rest) [] (λ k o. refl) (λ k o. refl))

-- What `duty_kept` needs: the invariant holds, and the thread isn't gone and has the duty next.
pub record Doing (p : Accounts) (n : ℕ) (m : Machine) (t : ℕ) (a : Actor) (d : Duty) (rest : List Duty) : Type 0 where
  pub kept : Invariant p n m
  pub found : slice_get m.actors t ≡ Some a
  pub agenda : a.agenda ≡ d ∷ rest
  pub alive : a.status ≡ Gone → ⊥

-- The first part of the theorem: a thread's next duty isn't bad, and doing it keeps the invariant.
pub duty_kept : (p : Accounts) (n : ℕ) (m : Machine) (t : ℕ) (a : Actor) (d : Duty) (rest : List Duty)
    → Doing p n m t a d rest → (is_bad_duty m t a d ≡ false) × Invariant p n (machine_by_duty m t a d rest)
duty_kept p n m t a d rest doing =
    let here : AtDuty p n m t a d rest =
    record { core = doing.kept.core; found = doing.found; agenda = doing.agenda } in
    let settled : IsSettled a.head (d ∷ rest) =
    subst (IsSettled a.head) doing.agenda (doing.kept.settled t a doing.found) in (
      duty_not_bad here,
      record {
        core =
            keeps_by here doing.alive (thread_after_duty d here doing.alive settled)
            (λ x. marks_after d here doing.alive x);
        settled =
            λ u b is. written_actor (λ w c. IsSettled c.head c.agenda) m.actors t a
            (actor_by m.layout t a d rest (found_by m t a d)) doing.found
            (settled_after m t a d rest settled) doing.kept.settled u b is;
      },
    )

-- ---- taking up work

module _ {p : Accounts} {n : ℕ} {m : Machine} {t : ℕ} {a : Actor} where
  -- The second part of the theorem: taking up work that meets its condition keeps the invariant.
  pub kept_sits : (agenda : List Duty) (account : Account) → Invariant p n m → AtRest p n m t a
      → Sits m t a agenda account → IsSettled a.head agenda
      → Invariant (with_account p t account) n (with_actor m t (sitting a agenda))
  kept_sits agenda account kept rest sits settled = record {
    core = sits_core agenda account rest sits;
    settled =
        λ u b is. written_actor (λ w c. IsSettled c.head c.agenda) m.actors t a (sitting a agenda) rest.found
        settled kept.settled u b is;
  }

  -- A thread that has taken up duties is ready to do the first of them.
  pub sits_down : (d : Duty) (rest : List Duty) (account : Account) → Invariant p n m → AtRest p n m t a
      → Sits m t a (d ∷ rest) account → IsSettled a.head (d ∷ rest)
      → Doing (with_account p t account) n (with_actor m t (sitting a (d ∷ rest))) t (sitting a (d ∷ rest)) d rest
  sits_down d rest account kept at sits settled = record {
    kept = kept_sits (d ∷ rest) account kept at sits settled;
    found = slice_get-set_same m.actors t (sitting a (d ∷ rest)) (slice_get_within m.actors t a at.found);
    agenda = refl;
    alive = λ e. let wrong : Running ≡ Gone = sym at.running ∙ e in absurd cc;
  }

-- Taking up duties and doing the first of them at once isn't bad and keeps the invariant.
pub taken_up : (p : Accounts) (n : ℕ) (m : Machine) (t : ℕ) (a : Actor) (d : Duty) (rest : List Duty)
    (account : Account)
    → Invariant p n m → AtRest p n m t a → Sits m t a (d ∷ rest) account → IsSettled a.head (d ∷ rest)
    → (is_bad_duty m t a d ≡ false) × Invariant (with_account p t account) n (machine_by_duty m t a d rest)
taken_up p n m t a d rest account kept at sits settled =
    let now = sitting a (d ∷ rest) in
    let done =
    duty_kept (with_account p t account) n (with_actor m t now) t now d rest
    (sits_down d rest account kept at sits settled) in
    (done.0, subst (Invariant (with_account p t account) n) (taken_up_step m t a d rest) done.1)
