-- The invariant implies what an accepted module promises, so each accepted module is safe.
use Rattle.std.proofs.Common.{◌≡◌, ℕ, ◌+◌, ◌<◌, true, List, inl, length, refl, ap, ◌∙◌, subst, arith, ◌≤◌, Option}
use Rattle.brc_word.specs.declared.values.TheConstants.{GONE}
use Rattle.brc_lang.specs.declared.module.Module.{Module}
use Rattle.brc_lang.specs.Grammar.{IsModule}
use Rattle.brc_model.specs.declared.thread.Call.{Call}
use Rattle.brc_model.specs.declared.state.State.{State}
use Rattle.brc_model.specs.Paths.{IsAcceptable}
use Rattle.brc_model.specs.Tables.{AreTrueWhereReached}
use Rattle.brc_model.specs.declared.address.Address.TheVariants.{ThreadWord}
use Rattle.brc_model.specs.declared.actor.Status.{Status}
use Rattle.brc_model.specs.declared.actor.Status.TheVariants.{Running, Leaving, Gone}
use Rattle.brc_model.specs.declared.actor.Actor.{Actor}
use Rattle.brc_model.specs.Machine.{Machine}
use Rattle.brc_model.specs.StepMachine.{StepMachine, layout_of, first_machine}
use Rattle.brc_model.specs.Safety.{AreCalls, has_gone, AllGone, IsSafeNow, HasStates, Safe}
use Rattle.brc_model.specs.Accounts.{Accounts}
use Rattle.brc_model.specs.Invariant.{CoreInvariant}
use Rattle.brc_model.specs.OpenWork.{AgendaFits, exits}
use Rattle.brc_model.specs.Knowledge.{status_word}
use Rattle.brc_model.proofs.Basics.Lists.{list_all_found}
use Rattle.brc_model.proofs.Promises.AtTheEnd.{AreAtEnd, left_in_lists, born_closed, closed_born, closed_free}
use Rattle.brc_model.proofs.Promises.TrueStates.{true_states, true_where_reached}
use Rattle.brc_model.proofs.Promises.Agreeing.{agrees_at, is_free_of}
use Rattle.brc_model.proofs.Keeping.FirstMachine.{first_accounts, has_lines, first_kept, first_coded, first_allowed}
use Rattle.brc_model.proofs.Keeping.KindsHold.{first_holds}
use Rattle.brc_model.proofs.Keeping.Sound.{module_sound}
use Rattle.brc_model.proofs.Keeping.ItemsHold.{first_items}
use Rattle.brc_model.proofs.Keeping.RoomsHold.{first_rooms}
use Rattle.brc_model.proofs.Keeping.CodeInvariant.{CodeInvariant}
use Rattle.brc_model.proofs.Keeping.CodeEvents.{event_keeps, code_invariant_after}
use Rattle.brc_model.specs.Limits.{row_limit}

-- ---- when all threads are gone

gone_is : (status : Status) → has_gone status ≡ true → status ≡ Gone
gone_is Running e = absurd cc
gone_is Leaving e = absurd cc
gone_is Gone e = refl

module _ {p : Accounts} {n : ℕ} {m : Machine} where
  -- A thread that is gone has nothing to do, and holds nothing.
  gone_ends : CoreInvariant p n m → AllGone m → AreAtEnd p m
  gone_ends core done t a found =
      let status : a.status ≡ Gone =
      gone_is a.status (list_all_found (λ (b : Actor). has_gone b.status) m.actors t a done found) in
      let fits : AgendaFits a Gone = subst (λ (s : Status). AgendaFits a s) status (core.each t a found).1 in
      let old = (core.each t a found).0 in
      let left = old.exited (ap (λ (s : Status). exits s a.agenda) status) in
      let word : m.memory (ThreadWord t) ≡ GONE = old.word ∙ ap status_word status in
      record {
        agenda = fits.0;
        aside = left.1;
        head = fits.1;
        none = left.0;
        stopped = inl (λ one. omega (arith, one, word));
      }

-- ---- the promise

-- A machine of which both layers of the invariant hold is safe.
pub safe_now : (p : Module) (n : ℕ) (m : StepMachine) → CodeInvariant p n m → 0 < n → IsSafeNow m
safe_now p n m whole some = record {
  none_bad = λ event. (event_keeps p n m event whole).0;
  agrees = λ x pos. agrees_at x whole.kept.core pos;
  kinds = whole.kept.core.kinds;
  free = λ x pos alive born. is_free_of x whole.kept.core pos alive born;
  closed_once = whole.kept.core.once;
  closed_at_end = λ done x. (
    λ closed.
        let was = closed_born x whole.kept.core (whole.kept.core.closed_is x closed) in (
          whole.kept.core.born_has x was.0 was.1,
          closed_free x whole.kept.core was.0 (whole.kept.core.closed_is x closed),
        ),
    λ born.
        let was = whole.kept.core.born_is x born.0 in
        whole.kept.core.closed_has x
        (born_closed x (m.life x) whole.kept.core (gone_ends whole.kept.core done) was.0 born.1 was.1 refl),
  );
  left_in_lists = λ done.
      left_in_lists whole.kept.core (gone_ends whole.kept.core done);
}

-- Both layers of the invariant hold of the first machine.
pub first_code_invariant : (m : Module) (states : ℕ → ℕ → Option State) (rows : ℕ) (calls : List Call) → IsModule m
    → IsAcceptable m → AreTrueWhereReached m states → AreCalls m calls → 0 < rows → rows ≤ row_limit
    → CodeInvariant m (1 + length calls) (first_machine m states rows calls)
first_code_invariant m states rows calls fits accepted states_true are_calls some few = record {
  accounts = first_accounts;
  kept = first_kept m states rows calls fits are_calls some few;
  functions = refl;
  states_true = states_true;
  sound = module_sound m m.version states fits.functions fits.calls accepted states_true;
  lines = has_lines m (length calls) rows fits;
  allowed = first_allowed m (length calls) rows fits.allowed;
  kinds = first_holds m states rows calls;
  items = first_items m states rows calls;
  rooms = first_rooms m states rows calls;
  coded = λ t a is. first_coded m states (layout_of m (length calls) rows) calls t a are_calls is;
}

-- The points of each acceptable module have states.
acceptable_has_states : (m : Module) → IsAcceptable m → HasStates m
acceptable_has_states m accepted =
    let found = true_states m accepted in
    (found.0, true_where_reached m found.0 found.1)

-- Each acceptable module is safe.
pub accepted_is_safe : (m : Module) → IsModule m → IsAcceptable m → Safe m
accepted_is_safe m fits accepted = record {
  has_states = acceptable_has_states m accepted;
  runs =
      λ states rows calls events states_true some most are_calls.
      let whole = first_code_invariant m states rows calls fits accepted states_true are_calls some most in
      safe_now m (1 + length calls) _
      (code_invariant_after m (1 + length calls) (first_machine m states rows calls) events whole) (omega arith);
}
