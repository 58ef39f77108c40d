-- A hand that begins something makes the events of a thread that dispatches it.
use Rattle.std.proofs.Common.{◌≡◌, ℕ, Bool, true, false, cond, List, [], ◌∷◌, ◌++◌, Some, append-nil, refl, sym, ap, ◌∙◌, subst}
use Rattle.std.specs.Prelude.{◌&&◌, nat_lt, Option}
use Rattle.brc_word.specs.Words.{is_immortal_word, local_part, most_local}
use Rattle.brc_host.specs.HostCalls.{HostCall}
use Rattle.brc_lang.specs.declared.module.Instr.{Instr}
use Rattle.brc_model.specs.AbstractState.{Move}
use Rattle.brc_model.specs.Actions.{Silent, Calls, Does}
use Rattle.brc_model.specs.Duties.{counts_locally, ready}
use Rattle.brc_model.specs.declared.actor.Actor.{Actor}
use Rattle.brc_model.specs.Machine.{is_running}
use Rattle.brc_model.specs.declared.actor.Place.{Place}
use Rattle.brc_model.specs.declared.duty.Duty.{Duty}
use Rattle.brc_model.specs.declared.duty.Duty.TheVariants.{RetainLoad, RetainStore, RetainAdd, KindLoad, LockGate, UnlockGate, CellLoad}
use Rattle.brc_model.specs.declared.duty.Holding.{Holding}
use Rattle.brc_model.specs.declared.duty.Holding.TheVariants.{AsCaller}
use Rattle.brc_model.specs.declared.state.Exit.{Exit}
use Rattle.brc_model.specs.declared.address.Address.TheVariants.{KindOf}
use Rattle.brc_model.specs.declared.event.WordEvent.{WordEvent}
use Rattle.brc_table.specs.declared.view.View.{View}
use Rattle.brc_table.specs.Views.{view_by, view_after, open_work, with_reference, retaining, asking, locking, unlocking, loading_cell, with_work}
use Rattle.brc_heap.specs.Calls.{retained}
use Rattle.brc_work.specs.Traces.{Program, dispatch_in, Makes, Refl, Dispatches, Silently, Asks, Requests, Traces, MakesTrace, thread_with, instruction_at, exit_of, begun_at, begun_by, is_birth, is_close, has_read}
use Rattle.brc_work.proofs.Traces.Joining.{only_these, no_trace, turns_to, traces_then, traces_before, with_duties}
use Rattle.brc_work.proofs.Traces.Duties.{comes_next, no_duty, IsSame, next_duties, starts_with, continues_with, does_nothing, does_first}

module _ (program : Program) (p : Place) (v : View) where
  -- A silent step,
  pub goes_silently : (q : Place) (moves : List Move) → dispatch_in v.layout v.thread v.actor.used program p
      ≡ Silent moves q
      → MakesTrace (begun_at p) [] program p v q v
  goes_silently q moves is = record {
    events = [];
    trace = sym (append-nil v.trace);
    makes = only_these (Silently 0 [] [] p q (thread_with v []) moves Refl refl is);
    layout = refl;
    thread = refl;
  }

  -- and a call of the host, as its instruction asks for it.
  pub calls_host : (row : Option ℕ) (after : Exit → Place) (i : Instr) (call : HostCall)
      → dispatch_in v.layout v.thread v.actor.used program p ≡ Calls row after → instruction_at program p ≡ Some i
      → Requests [] i call
      → MakesTrace (begun_at p) (call ∷ []) program p v (after (exit_of call)) v
  calls_host row after i call is names asks = record {
    events = [];
    trace = sym (append-nil v.trace);
    makes = only_these (Asks 0 [] [] p (thread_with v []) row after i call Refl refl is names asks);
    layout = refl;
    thread = refl;
  }

-- the event of a look at the kind of the row's object
abbrev pub kind_event : ℕ → ℕ → WordEvent
kind_event x word = record { address = KindOf x; found = word; left = word }

-- the hand without work that turns to the duties, and has these references and this field
abbrev pub busy : View → List Duty → List ℕ → ℕ → View
busy v ds references n = record (with_work v ds (open_work v)) { references = references; in_field = n }

module _ (program : Program) (p : Place) (next : ℕ → Place) (v : View) (none : v.actor.agenda ≡ []) where
  -- A hand that makes one step.
  one_step : (d : Duty) (references : List ℕ) (n found : ℕ)
      → dispatch_in v.layout v.thread v.actor.used program p ≡ Does d [] next
      → (is_birth d && has_read program p) ≡ false
      → IsSame (busy v (d ∷ []) references n) d d found
      → next_duties (busy v (d ∷ []) references n) d [] found ≡ []
      → MakesTrace (begun_by p d found) [] program p v (next found) (view_by (busy v (d ∷ []) references n)
      (d ∷ []) found)
  one_step d references n found is new same last =
      let turned = busy v (d ∷ []) references n in
      traces_before program p p (next found) [] [] [] v turned (view_by turned (d ∷ []) found)
      (turns_to program p [] (d ∷ []) v references n none)
      (with_duties program p (next found) [] (next_duties turned d [] found) [] turned (view_by turned
      (d ∷ []) found) last
      (starts_with program p turned d d [] [] found same next is new))

  -- A look at a kind,
  pub asks_kind : (x word : ℕ) → dispatch_in v.layout v.thread v.actor.used program p ≡ Does (KindLoad x) [] next
      → MakesTrace (begun_at p) [] program p v (next word) (view_after (asking v x) word)
  asks_kind x word is =
      one_step (KindLoad x) v.references v.in_field word is refl
      (record { event = refl; status = refl; head = refl; used = refl; locked = refl; lent = refl })
      (no_duty v.actor.head)

  -- which makes one event: the word that it finds,
  pub asks_kind_once : (x word : ℕ) → dispatch_in v.layout v.thread v.actor.used program p ≡ Does (KindLoad x) [] next
      → (one : MakesTrace (begun_at p) [] program p v (next word) (view_after (asking v x) word))
      × (one.events ≡ [] ++ kind_event x word ∷ [])
  asks_kind_once x word is =
      let aside : v.actor.aside ≡ open_work v = ap (λ (ds : List Duty). ds ++ v.actor.aside) (sym none) in
      let one : MakesTrace (begun_at p) [] program p v (next word) (view_after (asking v x) word) = record {
        events = kind_event x word ∷ [];
        trace = refl;
        makes = subst (λ (a : Actor).
            Makes v.layout v.thread program p (thread_with v []) (begun_at p) [] (kind_event x word ∷ []) (next word) a)
            (λ i. record (thread_with v []) { agenda = no_duty v.actor.head i; aside = aside i })
            (only_these (Dispatches 0 [] [] p (thread_with v []) (KindLoad x) [] next word Refl refl is refl));
        layout = refl;
        thread = refl;
      } in
      (one, refl)

  -- a try to lock,
  pub tries : (x n found : ℕ) → dispatch_in v.layout v.thread v.actor.used program p ≡ Does (LockGate x) [] next
      → MakesTrace (begun_by p (LockGate x) found) [] program p v (next found) (view_after (locking v x n) found)
  tries x n found is =
      one_step (LockGate x) v.references n found is refl
      (record { event = refl; status = refl; head = refl; used = refl; locked = refl; lent = refl })
      (no_duty v.actor.head)

  pub unlocks : (x found : ℕ) → dispatch_in v.layout v.thread v.actor.used program p ≡ Does (UnlockGate x) [] next
      → MakesTrace (begun_at p) [] program p v (next found) (view_after (unlocking v x) found)
  unlocks x found is =
      one_step (UnlockGate x) v.references v.in_field found is refl
      (record { event = refl; status = refl; head = refl; used = refl; locked = refl; lent = refl })
      (no_duty v.actor.head)

  -- and a look into a cell.
  pub looks_in : (x i word : ℕ) → dispatch_in v.layout v.thread v.actor.used program p ≡ Does (CellLoad x i) [] next
      → MakesTrace (begun_at p) [] program p v (next word) (view_after (loading_cell v x i) word)
  looks_in x i word is =
      one_step (CellLoad x i) v.references v.in_field word is refl
      (record { event = refl; status = refl; head = refl; used = refl; locked = refl; lent = refl })
      (no_duty v.actor.head)

-- ---- retains

-- what comes next after the load of the local word
abbrev pub retain_next : Bool → Bool → ℕ → ℕ → Holding → List Duty
retain_next immortal counts x word holding =
    cond immortal [] (cond counts (RetainStore x holding word ∷ []) (RetainAdd x holding ∷ []))

counted_by : (program : Program) (q : Place) (head x word found : ℕ) (d e : Duty) (u : View)
    → u.actor.agenda ≡ e ∷ [] → IsSame u d e found
    → is_close d ≡ false → ready head (d ∷ []) ≡ d ∷ [] → next_duties u d [] found ≡ []
    → Traces 0 [] program q (ready head (d ∷ [])) u q [] (view_after u found)
counted_by program q head x word found d e u is same off first last =
    subst (λ (ds : List Duty). Traces 0 [] program q ds u q [] (view_after u found)) (sym first)
    (subst (Traces 0 [] program q (d ∷ []) u q []) (sym (does_first u found e [] is))
    (with_duties program q q (d ∷ []) (next_duties u d [] found) [] u (view_by u (e ∷ []) found) last
    (continues_with program q u d e [] [] found same off)))

-- The reference is counted in the local word, in the shared word or nowhere.
counts : (immortal own : Bool) (program : Program) (q : Place) (head x word found : ℕ) (holding : Holding) (u : View)
    → u.actor.agenda ≡ ready head (retain_next immortal own x word AsCaller ++ [])
    → Traces 0 [] program q (ready head (retain_next immortal own x word holding ++ [])) u q [] (view_after u found)
counts true own program q head x word found holding u is =
    let none = is ∙ no_duty head in
    subst (λ (ds : List Duty). Traces 0 [] program q ds u q [] (view_after u found)) (sym (no_duty head))
    (subst (Traces 0 [] program q [] u q []) (sym (does_nothing u found none)) (no_trace program q [] u))
counts false true program q head x word found holding u is =
    counted_by program q head x word found (RetainStore x holding word) (RetainStore x AsCaller word) u
    (is ∙ comes_next head (RetainStore x AsCaller word) [] refl)
    (record { event = refl; status = refl; head = refl; used = refl; locked = refl; lent = refl }) refl
    (comes_next head (RetainStore x holding word) [] refl) (no_duty u.actor.head)
counts false false program q head x word found holding u is =
    counted_by program q head x word found (RetainAdd x holding) (RetainAdd x AsCaller) u
    (is ∙ comes_next head (RetainAdd x AsCaller) [] refl)
    (record { event = refl; status = refl; head = refl; used = refl; locked = refl; lent = refl }) refl
    (comes_next head (RetainAdd x holding) [] refl) (no_duty u.actor.head)

-- A hand retains an object.
pub retains : (program : Program) (p : Place) (next : ℕ → Place) (v : View) (none : v.actor.agenda ≡ [])
    (x word found : ℕ)
    (holding : Holding) → dispatch_in v.layout v.thread v.actor.used program p ≡ Does (RetainLoad x holding) [] next
    → MakesTrace (begun_at p) [] program p v (next word) (retained v x word found)
retains program p next v none x word found holding is =
    let turned = retaining v x in
    let loaded = view_after turned word in
    let immortal = is_immortal_word word in
    let own = counts_locally v.thread (is_running v.actor.status) word && nat_lt (local_part word) most_local in
    let duties = ready v.actor.head (retain_next immortal own x word holding ++ []) in
    traces_before program p p (next word) [] [] [] v turned (view_after loaded found)
    (turns_to program p [] (RetainLoad x AsCaller ∷ []) v (with_reference v.layout x v.references) v.in_field none)
    (traces_then program p (next word) (next word) [] duties [] turned loaded (view_after loaded found)
    (starts_with program p turned (RetainLoad x holding) (RetainLoad x AsCaller) [] [] word
    (record { event = refl; status = refl; head = refl; used = refl; locked = refl; lent = refl }) next is refl)
    (counts immortal own program (next word) v.actor.head x word found holding loaded refl))
