-- A run in which no thread stops is the same whatever the module's table says. So a wrong run shows that the module
-- isn't safe.
use Rattle.std.proofs.Common.{◌≡◌, ℕ, Bool, true, false, List, [], ◌∷◌, ◌++◌, inl, inr, refl, sym, ap, ◌∙◌, subst}
use Rattle.std.specs.Prelude.{◌==◌, ◌&&◌, ◌||◌, Option, None, Some, slice_get}
use Rattle.std.specs.List.{All, list_all, list_any}
use Rattle.std.proofs.lemmas.Bool.{and_from, and_parts, or_parts}
use Rattle.std.proofs.lemmas.List.Elements.{All-head, All-tail}
use Rattle.brc_lang.specs.declared.module.Module.{Module}
use Rattle.brc_model.specs.declared.duty.Duty.{Duty}
use Rattle.brc_model.specs.declared.state.Exit.{Exit}
use Rattle.brc_model.specs.declared.state.State.{State}
use Rattle.brc_model.specs.declared.thread.Call.{Call}
use Rattle.brc_model.specs.declared.thread.Choice.{Choice}
use Rattle.brc_model.specs.declared.thread.Choice.TheVariants.{Ok, Fault, Claim, Stop}
use Rattle.brc_model.specs.AbstractState.{AbstractState, Reference, references_to}
use Rattle.brc_model.specs.Action.{StepActor, Action, Skip, Stuck, Silent, Calls, Does}
use Rattle.brc_model.specs.Dispatch.{action_of, exit_of}
use Rattle.brc_model.specs.Events.{begins_unfit, chooses_unfit, is_bad_action, is_bad_event}
use Rattle.brc_model.specs.Safety.{IsHeldByOpenList, IsSafeNow, Safe}
use Rattle.brc_model.specs.StepMachine.{StepMachine, of_thread, machine_by, next_machine, machine_after}
use Rattle.brc_plain.specs.Begun.{begun}
use Rattle.brc_plain.specs.Lost.{is_open_cell, keeps}
use Rattle.brc_replay.specs.WrongRuns.{goes_on, GoOn, EndsBadly, HasLeak, IsWrongRun, WrongRunsShow}

-- the machine with another table
abbrev pub with_states : (ℕ → ℕ → Option State) → StepMachine → StepMachine
with_states states m = record m { states = states }

-- ---- one step

same_by : (states : ℕ → ℕ → Option State) (m : StepMachine) (t : ℕ) (a : StepActor) (exit : Exit) (x : Action)
    → machine_by (with_states states m) t a exit x ≡ with_states states (machine_by m t a exit x)
same_by states m t a exit Skip = refl
same_by states m t a exit Stuck = refl
same_by states m t a exit (Silent moves place) = refl
same_by states m t a exit (Calls row place) = refl
same_by states m t a exit (Does d rest place) = refl

same_found : (states : ℕ → ℕ → Option State) (m : StepMachine) (t : ℕ) (choice : Choice) (o : Option StepActor)
    → goes_on choice ≡ true
    → of_thread (with_states states m)
    (λ (a : StepActor). machine_by (with_states states m) t a (exit_of choice)
    (action_of m.functions states m.layout t a choice)) o
    ≡ with_states states (of_thread m
    (λ (a : StepActor). machine_by m t a (exit_of choice) (action_of m.functions m.states m.layout t a choice)) o)
same_found states m t choice None on = refl
same_found states m t Ok (Some a) on =
    same_by states m t a (exit_of Ok) (action_of m.functions m.states m.layout t a Ok)
same_found states m t Fault (Some a) on =
    same_by states m t a (exit_of Fault) (action_of m.functions m.states m.layout t a Fault)
same_found states m t (Claim row) (Some a) on =
    same_by states m t a (exit_of (Claim row)) (action_of m.functions m.states m.layout t a (Claim row))
same_found states m t Stop (Some a) on = absurd cc

-- The table makes no difference to a step.
pub same_next : (states : ℕ → ℕ → Option State) (m : StepMachine) (event : ℕ × Choice) → goes_on event.1 ≡ true
    → next_machine (with_states states m) event ≡ with_states states (next_machine m event)
same_next states m event on = same_found states m event.0 event.1 (slice_get m.actors event.0) on

-- The table makes no difference to a run.
pub same_after : (states : ℕ → ℕ → Option State) (m : StepMachine) (events : List (ℕ × Choice)) → GoOn events
    → machine_after (with_states states m) events ≡ with_states states (machine_after m events)
same_after states m [] on = refl
same_after states m (event ∷ events) on =
    let parts = and_parts _ _ on in
    ap (λ (n : StepMachine). machine_after n events) (same_next states m event parts.0)
    ∙ same_after states (next_machine m event) events parts.1

-- ---- bad events

same_bad_by : (states : ℕ → ℕ → Option State) (m : StepMachine) (t : ℕ) (a : StepActor) (x : Action)
    → is_bad_action (with_states states m) t a x ≡ is_bad_action m t a x
same_bad_by states m t a Skip = refl
same_bad_by states m t a Stuck = refl
same_bad_by states m t a (Silent moves place) = refl
same_bad_by states m t a (Calls row place) = refl
same_bad_by states m t a (Does d rest place) = refl

same_begins : (states : ℕ → ℕ → Option State) (m : StepMachine) (a : StepActor) (agenda : List Duty)
    → begins_unfit (with_states states m) a agenda ≡ begins_unfit m a agenda
same_begins states m a [] = refl
same_begins states m a (d ∷ rest) = refl

same_unfit : (states : ℕ → ℕ → Option State) (m : StepMachine) (a : StepActor) (choice : Choice)
    → chooses_unfit (with_states states m) a choice ≡ chooses_unfit m a choice
same_unfit states m a Ok = same_begins states m a a.actor.agenda
same_unfit states m a Fault = same_begins states m a a.actor.agenda
same_unfit states m a (Claim row) = refl
same_unfit states m a Stop = refl

both : (b c d e : Bool) → b ≡ d → c ≡ e → (b || c) ≡ (d || e)
both b c d e one other = rw (one, other) refl

same_bad_found : (states : ℕ → ℕ → Option State) (m : StepMachine) (t : ℕ) (choice : Choice) (o : Option StepActor)
    → goes_on choice ≡ true
    → of_thread false
    (λ (a : StepActor). is_bad_action (with_states states m) t a (action_of m.functions states m.layout t a choice)
    || chooses_unfit (with_states states m) a choice) o
    ≡ of_thread false
    (λ (a : StepActor). is_bad_action m t a (action_of m.functions m.states m.layout t a choice)
    || chooses_unfit m a choice) o
same_bad_found states m t choice None on = refl
same_bad_found states m t Ok (Some a) on =
    both _ _ _ _ (same_bad_by states m t a (action_of m.functions m.states m.layout t a Ok)) (same_unfit states m a Ok)
same_bad_found states m t Fault (Some a) on =
    both _ _ _ _ (same_bad_by states m t a (action_of m.functions m.states m.layout t a Fault))
    (same_unfit states m a Fault)
same_bad_found states m t (Claim row) (Some a) on =
    both _ _ _ _ (same_bad_by states m t a (action_of m.functions m.states m.layout t a (Claim row)))
    (same_unfit states m a (Claim row))
same_bad_found states m t Stop (Some a) on = absurd cc

-- The table makes no difference to whether an event is bad.
pub same_bad : (states : ℕ → ℕ → Option State) (m : StepMachine) (event : ℕ × Choice) → goes_on event.1 ≡ true
    → is_bad_event (with_states states m) event ≡ is_bad_event m event
same_bad states m event on = same_bad_found states m event.0 event.1 (slice_get m.actors event.0) on

-- ---- the theorem

-- No thread stops at the events, and none at the last one.
go_on_parts : (before : List (ℕ × Choice)) (last : ℕ × Choice) → GoOn (before ++ last ∷ [])
    → GoOn before × (goes_on last.1 ≡ true)
go_on_parts [] last on = (refl, (and_parts _ _ on).0)
go_on_parts (event ∷ before) last on =
    let parts = and_parts (goes_on event.1) (list_all (λ (e : ℕ × Choice). goes_on e.1) (before ++ last ∷ [])) on in
    let rest = go_on_parts before last parts.1 in
    (and_from _ _ parts.0 rest.0, rest.1)

-- At no moment of a safe module's run in which no thread stops is anything wrong.
safe_after : (m : Module) (rows : ℕ) (calls : List Call) (events all : List (ℕ × Choice)) → IsWrongRun m rows calls all
    → (safe : Safe m) → GoOn events
    → IsSafeNow (with_states safe.has_states.0 (machine_after (begun m rows calls) events))
safe_after m rows calls events all wrong safe on =
    let states = safe.has_states.0 in
    subst (λ (n : StepMachine). IsSafeNow n) (same_after states (begun m rows calls) events on)
    (safe.runs states rows calls events safe.has_states.1 wrong.some_rows wrong.most_rows wrong.calls_fit)

bad_shown : (m : Module) (rows : ℕ) (calls : List Call) (events : List (ℕ × Choice)) → IsWrongRun m rows calls events
    → Safe m → EndsBadly (begun m rows calls) events → ⊥
bad_shown m rows calls events wrong safe ends =
    let states = safe.has_states.0 in
    let parts = go_on_parts ends.before ends.last
    (subst (λ (all : List (ℕ × Choice)). GoOn all) ends.are wrong.wrong.go_on) in
    let n = machine_after (begun m rows calls) ends.before in
    let fine : is_bad_event (with_states states n) ends.last ≡ false =
    (safe_after m rows calls ends.before events wrong safe parts.0).none_bad ends.last in
    let no : is_bad_event n ends.last ≡ false = sym (same_bad states n ends.last parts.1) ∙ fine in
    absurd (cc (no, ends.bad))

-- ---- lost objects

first_false : (b c : Bool) → c ≡ true → (b && c) ≡ false → b ≡ false
first_false false c on both_no = refl
first_false true c on both_no = absurd (cc (on, both_no))

-- A reference that a cell of an open list holds is to another object, if it doesn't keep this one.
another_object : (p : AbstractState) (row : ℕ) (r : Reference) → IsHeldByOpenList p r → keeps p row r ≡ false
    → (r.object == row) ≡ false
another_object p row r held lets_go =
    let there : is_open_cell p.closed r.holder ≡ true = rw (held.holder, held.not_closed) refl in
    first_false (r.object == row) (is_open_cell p.closed r.holder) there lets_go

-- If cells of open lists hold all references, and none that one holds is to the row's object, then no reference is.
none_left : (p : AbstractState) (row : ℕ) (references : List Reference) → All (IsHeldByOpenList p) references
    → list_any (keeps p row) references ≡ false → references_to row references ≡ 0
none_left p row [] held let_go = refl
none_left p row (r ∷ references) held let_go =
    let parts = or_parts (keeps p row r) (list_any (keeps p row) references) let_go in
    let other = another_object p row r (All-head (IsHeldByOpenList p) r references held) parts.0 in
    rw other (none_left p row references (All-tail (IsHeldByOpenList p) r references held) parts.1)

leak_shown : (m : Module) (rows : ℕ) (calls : List Call) (events : List (ℕ × Choice)) → IsWrongRun m rows calls events
    → Safe m → HasLeak (machine_after (begun m rows calls) events) → ⊥
leak_shown m rows calls events wrong safe ends =
    let now = safe_after m rows calls events events wrong safe wrong.wrong.go_on in
    let after = machine_after (begun m rows calls) events in
    let none = none_left after.abstract ends.row after.abstract.references (now.left_in_lists ends.gone)
    ends.lost.not_kept in
    let closed = (now.closed_at_end ends.gone ends.row).1 (ends.lost.born, none) in
    absurd (cc (closed, ends.lost.not_closed))

-- A module with a wrong run isn't safe.
pub shown : WrongRunsShow
shown m rows calls events wrong safe =
    elim wrong.wrong.ends [
      | inl ends ↦ bad_shown m rows calls events wrong safe ends
      | inr ends ↦ leak_shown m rows calls events wrong safe ends
    ]
