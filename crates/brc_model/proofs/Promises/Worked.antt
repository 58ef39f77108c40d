-- Three schedules of the smallest module, with one worker that makes one call, by computation.
use Rattle.std.proofs.Common.{◌≡◌, ℕ, List, [], ◌∷◌, ◌++◌, map, Option, None, refl}
use Rattle.std.specs.Prelude.{replicate}
use lib.Count.{count_trailing_zeros}
use Rattle.brc_lang.specs.declared.module.Instr.TheVariants.{Fail}
use Rattle.brc_lang.specs.declared.module.Module.{Module}
use Rattle.brc_lang.specs.declared.version.Version.TheVariants.{One}
use Rattle.brc_model.specs.declared.state.State.{State}
use Rattle.brc_model.specs.declared.thread.Call.{Call}
use Rattle.brc_model.specs.declared.actor.Status.{Status}
use Rattle.brc_model.specs.declared.actor.Status.TheVariants.{Running, Gone}
use Rattle.brc_model.specs.declared.thread.Choice.{Choice}
use Rattle.brc_model.specs.declared.thread.Choice.TheVariants.{Ok, Claim}
use Rattle.brc_model.specs.Machine.{Live, Closed}
use Rattle.brc_model.specs.Actions.{StepActor}
use Rattle.brc_model.specs.StepMachine.{StepMachine, first_machine, machine_after}

smallest : Module
smallest = record {
  version = One;
  statics = [];
  functions = record { name = 102 ∷ []; parameters = []; code = Fail ∷ [] } ∷ [];
}

one_call : List Call
one_call = record { function = 0; times = 1 } ∷ []

no_states : ℕ → ℕ → Option State
no_states number at = None

steps : ℕ → ℕ → List (ℕ × Choice)
steps n t = replicate n (t, Ok)

after_events : List (ℕ × Choice) → StepMachine
after_events events = machine_after (first_machine smallest no_states 4 one_call) events

statuses : StepMachine → List Status
statuses m = map (λ (a : StepActor). a.actor.status) m.actors

-- The worker has set the mark and hasn't looked yet when main leaves. Main's exit finds the mark and closes the root.
mark_set : List (ℕ × Choice)
mark_set = steps 5 1 ++ steps 40 0

mark_set-life : (after_events mark_set).life 1 ≡ Closed
unfolding smallest no_states one_call steps after_events mark_set count_trailing_zeros
mark_set-life = refl

mark_set-statuses : statuses (after_events mark_set) ≡ Gone ∷ Running ∷ []
unfolding smallest no_states one_call steps after_events mark_set count_trailing_zeros statuses
mark_set-statuses = refl

mark_set-done : statuses (after_events (mark_set ++ steps 10 1)) ≡ Gone ∷ Gone ∷ []
unfolding smallest no_states one_call steps after_events mark_set count_trailing_zeros statuses
mark_set-done = refl

-- The worker has queued the root and hasn't set its mark yet when main leaves. Main's exit finds no mark, and the
-- worker closes the root.
queued : List (ℕ × Choice)
queued = steps 4 1 ++ steps 40 0

queued-life : (after_events queued).life 1 ≡ Live
unfolding smallest no_states one_call steps after_events queued
queued-life = refl

queued-statuses : statuses (after_events queued) ≡ Gone ∷ Running ∷ []
unfolding smallest no_states one_call steps after_events queued statuses
queued-statuses = refl

queued-closed : (after_events (queued ++ steps 40 1)).life 1 ≡ Closed
unfolding smallest no_states one_call steps after_events queued
queued-closed = refl

-- The worker has set the mark, and main looks into its queue before it leaves.
claimed : List (ℕ × Choice)
claimed = steps 5 1 ++ (0, Claim 1) ∷ steps 40 0

claimed-life : (after_events claimed).life 1 ≡ Closed
unfolding smallest no_states one_call steps after_events claimed
claimed-life = refl

claimed-statuses : statuses (after_events (claimed ++ steps 10 1)) ≡ Gone ∷ Gone ∷ []
unfolding smallest no_states one_call steps after_events claimed statuses
claimed-statuses = refl
