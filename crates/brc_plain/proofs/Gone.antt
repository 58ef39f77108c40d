-- An event of a thread that is gone changes nothing.
use Rattle.std.proofs.Common.{◌≡◌, ℕ, Bool, true, refl, ap}
use Rattle.std.specs.Prelude.{Option, None, Some, slice_get}
use Rattle.brc_model.specs.declared.actor.Status.{Status}
use Rattle.brc_model.specs.declared.actor.Status.TheVariants.{Running, Leaving, Gone}
use Rattle.brc_model.specs.declared.thread.Choice.{Choice}
use Rattle.brc_model.specs.declared.thread.Choice.TheVariants as choices
use Rattle.brc_model.specs.Action.{StepActor, Action, Skip}
use Rattle.brc_model.specs.Dispatch.{action_of, exit_of}
use Rattle.brc_model.specs.Safety.{has_gone}
use Rattle.brc_model.specs.StepMachine.{StepMachine, of_thread, machine_by, next_machine}
use Rattle.brc_model.proofs.Dispatch.Claims.{gone_claims_none, gone_stops_not}
use Rattle.brc_plain.specs.Gone.{is_gone_at}

status_gone : (s : Status) → has_gone s ≡ true → s ≡ Gone
status_gone Gone e = refl
status_gone Running e = absurd cc
status_gone Leaving e = absurd cc

skips : (m : StepMachine) (t : ℕ) (choice : Choice) (a : StepActor) → a.actor.status ≡ Gone
    → action_of m.functions m.states m.layout t a choice ≡ Skip
skips m t choices.Ok a gone = rw gone refl
skips m t choices.Fault a gone = rw gone refl
skips m t (choices.Claim row) a gone = rw (gone_claims_none m.layout t a row gone) refl
skips m t choices.Stop a gone = rw (gone_stops_not a gone) refl

stays_by : (m : StepMachine) (t : ℕ) (choice : Choice) (o : Option StepActor)
    → of_thread true (λ a. has_gone a.actor.status) o ≡ true
    → of_thread m (λ a. machine_by m t a (exit_of choice) (action_of m.functions m.states m.layout t a choice)) o ≡ m
stays_by m t choice None e = refl
stays_by m t choice (Some a) e =
    ap (λ (action : Action). machine_by m t a (exit_of choice) action)
    (skips m t choice a (status_gone a.actor.status e))

pub gone_stays : (m : StepMachine) (event : ℕ × Choice) → is_gone_at m event.0 ≡ true → next_machine m event ≡ m
gone_stays m event gone = stays_by m event.0 event.1 (slice_get m.actors event.0) gone
