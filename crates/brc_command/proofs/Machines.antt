-- The tally of the last world is that of the machine that the schedule's steps lead to.
use Rattle.std.proofs.Common.{◌≡◌, ℕ, List, refl, sym, ap, ◌∙◌}
use Rattle.brc_lang.specs.declared.module.Module.{Module}
use Rattle.brc_model.specs.declared.thread.Choice.{Choice}
use Rattle.brc_model.specs.StepMachine.{StepMachine, machine_after}
use Rattle.brc_model.specs.World.{world_of}
use Rattle.brc_check.specs.Accepted.{Accepted}
use Rattle.brc_check.specs.Tables.{states_of}
use Rattle.brc_schedule.specs.declared.schedule.Schedule.{Schedule}
use Rattle.brc_machine.specs.MachineTallies.{machine_tally}
use Rattle.brc_world.specs.MachineTallies.{IsMachineOf}
use Rattle.brc_world.specs.Runs.{world_after, events_of}
use Rattle.brc_world.specs.Tallies.{tally_of}
use Rattle.brc_command.specs.Calls.{calls_of}
use Rattle.brc_command.specs.Texts.{IsReady, machine_before, last_world, last_machine}
use Rattle.brc_command.proofs.Calling.{calls_fit}

is_machine : (module_text schedule_text : List ℕ) (m : Accepted) (s : Schedule) → IsReady module_text schedule_text m s
    → IsMachineOf m.module (last_machine m s)
is_machine module_text schedule_text m s ready =
    let fits = ready.schedule_read.schedule_fits in
    record {
      fits = ready.module_read.module_fits;
      accepted = ready.accepted;
      states = states_of m.module m.table;
      rows = s.rows;
      calls = calls_of m.module s.calls;
      events = events_of s.steps;
      states_true = ready.states_true;
      some_rows = fits.sizes.some_rows;
      most_rows = fits.sizes.most_rows;
      calls_fit = calls_fit m.module s fits ready.known;
      reached = refl;
    }

abbrev Follow : Type 0
Follow =
    (m : StepMachine) (events : List (ℕ × Choice)) → world_of (machine_after m events) ≡ world_after (world_of m) events

pub tally_of_machine : Follow
    → ((p : Module) (m : StepMachine) → IsMachineOf p m → tally_of (world_of m) ≡ machine_tally m)
    → (module_text schedule_text : List ℕ) (m : Accepted) (s : Schedule) → IsReady module_text schedule_text m s
    → tally_of (last_world m s) ≡ machine_tally (last_machine m s)
tally_of_machine follows tallies module_text schedule_text m s ready =
    ap tally_of (sym (follows (machine_before m s) (events_of s.steps)))
    ∙ tallies m.module (last_machine m s) (is_machine module_text schedule_text m s ready)
