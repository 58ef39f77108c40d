-- How a run ends, of the module and the schedule that two texts spell, and of two files.
use Rattle.std.proofs.Common.{◌≡◌, ℕ, List, ◌++◌, take, drop, map, sym, ap, ◌∙◌, subst, Ok, Err}
use Rattle.std.specs.Prelude.{Result, IfOk}
use Rattle.std.proofs.lemmas.List.{map-append, take-append-drop}
use Rattle.brc_lang.specs.declared.module.Module.{Module}
use Rattle.brc_lang.specs.Grammar as modules
use Rattle.brc_model.specs.declared.thread.Call.{Call}
use Rattle.brc_model.specs.declared.thread.Choice.{Choice}
use Rattle.brc_model.specs.StepMachine.{StepMachine}
use Rattle.brc_schedule.specs.declared.schedule.Schedule.{Schedule}
use Rattle.brc_schedule.specs.Text as schedules
use Rattle.brc_plain.specs.Begun.{begun}
use Rattle.brc_replay.specs.declared.event.Event.{Event}
use Rattle.brc_replay.specs.WrongRuns.{event_in, IsWrongRun}
use Rattle.brc_world.specs.Runs.{events_of}
use Rattle.brc_command.specs.declared.endings.Ending.{Ending}
use Rattle.brc_command.specs.declared.endings.Ending.TheVariants.{Whole, Wrong, Beyond}
use Rattle.brc_command.specs.Calls.{calls_of, AreKnown}
use Rattle.brc_command.specs.Commands.{IsStandardInput}
use Rattle.brc_command.specs.Endings.{IsEnding}
use Rattle.brc_command.specs.Loading.{ReadsAsModule, ReadsAsSchedule}
use Rattle.brc_command.specs.WholeRuns.{OfPlan, OfTexts, OfFiles}
use Rattle.brc_command.specs.WrongRuns.{GoesWrong, PlanGoesWrong, TextsGoWrong}

-- ---- one account by another

module _ {whole other_whole wrong other_wrong : Type 0} {stops_at other_stops_at : ℕ → Type 0}
    (as_whole : whole → other_whole) (as_wrong : wrong → other_wrong)
    (as_stop : (number : ℕ) → stops_at number → other_stops_at number) where
  -- A run that ends so by one account ends so by the other.
  pub as_ended : (ending : Ending) → IsEnding whole wrong stops_at ending
      → IsEnding other_whole other_wrong other_stops_at ending
  as_ended Whole is = as_whole is
  as_ended (Wrong text) is = as_wrong is
  as_ended (Beyond number) is = as_stop number is

  pub ended_by : {E : Type 0} (r : Result Ending E) → IfOk r (IsEnding whole wrong stops_at)
      → IfOk r (IsEnding other_whole other_wrong other_stops_at)
  ended_by (Ok ending) is = as_ended ending is
  ended_by (Err e) is = tt

-- the same ending is handed on
pub handed_on : {E : Type 0} (ends : Ending → Type 0) (r : Result Ending E) (ending : Ending)
    → IfOk r (λ same. same ≡ ending) → ends ending → IfOk r ends
handed_on ends (Ok same) ending is ended = subst ends (sym is) ended
handed_on ends (Err e) ending is ended = tt

-- ---- a schedule's text

-- all events are the first ones and the rest
all_events : (events : List Event) (n : ℕ) (all : List (ℕ × Choice)) → map event_in events ≡ all
    → all ≡ map event_in (take n events) ++ map event_in (drop n events)
all_events events n all are =
    sym are ∙ ap (map event_in) (sym (take-append-drop n events)) ∙ map-append event_in (take n events) (drop n events)

module _ (plan : List ℕ) (m : Module) (s : Schedule) (calls : List Call) (events : List Event)
    (listed : schedules.Spells plan s) (found : calls ≡ calls_of m s.calls)
    (are : map event_in events ≡ events_of s.steps) where
  pub plan_wrong : (n : ℕ) → IsWrongRun m s.rows calls (map event_in (take n events)) → PlanGoesWrong m plan
  plan_wrong n wrong = record {
    s = s;
    schedule_read = listed;
    made = map event_in (take n events);
    rest = map event_in (drop n events);
    parts = all_events events n (events_of s.steps) are;
    wrong = subst (λ (cs : List Call). IsWrongRun m s.rows cs (map event_in (take n events))) found wrong;
  }

  pub plan_holds : (holds : StepMachine → List (ℕ × Choice) → Type 0) → AreKnown m s.calls
      → holds (begun m s.rows calls) (map event_in events) → OfPlan m plan holds
  plan_holds holds known run = record {
    s = s;
    schedule_read = listed;
    known = known;
    run = subst (λ (es : List (ℕ × Choice)). holds (begun m s.rows (calls_of m s.calls)) es) are
        (subst (λ (cs : List Call). holds (begun m s.rows cs) (map event_in events)) found run);
  }

-- ---- two texts

pub texts_hold : (bytes plan : List ℕ) (m : Module) → modules.Spells bytes m
    → (holds : StepMachine → List (ℕ × Choice) → Type 0) → OfPlan m plan holds → OfTexts bytes plan holds
texts_hold bytes plan m spelled holds of_plan = record { m = m; module_read = spelled; plan = of_plan }

-- ---- two files

module _ (gives : List ℕ → List ℕ → Type 0) (file schedule bytes plan : List ℕ) (read : ReadsAsModule gives file bytes)
    (planned : ReadsAsSchedule gives schedule plan) where
  pub files_wrong : TextsGoWrong bytes plan → GoesWrong gives file schedule
  files_wrong wrong = record {
    module_text = read.text;
    schedule_text = planned.text;
    module_given = read.given;
    schedule_given = planned.given;
    wrong = record {
      m = wrong.m;
      module_read = read.spelled wrong.m wrong.module_read;
      wrong = record {
        s = wrong.wrong.s;
        schedule_read = planned.spelled wrong.wrong.s wrong.wrong.schedule_read;
        made = wrong.wrong.made;
        rest = wrong.wrong.rest;
        parts = wrong.wrong.parts;
        wrong = wrong.wrong.wrong;
      };
    };
  }

  pub files_hold : (holds : StepMachine → List (ℕ × Choice) → Type 0)
      → (IsStandardInput file → IsStandardInput schedule → ⊥) → OfTexts bytes plan holds
      → OfFiles gives file schedule holds
  files_hold holds apart texts = record {
    module_text = read.text;
    schedule_text = planned.text;
    module_given = read.given;
    schedule_given = planned.given;
    apart = apart;
    texts = record {
      m = texts.m;
      module_read = read.spelled texts.m texts.module_read;
      plan = record {
        s = texts.plan.s;
        schedule_read = planned.spelled texts.plan.s texts.plan.schedule_read;
        known = texts.plan.known;
        run = texts.plan.run;
      };
    };
  }
