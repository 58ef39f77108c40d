-- What a hand has seen, it has seen still after further steps.
use Rattle.std.proofs.Common.{ℕ, Bool, List, [], Option, refl, ap, ◌∙◌}
use Rattle.std.specs.Prelude.{◌||◌}
use Rattle.std.specs.List.{list_any}
use Rattle.std.proofs.lemmas.List.Folds.{list_any-append}
use Rattle.brc_host.specs.HostCalls.{HostCall}
use Rattle.brc_lang.specs.declared.module.Function.{Function}
use Rattle.brc_model.specs.Actions.{first_context}
use Rattle.brc_model.specs.declared.actor.Context.{Context}
use Rattle.brc_model.specs.declared.actor.Place.{Place}
use Rattle.brc_model.specs.declared.actor.Place.TheVariants.{InCall}
use Rattle.brc_model.specs.declared.duty.Duty.{Duty}
use Rattle.brc_table.specs.KnownWords.{shows_kind}
use Rattle.brc_table.specs.declared.view.View.{View}
use Rattle.brc_work.specs.declared.end.End.{End}
use Rattle.brc_work.specs.declared.end.End.TheVariants.{Returned, Failed, Stopped}
use Rattle.brc_work.specs.Acts.{KnowsMore}
use Rattle.brc_work.specs.Runs.{Configuration, IsAboutTo, RunsTo, Runs}
use Rattle.brc_work.specs.Traces.{Program, Traces}

pub traces_know : {n : ℕ} {cs : List HostCall} {program : Program} {p q : Place} {ds es : List Duty} {v u : View}
    → Traces n cs program p ds v q es u → KnowsMore v u
traces_know {v} traces = record {
  layout = traces.layout;
  kinds = λ x word seen.
      ap (list_any (shows_kind x word)) traces.trace
      ∙ (list_any-append (shows_kind x word) v.trace traces.events
      ∙ ap (λ (b : Bool). b || list_any (shows_kind x word) traces.events) seen);
}

know_then : (v u w : View) → KnowsMore v u → KnowsMore u w → KnowsMore v w
know_then v u w one other = record {
  layout = other.layout ∙ one.layout;
  kinds = λ x word seen. other.kinds x word (one.kinds x word seen);
}

-- A hand that has run a call knows what it knew.
module _ (functions : List Function) (number : ℕ) (rows : List (Option ℕ)) (may left : ℕ) (cs : List HostCall)
    (v u : View) where
  abbrev its : Program
  its = record { functions = functions; first = number }

  abbrev context : Context
  context = first_context 0

  abbrev place : Place
  place = InCall context 0 rows

  abbrev inside : Configuration
  inside = record { place = place; context = context; variables = rows; may = may }

  about : IsAboutTo its number inside
  about = record {
    comes = record { does = λ layout t used. refl; names = refl; begins = refl; begun = refl };
    calls = refl;
    turns = refl;
    inside = λ none. refl;
  }

  ran : (end : End) → RunsTo its inside left end cs v u → KnowsMore v u
  ran (Returned row) (begun, from, variables, all, names, comes) = traces_know comes.makes
  ran Failed (begun, variables, all, comes) = traces_know comes.makes
  ran Stopped within =
      know_then v within.there u (traces_know within.comes) (traces_know (within.gives_up []).traces)

  pub runs_know : (end : End) → Runs functions number rows may left end cs v u → KnowsMore v u
  runs_know end runs = ran end (runs number place context about)
