-- What a thread of the plain machine does at an event, as the model says it.
use Rattle.std.specs.Prelude.{ℕ, ◌==◌, if◌then◌else◌, List, [], ◌∷◌, map, reverse, Some, slice_set}
use Rattle.brc_word.specs.Words.{free_word}
use Rattle.brc_model.specs.declared.actor.Place.{Place as ModelPlace}
use Rattle.brc_model.specs.declared.actor.Place.TheVariants as places
use Rattle.brc_model.specs.declared.actor.Stage.TheVariants.{Called, Found}
use Rattle.brc_model.specs.declared.duty.Duty.{Duty}
use Rattle.brc_model.specs.declared.duty.Duty.TheVariants as duties
use Rattle.brc_model.specs.declared.state.Exit.{Exit}
use Rattle.brc_model.specs.Kinds.{kind_of_word, same_kind}
use Rattle.brc_model.specs.Actions.{by_item, by_range}
use Rattle.brc_model.specs.Action as model
use Rattle.brc_plain.specs.declared.act.Act.{Act}
use Rattle.brc_plain.specs.declared.act.Act.TheVariants.{Skip, Stuck, Silent, Calls, Does}
use Rattle.brc_plain.specs.declared.act.Rest.{Rest}
use Rattle.brc_plain.specs.declared.act.Rest.TheVariants.{Nothing, Settle, SettleAndLeave, Agenda}
use Rattle.brc_plain.specs.declared.act.AfterCall.{AfterCall}
use Rattle.brc_plain.specs.declared.act.AfterCall.TheVariants.{ByExit, Kept}
use Rattle.brc_plain.specs.declared.act.AfterDuty.{AfterDuty}
use Rattle.brc_plain.specs.declared.act.AfterDuty.TheVariants.{Always, IfFree, ByRange, Borrows, Fetches, ByKind}
use Rattle.brc_plain.specs.Bags.{move_in}
use Rattle.brc_plain.specs.Places.{context_in, place_in}

abbrev pub rest_in : Rest → List Duty
rest_in Nothing = []
rest_in Settle = duties.Settle ∷ []
rest_in (SettleAndLeave rows) = duties.Settle ∷ duties.Leave 0 rows ∷ []
rest_in (Agenda agenda) = reverse agenda.items

-- the place to which the exit of the host call leads
abbrev pub place_by : AfterCall → Exit → ModelPlace
place_by (ByExit success fault) = model.by_exit (place_in success) (place_in fault)
place_by (Kept context at variables) = λ exit. places.Inside (context_in context) at variables (Called exit)

-- the place to which the word that the duty finds leads
abbrev pub place_at : AfterDuty → ℕ → ModelPlace
place_at (Always place) = model.always (place_in place)
place_at (IfFree free taken) = λ found. if found == free_word then place_in free else place_in taken
place_at (ByRange index inside outside) = by_range index (place_in inside) (place_in outside)
place_at (Borrows empty context at variables to) =
    by_item (place_in empty) (λ item. places.InCall (context_in context) at (slice_set variables to (Some item)))
place_at (Fetches empty context at variables) =
    by_item (place_in empty) (λ item. places.Inside (context_in context) at variables (Found item))
place_at (ByKind context kind same other variables) =
    λ found. places.InCall (context_in context) (if same_kind (kind_of_word found) kind then same else other) variables

abbrev pub act_in : Act → model.Action
act_in Skip = model.Skip
act_in Stuck = model.Stuck
act_in (Silent moves place) = model.Silent (map move_in moves.items) (place_in place)
act_in (Calls row after) = model.Calls row (place_by after)
act_in (Does duty rest after) = model.Does duty (rest_in rest) (place_at after)
