-- Where a thread of the plain machine is, as the model says it.
use Rattle.std.specs.Prelude.{map}
use Rattle.brc_model.specs.declared.actor.Context.{Context as ModelContext}
use Rattle.brc_model.specs.declared.actor.Place.{Place as ModelPlace}
use Rattle.brc_model.specs.declared.actor.Place.TheVariants as places
use Rattle.brc_machine.specs.OpenCalls.{open_of}
use Rattle.brc_plain.specs.declared.place.Context.{Context}
use Rattle.brc_plain.specs.declared.place.Place.{Place}
use Rattle.brc_plain.specs.declared.place.Place.TheVariants.{Idle, InCall, Inside, Exiting}

abbrev pub context_in : Context → ModelContext
context_in c = record { left = c.left; turns = c.turns; outer = map open_of c.outer.items }

abbrev pub place_in : Place → ModelPlace
place_in (Idle left) = places.Idle left
place_in (InCall context at variables) = places.InCall (context_in context) at variables
place_in (Inside context at variables stage) = places.Inside (context_in context) at variables stage
place_in Exiting = places.Exiting
