-- The counting machine under a step machine: its threads, and what an action does to it.
use Rattle.std.proofs.Common.{◌≡◌, ℕ, List, [], Some, sym}
use Rattle.std.specs.Prelude.{slice_get}
use Rattle.brc_model.specs.declared.actor.Place.{Place}
use Rattle.brc_model.specs.declared.duty.Duty.{Duty}
use Rattle.brc_model.specs.Duties.{address_of}
use Rattle.brc_model.specs.AbstractState.{Move}
use Rattle.brc_model.specs.Machine.{with_actor, with_moves, machine_by_duty}
use Rattle.brc_model.specs.declared.state.Exit.{Exit}
use Rattle.brc_model.specs.Actions.{StepActor}
use Rattle.brc_model.specs.StepMachine.{StepMachine, its_actor, counting, at_place, step_actor, silent_by, called_by, does_by}
use Rattle.brc_model.proofs.Basics.Lists.{slice_get-image, map-set}

pub its_found : (m : StepMachine) (t : ℕ) (a : StepActor) → slice_get m.actors t ≡ Some a
    → slice_get (counting m).actors t ≡ Some a.actor
its_found m t a found = slice_get-image its_actor m.actors t a found

-- A silent step changes nothing of the counting machine but the references.
pub counting_silent : (m : StepMachine) (t : ℕ) (a : StepActor) (moves : List Move) (place : Place)
    → with_moves (with_actor (counting m) t a.actor) moves ≡ counting (silent_by m t a moves place)
counting_silent m t a moves place =
    let new = with_moves (with_actor (counting m) t a.actor) moves in
    λ i. record new { actors = sym (map-set its_actor m.actors t (at_place a place)) i }

-- A host call changes nothing of the counting machine.
pub counting_called : (m : StepMachine) (t : ℕ) (a : StepActor) (exit : Exit) (place : Exit → Place)
    → with_moves (with_actor (counting m) t a.actor) [] ≡ counting (called_by m t a exit place)
counting_called m t a exit place = counting_silent m t a [] (place exit)

-- A duty's step is the counting machine's step.
pub counting_done : (m : StepMachine) (t : ℕ) (a : StepActor) (exit : Exit) (d : Duty) (rest : List Duty)
    (place : ℕ → Place) → machine_by_duty (counting m) t a.actor d rest ≡ counting (does_by m t a exit d rest place)
counting_done m t a exit d rest place =
    let new = machine_by_duty (counting m) t a.actor d rest in
    let found = m.memory (address_of m.layout t a.actor.head d) in
    let after = step_actor m.layout t a d rest (place found) found in
    λ i. record new { actors = sym (map-set its_actor m.actors t after) i }
