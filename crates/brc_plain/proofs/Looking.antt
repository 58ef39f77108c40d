-- What the code sees of a thread's next step is what the model sees.
use Rattle.std.proofs.Common.{◌≡◌, ℕ, map, refl, ◌∙◌}
use Rattle.std.specs.Prelude.{Option, Some, slice_get}
use Rattle.brc_model.specs.declared.address.Address.{Address}
use Rattle.brc_model.specs.declared.duty.Duty.{Duty}
use Rattle.brc_model.specs.declared.layout.Layout.{Layout}
use Rattle.brc_model.specs.declared.thread.Choice.{Choice}
use Rattle.brc_model.specs.Action.{StepActor, Action}
use Rattle.brc_model.specs.Dispatch.{action_of}
use Rattle.brc_model.specs.Duties.{address_of, new_word}
use Rattle.brc_machine.specs.declared.sight.Event.TheVariants as events
use Rattle.brc_machine.specs.declared.sight.Sight.{Sight}
use Rattle.brc_machine.specs.Sights.{duty_event, sight_by}
use Rattle.brc_plain.specs.declared.plain.Plain.{Plain}
use Rattle.brc_plain.specs.declared.thread.Thread.{Thread}
use Rattle.brc_plain.specs.Plains.{machine_in}
use Rattle.brc_plain.specs.Sights.{sight_in}
use Rattle.brc_plain.specs.Threads.{actor_of}
use Rattle.brc_plain.specs.Begun.{no_states}

-- The sight of the thread's action is that of its step.
pub seen_by : (p : Plain) (n own : ℕ) (choice : Choice) (thread : Thread) (act : Action) (sight : Option Sight)
    → slice_get (map actor_of p.threads.items) n ≡ Some (actor_of thread) → own ≡ n
    → act ≡ action_of (machine_in p).functions no_states (machine_in p).layout own (actor_of thread) choice
    → sight ≡ sight_by (machine_in p).layout own (machine_in p).memory (actor_of thread) choice act
    → sight ≡ sight_in (machine_in p) n choice
seen_by p n own choice thread act sight found same is seen = rw found (seen ∙ rw (is, same) refl)

-- The event of the duty is put together from its parts.
pub duty_seen : (layout : Layout) (t : ℕ) (memory : Address → ℕ) (a : StepActor) (d : Duty) (address : Address)
    (found left : ℕ) → address ≡ address_of layout t a.actor.head d → found ≡ memory address
    → left ≡ new_word layout t a.actor.head d found
    → events.Does d address found left ≡ duty_event layout t memory a d
duty_seen layout t memory a d address found left is_address is_found is_left =
    rw (is_left, is_found, is_address) refl
