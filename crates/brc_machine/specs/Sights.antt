-- Sights: what a thread's next step does, as it can be seen before the step is taken.
use Rattle.std.specs.Prelude.{ℕ, zero, Bool, true, false, if◌then◌else◌, List, [], ◌∷◌, Option, None, Some}
use Rattle.std.specs.List.{list_any, flat_map}
use Rattle.brc_lang.specs.declared.kind.Kind.{Kind}
use Rattle.brc_model.specs.declared.address.Address.{Address}
use Rattle.brc_model.specs.declared.address.Address.TheVariants.{KindOf}
use Rattle.brc_model.specs.declared.actor.Place.{Place}
use Rattle.brc_model.specs.declared.actor.Place.TheVariants.{Idle, InCall, Inside, Stopping, Exiting}
use Rattle.brc_model.specs.declared.duty.Duty.{Duty}
use Rattle.brc_model.specs.declared.duty.Duty.TheVariants.{BirthLocal, Leave, Scan}
use Rattle.brc_model.specs.declared.layout.Layout.{Layout}
use Rattle.brc_model.specs.declared.thread.Choice.{Choice}
use Rattle.brc_model.specs.declared.thread.Choice.TheVariants.{Ok, Fault, Claim, Stop}
use Rattle.brc_model.specs.Threads.{number_in}
use Rattle.brc_model.specs.Actions.{StepActor, Action, Skip, Stuck, Silent, Calls, Does}
use Rattle.brc_model.specs.Dispatch.{exit_of}
use Rattle.brc_model.specs.Duties.{address_of, new_word}
use Rattle.brc_model.specs.Kinds.{kind_of_word}
use Rattle.brc_model.specs.Machine.{is_running}
use Rattle.brc_model.specs.declared.event.WordEvent.{WordEvent}
use Rattle.brc_model.specs.Trace.{is_word}
use Rattle.brc_machine.specs.declared.sight.Event.{Event}
use Rattle.brc_machine.specs.declared.sight.Event.TheVariants as events
use Rattle.brc_machine.specs.declared.sight.ExitPart.{ExitPart}
use Rattle.brc_machine.specs.declared.sight.ExitPart.TheVariants as exit_parts
use Rattle.brc_machine.specs.declared.sight.Part.{Part}
use Rattle.brc_machine.specs.declared.sight.Part.TheVariants as parts
use Rattle.brc_machine.specs.declared.sight.Sight.{Sight}

-- ---- the part of a thread's work

-- Says whether the duty announces the thread's exit.
abbrev pub is_leave : Duty → Bool
is_leave (Leave i n) = true
is_leave _ = false

-- Says whether the duty scans the thread's marks.
abbrev pub is_scan : Duty → Bool
is_scan (Scan i n) = true
is_scan _ = false

-- Says whether the thread's next duty announces its exit.
abbrev pub leaves_next : List Duty → Bool
leaves_next [] = false
leaves_next (d ∷ rest) = is_leave d

-- Returns the part of its exit in which a thread with this agenda is. The duty that announces the exit is behind all
-- that the release of the root leads to, and the scan of the further marks behind all that one mark leads to.
abbrev pub exit_part : List Duty → ExitPart
exit_part agenda =
    if leaves_next agenda then exit_parts.Leave
    else if list_any is_leave agenda then exit_parts.Root
    else if list_any is_scan agenda then exit_parts.Marks
    else exit_parts.Gone

-- the number of the place's instruction, if it is in a call
abbrev pub point_at : Place → ℕ
point_at (Idle left) = 0
point_at (InCall context at variables) = at
point_at (Inside context at variables stage) = at
point_at (Stopping lock calls) = 0
point_at Exiting = 0

-- Returns the part to which the next step of a thread with this place and this agenda belongs, if they say it. A thread
-- with an empty agenda begins an instruction, goes on inside one, goes on after a stop, or begins its exit.
abbrev pub next_part : Place → List Duty → Option Part
next_part Exiting agenda = Some (parts.Exit (exit_part agenda))
next_part (Stopping lock calls) [] = Some parts.Stop
next_part (Idle zero) [] = Some (parts.Exit exit_parts.Root)
next_part place [] = Some (parts.Instruction (point_at place))
next_part place (d ∷ rest) = None

-- Returns the part to which the thread's step by the choice belongs, if it is said.
abbrev pub begins_at : StepActor → Choice → Option Part
begins_at a Ok = next_part a.place a.actor.agenda
begins_at a Fault = next_part a.place a.actor.agenda
begins_at a (Claim row) = Some (parts.Claim row)
begins_at a Stop = Some parts.Stop

-- ---- the event

-- the value that the duty finds in its word
abbrev pub found_by : Layout → ℕ → (Address → ℕ) → StepActor → Duty → ℕ
found_by layout t memory a d = memory (address_of layout t a.actor.head d)

-- Returns the event of the thread's duty: the address of its word, the value found there and the value left.
abbrev pub duty_event : Layout → ℕ → (Address → ℕ) → StepActor → Duty → Event
duty_event layout t memory a d =
    events.Does d (address_of layout t a.actor.head d) (found_by layout t memory a d)
    (new_word layout t a.actor.head d (found_by layout t memory a d))

-- Returns the kind of the object that the duty makes: with its last duty a birth is done.
abbrev pub kind_born : (Address → ℕ) → Duty → Option Kind
kind_born memory (BirthLocal x h) = Some (kind_of_word (memory (KindOf x)))
kind_born memory _ = None

-- ---- the sight

-- the sight of the thread's step with the event
abbrev pub sight_of : Layout → StepActor → Choice → Event → Option Kind → Sight
sight_of layout a choice event born = record {
  layout = layout;
  begins = begins_at a choice;
  event = event;
  function = number_in a.function a.place;
  running = is_running a.actor.status;
  head = a.actor.head;
  exit = exit_of choice;
  born = born;
}

-- Returns the sight of the thread's action, if it takes a step. A claim that finds no mark, and a lock that finds the
-- object locked, are steps on a word too.
abbrev pub sight_by : Layout → ℕ → (Address → ℕ) → StepActor → Choice → Action → Option Sight
sight_by layout t memory a choice Skip = None
sight_by layout t memory a choice Stuck = None
sight_by layout t memory a choice (Silent moves place) = Some (sight_of layout a choice events.Silent None)
sight_by layout t memory a choice (Calls row place) =
    Some (sight_of layout a choice (events.Calls (exit_of choice)) None)
sight_by layout t memory a choice (Does d rest place) =
    Some (sight_of layout a choice (duty_event layout t memory a d) (kind_born memory d))

-- the sight of a step, if one is taken, as a list
abbrev pub listed : Option Sight → List Sight
listed None = []
listed (Some sight) = sight ∷ []

-- ---- the word events that sights show

-- Returns the word events of a step's event: none if it is on no word.
abbrev pub words_of : Event → List WordEvent
words_of events.Silent = []
words_of (events.Calls exit) = []
words_of (events.Does d address found left) =
    if is_word address then record { address = address; found = found; left = left } ∷ [] else []

-- the word events that the sights show, in order
abbrev pub words_shown : List Sight → List WordEvent
words_shown sights = flat_map (λ sight. words_of sight.event) sights
