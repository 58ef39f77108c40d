-- The trace of a list of events: the lines of its steps, in order. A claim or a stop that may not be made is no step,
-- and has a line that says so. Other events of a thread that is gone have no line, but are counted.
use Rattle.std.specs.Prelude.{◌≡◌, ℕ, ◌+◌, ◌^◌, ◌-◌, min, List, [], ◌∷◌, ◌++◌, length, Option, None, Some, slice_index_or, slice_set, replicate}
use Rattle.std.specs.List.{flat_map}
use Rattle.std.specs.Io.KnownBytes.{Appends}
use Rattle.brc_lang.specs.declared.module.Function.{Function}
use Rattle.brc_lang.specs.Written.{AppendsBeginning}
use Rattle.brc_report.specs.declared.paint.Paint.{Paint}
use Rattle.brc_model.specs.declared.thread.Choice.{Choice}
use Rattle.brc_model.specs.World.{World, step}
use Rattle.brc_machine.specs.declared.sight.Part.{Part}
use Rattle.brc_machine.specs.declared.sight.Part.TheVariants.{Instruction}
use Rattle.brc_machine.specs.declared.sight.Sight.{Sight}
use Rattle.brc_world.specs.Runs.{world_after}
use Rattle.brc_world.specs.Sights.{sight_at}
use Rattle.brc_trace.specs.declared.entry.Entry.{Entry}
use Rattle.brc_trace.specs.declared.past.Doing.{Doing}
use Rattle.brc_trace.specs.declared.past.Past.{Past}
use Rattle.brc_trace.specs.Depths.{crossing_at, depth_after}
use Rattle.brc_trace.specs.EntryTexts.{entry_text}
use Rattle.brc_trace.specs.NoOpTexts.{no_op_text}

-- ---- what a trace remembers

-- what a thread does before its first step, whose sight names its part
abbrev pub first_doing : Doing
first_doing = record { part = Instruction 0; depth = 1 }

abbrev pub first_past : ℕ → Past
first_past threads = record { threads = replicate threads first_doing; number = 1 }

-- the part that a step belongs to: the one that its sight names, or else that of the thread's last step
abbrev pub part_now : Doing → Option Part → Part
part_now doing None = doing.part
part_now doing (Some part) = part

-- what a thread does once it has taken the step
abbrev pub doing_after : List Function → Doing → Sight → Doing
doing_after functions doing sight = record {
  part = part_now doing sight.begins;
  depth = depth_after (crossing_at functions doing.depth sight) doing.depth;
}

-- what thread t does
abbrev pub doing_of : Past → ℕ → Doing
doing_of past t = slice_index_or past.threads t first_doing

abbrev pub threads_by : List Function → Past → ℕ → Option Sight → List Doing
threads_by functions past t None = past.threads
threads_by functions past t (Some sight) =
    slice_set past.threads t (doing_after functions (doing_of past t) sight)

-- the greatest number of a step: those behind it have it too
abbrev pub most_number : ℕ
most_number = 2 ^ 64 - 1

-- what is remembered after an event of thread t
abbrev pub past_by : List Function → Past → ℕ → Option Sight → Past
past_by functions past t sight =
    record { threads = threads_by functions past t sight; number = min (past.number + 1) most_number }

-- ---- the entries

abbrev pub entries_by : Past → ℕ → Option Sight → List Entry
entries_by past t None = []
entries_by past t (Some sight) =
    record {
      number = past.number;
      thread = t;
      doing = record { part = part_now (doing_of past t) sight.begins; depth = (doing_of past t).depth };
      sight = sight;
    } ∷ []

abbrev pub entries_at : World → Past → ℕ × Choice → List Entry
entries_at w past event = entries_by past event.0 (sight_at w event.0 event.1)

abbrev pub past_at : List Function → World → Past → ℕ × Choice → Past
past_at functions w past event = past_by functions past event.0 (sight_at w event.0 event.1)

-- Returns the entries of the events, one for each step, from a world of a module of these functions, and what is
-- remembered there.
abbrev pub entries_on : List Function → World → Past → List (ℕ × Choice) → List Entry
entries_on functions w past [] = []
entries_on functions w past (event ∷ rest) =
    entries_at w past event
    ++ entries_on functions (step w event.0 event.1) (past_at functions w past event) rest

abbrev pub past_after : List Function → World → Past → List (ℕ × Choice) → Past
past_after functions w past [] = past
past_after functions w past (event ∷ rest) =
    past_after functions (step w event.0 event.1) (past_at functions w past event) rest

-- ---- the text

abbrev pub lines_text : Paint → List Function → List Entry → List ℕ
lines_text paint functions entries = flat_map (entry_text paint functions) entries

-- the line of an event of thread t by the choice: of its step, or of a claim or a stop that changes nothing
abbrev pub text_by : Paint → List Function → Past → ℕ → Choice → Option Sight → List ℕ
text_by paint functions past t choice None = no_op_text paint past.number t choice
text_by paint functions past t choice (Some sight) = lines_text paint functions (entries_by past t (Some sight))

abbrev pub text_at : Paint → List Function → World → Past → ℕ × Choice → List ℕ
text_at paint functions w past event =
    text_by paint functions past event.0 event.1 (sight_at w event.0 event.1)

-- Returns the lines of the events, from a world of a module of these functions, and what is remembered there.
abbrev pub text_on : Paint → List Function → World → Past → List (ℕ × Choice) → List ℕ
text_on paint functions w past [] = []
text_on paint functions w past (event ∷ rest) =
    text_at paint functions w past event
    ++ text_on paint functions (step w event.0 event.1) (past_at functions w past event) rest

-- Returns the trace of the events from a world in which no step has been taken yet.
abbrev pub trace_text : Paint → World → List (ℕ × Choice) → List ℕ
trace_text paint w events = text_on paint w.functions w (first_past (length w.actors)) events

-- ---- a trace that is written

-- The world after the first events of the list.
pub record StandsAmong (old : World) (events : List (ℕ × Choice)) (new : World) : Type 0 where
  pub made : List (ℕ × Choice)
  pub left : List (ℕ × Choice)
  pub parts : events ≡ made ++ left
  pub stands : new ≡ world_after old made

-- All events have been made, and their lines written.
pub record IsTraced (paint : Paint) (functions : List Function) (old : World) (past : Past)
    (events : List (ℕ × Choice)) (new : World) (now : Past) (before after : Option (List ℕ)) : Type 0 where
  pub made : new ≡ world_after old events
  pub remembers : now ≡ past_after functions old past events
  pub written : Appends before after (text_on paint functions old past events)

-- Some of the events have been made, and a beginning of their lines is written.
pub record StopsAmong (paint : Paint) (functions : List Function) (old : World) (past : Past)
    (events : List (ℕ × Choice)) (new : World) (before after : Option (List ℕ)) : Type 0 where
  pub stands : StandsAmong old events new
  pub begun : AppendsBeginning before after (text_on paint functions old past events)
