-- The tally of a machine, from its abstract state: what was born and closed there, and the kind of each object.
use Rattle.std.specs.Prelude.{ℕ, ◌-◌, Bool, ◌&&◌, not, List, length, map, filter, count_by}
use Rattle.std.specs.List.{range_with_len}
use Rattle.brc_model.specs.AbstractState.{AbstractState, is_among}
use Rattle.brc_model.specs.Actions.{StepActor}
use Rattle.brc_model.specs.Layout.{row_count}
use Rattle.brc_model.specs.Safety.{has_gone}
use Rattle.brc_model.specs.StepMachine.{StepMachine}
use Rattle.brc_report.specs.declared.tally.Tally.{Tally}
use Rattle.brc_report.specs.declared.tally.Left.{Left}

-- the thread isn't gone
abbrev pub still_runs : StepActor → Bool
still_runs a = not (has_gone a.actor.status)

-- the object is born, and not closed
abbrev pub is_left : AbstractState → ℕ → Bool
is_left p row = is_among row p.born && not (is_among row p.closed)

-- the objects that are left, in rising order of their rows
abbrev pub objects_left : StepMachine → List ℕ
objects_left m = filter (is_left m.abstract) (range_with_len 1 (row_count m.layout - 1))

abbrev pub left_object : AbstractState → ℕ → Left
left_object p row = record { row = row; kind = p.kinds row }

-- the tally of the machine
abbrev pub machine_tally : StepMachine → Tally
machine_tally m = record {
  threads = length m.actors - 1;
  running = count_by still_runs m.actors;
  created = length m.abstract.born;
  closed = length m.abstract.closed;
  alive = length m.abstract.born - length m.abstract.closed;
  host_faults = m.host_faults;
  close_faults = m.close_faults;
  left = map (left_object m.abstract) (objects_left m);
}
