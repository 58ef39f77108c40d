-- The steps so far are objects.
use Rattle.std.specs.Prelude.{◌≡◌, map, take}
use Rattle.serde_json.specs.View.{view}
use Rattle.brc_command.specs.Objects.{step_object}
use Rattle.brc_command.proofs.object.path_of.Given as goal

abbrev pub invariant-loop-row : goal.invariant-loop-row
invariant-loop-row l = map view l.steps.items ≡ map step_object (take l.row-index l.rows)
