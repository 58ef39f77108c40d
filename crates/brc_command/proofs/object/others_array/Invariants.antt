-- The refusals so far are objects.
use Rattle.std.specs.Prelude.{◌≡◌, map, take}
use Rattle.serde_json.specs.View.{view}
use Rattle.brc_command.specs.Objects.{other_object}
use Rattle.brc_command.proofs.object.others_array.Given as goal

abbrev pub invariant-loop-other : goal.invariant-loop-other
invariant-loop-other l = map view l.objects.items ≡ map other_object (take l.other-index l.others)
