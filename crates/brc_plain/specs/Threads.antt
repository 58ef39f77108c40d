-- A thread of the plain machine, as the model says it.
use Rattle.std.specs.Prelude.{[], reverse}
use Rattle.brc_model.specs.Action.{StepActor}
use Rattle.brc_plain.specs.declared.thread.Thread.{Thread}
use Rattle.brc_plain.specs.Places.{place_in}

-- The first duty of the agenda is the last one of the code's vector.
abbrev pub actor_of : Thread → StepActor
actor_of t = record {
  function = t.function;
  place = place_in t.place;
  actor = record {
    status = t.status;
    agenda = reverse t.agenda.items;
    aside = [];
    head = t.head;
    used = t.used;
    locked = t.locked;
    lent = t.lent;
  };
}
