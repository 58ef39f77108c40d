-- A call that waits for the one that it has made, as the model says it.
use Rattle.brc_model.specs.declared.actor.OpenCall.{OpenCall as ModelCall}
use Rattle.brc_machine.specs.declared.open_call.OpenCall.{OpenCall}

abbrev pub open_of : OpenCall → ModelCall
open_of o = record {
  callee = o.callee;
  at = o.at;
  variables = o.variables;
  turns = o.turns;
  to = o.to;
  otherwise = o.otherwise;
}
