-- As many calls are open around a call as the model says.
use Rattle.std.proofs.Common.{◌≡◌, List, length, map}
use Rattle.std.proofs.lemmas.List.{length-map}
use Rattle.brc_machine.specs.declared.open_call.OpenCall.{OpenCall}
use Rattle.brc_machine.specs.OpenCalls.{open_of}

pub outer_length : (calls : List OpenCall) → length (map open_of calls) ≡ length calls
outer_length calls = length-map calls open_of
