use Rattle.std.proofs.Common.{◌≡◌, ◌∷◌, take, map}
use Rattle.brc_model.specs.StepMachine.{main_actor, worker_actor}
use Rattle.brc_plain.specs.Threads.{actor_of}
use Rattle.brc_plain.proofs.first.first_threads.Given as goal

abbrev pub invariant-loop-call : goal.invariant-loop-call
invariant-loop-call l =
    map actor_of l.threads.items ≡ main_actor l.fn.layout ∷ map worker_actor (take l.call-index l.calls)
