-- The model's threads are the code's, one by one.
use Rattle.std.proofs.Common.{◌≡◌, ℕ, zero, suc, Bool, List, [], ◌∷◌, map, refl, ap}
use Rattle.std.specs.Prelude.{◌&&◌, Option, None, Some, slice_get}
use Rattle.std.specs.List.{list_all}
use Rattle.brc_model.specs.declared.actor.Actor.{Actor}
use Rattle.brc_model.specs.Action.{StepActor}
use Rattle.brc_model.specs.Safety.{has_gone}
use Rattle.brc_model.specs.StepMachine.{its_actor}
use Rattle.brc_plain.specs.declared.thread.Thread.{Thread}
use Rattle.brc_plain.specs.Threads.{actor_of}

abbrev pub actor_in : Option Thread → Option StepActor
actor_in None = None
actor_in (Some thread) = Some (actor_of thread)

pub get_in : (threads : List Thread) (n : ℕ) → slice_get (map actor_of threads) n ≡ actor_in (slice_get threads n)
get_in [] n = refl
get_in (thread ∷ threads) zero = refl
get_in (thread ∷ threads) (suc n) = get_in threads n

-- All threads of the code are gone exactly if all of the model's are.
pub gone_in : (threads : List Thread)
    → list_all (λ (thread : Thread). has_gone thread.status) threads
    ≡ list_all (λ (a : Actor). has_gone a.status) (map its_actor (map actor_of threads))
gone_in [] = refl
gone_in (thread ∷ threads) = ap (λ (b : Bool). has_gone thread.status && b) (gone_in threads)
