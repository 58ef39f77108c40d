-- The answer of a step.
use Rattle.std.specs.Prelude.{◌≡◌, ◌≢◌, ℕ, Bool, true, false, Option, None, Some, slice_get}
use Rattle.brc_model.specs.Actions.{StepActor}
use Rattle.brc_model.specs.Safety.{has_gone}
use Rattle.brc_model.specs.World.{World}
use Rattle.brc_world.specs.declared.did.Did.{Did}
use Rattle.brc_world.specs.declared.did.Did.TheVariants.{Moved, Same, Gone}

abbrev pub is_gone : Option StepActor → Bool
is_gone None = false
is_gone (Some a) = has_gone a.actor.status

abbrev pub is_gone_at : World → ℕ → Bool
is_gone_at w t = is_gone (slice_get w.actors t)

-- the answer is Gone if the thread was gone, else Same if nothing changed, and else Moved
abbrev pub IsAnswer : World → ℕ → World → Did → Type 0
IsAnswer old t new Gone = is_gone_at old t ≡ true
IsAnswer old t new Same = (is_gone_at old t ≡ false) × (new ≡ old)
IsAnswer old t new Moved = (is_gone_at old t ≡ false) × (new ≢ old)
