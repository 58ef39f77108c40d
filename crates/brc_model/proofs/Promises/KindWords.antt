-- A kind word changes once, when a birth stores it.
use Rattle.std.proofs.Common.{ℕ, inl, inr}
use Rattle.brc_lang.specs.declared.module.Module.{Module}
use Rattle.brc_model.specs.declared.thread.Choice.{Choice}
use Rattle.brc_model.specs.StepMachine.{StepMachine}
use Rattle.brc_model.specs.KnownKinds.{KindsStay}
use Rattle.brc_model.proofs.Keeping.KindsHold.{stored_stay}
use Rattle.brc_model.proofs.Keeping.CodeInvariant.{CodeInvariant}

pub kinds_stay : (p : Module) (n : ℕ) (m : StepMachine) (event : ℕ × Choice) → CodeInvariant p n m
    → KindsStay m event
kinds_stay p n m event whole = λ x some. elim (stored_stay p n m event whole x) [
  | inl none ↦ absurd (some none)
  | inr same ↦ same
]
