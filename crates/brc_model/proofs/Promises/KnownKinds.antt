-- The object that a variable names has the kind that the checker says, in each machine that an accepted module's events
-- lead to.
use Rattle.brc_lang.specs.declared.module.Module.{Module}
use Rattle.brc_lang.specs.Grammar.{IsModule}
use Rattle.brc_model.specs.Paths.{IsAcceptable}
use Rattle.brc_model.specs.Progress.{Always}
use Rattle.brc_model.specs.KnownKinds.{KindsAreKnown}
use Rattle.brc_model.proofs.Promises.RowLaws.{always}

pub kinds_are_known : (p : Module) → IsModule p → IsAcceptable p → Always KindsAreKnown p
kinds_are_known = always KindsAreKnown (λ p n m whole t a found. (whole.kinds.known t a found).0)
