-- Whether a thread between its calls begins the next one unfit.
use Rattle.std.proofs.Common.{◌≡◌, ◌≢◌, ℕ, zero, suc, List, Option, refl}
use Rattle.std.specs.Prelude.{slice_get}
use Rattle.brc_lang.specs.declared.module.Instr.{Instr}
use Rattle.brc_model.specs.declared.actor.Place.TheVariants.{Idle}
use Rattle.brc_model.specs.declared.address.Address.{Address}
use Rattle.brc_model.specs.Needs.{lacks_needs, starts_unfit}
use Rattle.brc_model.specs.Threads.{entry_variables}

-- With a call left, it begins at the first instruction.
pub unfit_when_idle : (memory : Address → ℕ) (locked : Option ℕ) (code : List Instr) (left : ℕ) → left ≢ 0
    → lacks_needs memory locked entry_variables (slice_get code 0) ≡ starts_unfit memory locked code (Idle left)
unfit_when_idle memory locked code zero some = absurd (some refl)
unfit_when_idle memory locked code (suc left) some = refl
