use Rattle.std.proofs.Common.{◌≡◌, not}
use Rattle.brc_c_store.specs.Registers.{has_register, others_of}
use Rattle.brc_c_store.proofs.RegistersFrom.{registers_from, with_those}
use Rattle.brc_c_store.proofs.register.RegisterSet.others.Given as goal

abbrev pub invariant-loop-number : goal.invariant-loop-number
invariant-loop-number l =
    with_those (λ r. not (has_register l.self r)) l.others (registers_from l.number) ≡ others_of l.self
