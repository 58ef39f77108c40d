use Rattle.std.proofs.Common.{◌≡◌}
use Rattle.brc_c_store.specs.Registers.{has_register, last_of}
use Rattle.brc_c_store.proofs.RegistersFrom.{registers_from, last_that}
use Rattle.brc_c_store.proofs.register.RegisterSet.last.Given as goal

abbrev pub invariant-loop-number : goal.invariant-loop-number
invariant-loop-number l = last_that (has_register l.self) l.last (registers_from l.number) ≡ last_of l.self
