use Rattle.std.proofs.Common.{◌≡◌, ◌≤◌}
use Rattle.brc_c_store.specs.Registers.{has_register, size_of}
use Rattle.brc_c_store.proofs.RegistersFrom.{registers_from, counted}
use Rattle.brc_c_store.proofs.register.RegisterSet.count.Given as goal

abbrev pub invariant-loop-number : goal.invariant-loop-number
invariant-loop-number l =
    (l.count ≤ l.number) × (counted (has_register l.self) l.count (registers_from l.number) ≡ size_of l.self)
