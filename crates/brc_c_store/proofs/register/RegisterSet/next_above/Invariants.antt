use Rattle.std.proofs.Common.{◌≡◌, ◌&&◌, nat_lt, find}
use Rattle.brc_c_store.specs.Registers.{all_registers, has_register}
use Rattle.brc_c_store.proofs.RegistersFrom.{registers_from}
use Rattle.brc_c_store.proofs.register.RegisterSet.next_above.Given as goal

abbrev pub invariant-loop-number : goal.invariant-loop-number
invariant-loop-number l =
    find (λ q. nat_lt l.above q.0 && has_register l.self q) (registers_from l.number)
    ≡ find (λ q. nat_lt l.above q.0 && has_register l.self q) all_registers
