-- Registers, and sets of registers: a set is a number, in which each register has a bit.
use Rattle.std.specs.Prelude.{ℕ, ◌%◌, ◌^◌, Bool, not, ◌&&◌, ◌==◌, nat_lt, if◌then◌else◌, List, Option, None, Some, find}
use Rattle.std.specs.Prelude.{filter, count_by, fold, map, bit_and, bit_or, option_and_then, is_some}
use Rattle.std.specs.Int.{bit_not, w16}
use Rattle.std.specs.List.{range_with_len, last_or}
use Rattle.brc_c_store.specs.declared.register.Register.{Register}
use Rattle.brc_c_store.specs.declared.register.RegisterSet.{RegisterSet}

abbrev pub register_of : ℕ → Register
register_of number = record { 0 = number }

-- the registers: the module's variables v3 to v15
unfoldable pub all_registers : List Register
all_registers = map register_of (range_with_len 3 13)

-- the number of the set that has this register alone
abbrev pub bit_of : Register → ℕ
bit_of r = 2 ^ (r.0 % 16)

abbrev pub no_registers : RegisterSet
no_registers = record { 0 = 0 }

abbrev pub has_none : RegisterSet → Bool
has_none set = set.0 == 0

abbrev pub has_register : RegisterSet → Register → Bool
has_register set r = not (bit_and set.0 (bit_of r) == 0)

abbrev pub with_register : RegisterSet → Register → RegisterSet
with_register set r = record { 0 = bit_or set.0 (bit_of r) }

abbrev pub without_register : RegisterSet → Register → RegisterSet
without_register set r = record { 0 = bit_and set.0 (bit_not w16 (bit_of r)) }

abbrev pub union_of : RegisterSet → RegisterSet → RegisterSet
union_of one other = record { 0 = bit_or one.0 other.0 }

-- the set's register of the least number
abbrev pub first_of : RegisterSet → Option Register
first_of set = find (has_register set) all_registers

-- the same of those after a register
abbrev pub next_of : RegisterSet → Register → Option Register
next_of set r = find (λ q. nat_lt r.0 q.0 && has_register set q) all_registers

-- the set's register of the greatest number
abbrev pub last_of : RegisterSet → Option Register
last_of set = last_or None (filter (has_register set) all_registers)

-- how many registers the set has
abbrev pub size_of : RegisterSet → ℕ
size_of set = count_by (has_register set) all_registers

-- the registers that aren't in the set
abbrev pub others_of : RegisterSet → RegisterSet
others_of set = fold with_register no_registers (filter (λ r. not (has_register set r)) all_registers)

abbrev pub without_this : RegisterSet → Option Register → RegisterSet
without_this set None = set
without_this set (Some r) = without_register set r

-- the set without its register of the greatest number, if it has one
abbrev pub without_last : RegisterSet → RegisterSet
without_last set = without_this set (last_of set)

-- the set's first register, if it has another one too
abbrev pub first_of_two : RegisterSet → Option Register
first_of_two set = option_and_then (λ r. if is_some (next_of set r) then Some r else None) (first_of set)
