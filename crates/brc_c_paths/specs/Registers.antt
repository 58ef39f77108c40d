-- Sets of registers.
use Rattle.std.specs.Prelude.{not, ◌&&◌, fold, filter}
use Rattle.brc_c_store.specs.declared.register.RegisterSet.{RegisterSet}
use Rattle.brc_c_store.specs.Registers.{all_registers, no_registers, has_register, with_register, union_of}
use Rattle.brc_c_store.specs.Stores.{Contents, with_item}

-- the registers of the first set that aren't in the other one
abbrev pub difference_of : RegisterSet → RegisterSet → RegisterSet
difference_of set others =
    fold with_register no_registers (filter (λ r. has_register set r && not (has_register others r)) all_registers)

-- the registers that have the borrowed items of known objects
abbrev pub known_items : Contents → RegisterSet
known_items c = fold (λ items object. with_item items object.base) no_registers c.objects

-- the registers that have borrowed items
abbrev pub items_of : Contents → RegisterSet
items_of c = union_of (known_items c) c.stale
