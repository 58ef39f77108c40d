use Rattle.brc_c_store.specs.Registers.{all_registers}
use Rattle.brc_c_store.proofs.register.RegisterSet.first.Goals as goal

pub returns : goal.returns
unfolding all_registers
returns c = c.next_above.ensures
