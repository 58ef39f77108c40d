use Rattle.std.proofs.Common.{refl, sym}
use Rattle.brc_c_paths.proofs.judging.is_listed.Goals as goal

pub returns-then-is_fault : goal.returns-then-is_fault
returns-then-is_fault c so =
    let found = c.if-is_fault.ensures refl in
    record {
      fault = c.fault-item.result;
      listed = (c.loop-fault.fault-index, c.loop-fault-test.true, sym c.fault-item.is);
      there = found.0;
      breaks = found.1;
    }
