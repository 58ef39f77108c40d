use Rattle.std.proofs.Common.{rules, ◌≢◌, arith}
use Rattle.brc_lang.specs.declared.fault.FaultCode.TheVariants.{CutOff, NoMemory}
use Rattle.brc_command.proofs.ReadFiles.{lasts}
use Rattle.brc_command.proofs.loading.is_at_fault.Goals as goal

pub returns-clause-lasting : goal.returns-clause-lasting
returns-clause-lasting c = λ _.
    let read : c.in-Some.fault.code ≢ NoMemory = search rules in
    let whole : c.in-Some.fault.code ≢ CutOff = search rules in
    lasts c.fault_stays.ensures c.fault_stays-2.ensures c.args.wanted c.args.bytes.now c.in-Some.fault (omega arith)
    whole read c.in-Some.ensures
