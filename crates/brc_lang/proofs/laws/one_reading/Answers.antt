use Rattle.brc_lang.proofs.Uniqueness.{one_module, one_fault, apart}
use Rattle.brc_lang.proofs.laws.one_reading.Goals as goal

pub returns-clause-one_module : goal.returns-clause-one_module
returns-clause-one_module c = one_module

pub returns-clause-one_fault : goal.returns-clause-one_fault
returns-clause-one_fault c = one_fault

pub returns-clause-apart : goal.returns-clause-apart
returns-clause-apart c = apart
