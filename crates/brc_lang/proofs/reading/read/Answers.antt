use Rattle.brc_lang.proofs.Uniqueness.{found, fault, only, refused}
use Rattle.brc_lang.proofs.reading.read.Goals as goal

pub returns-clause-found : goal.returns-clause-found
returns-clause-found c = found c.args.bytes.now c.read_module.result c.read_module.ensures

pub returns-clause-fault : goal.returns-clause-fault
returns-clause-fault c = fault c.args.bytes.now c.read_module.result c.read_module.ensures

pub returns-clause-only : goal.returns-clause-only
returns-clause-only c = only c.args.bytes.now c.read_module.result c.read_module.ensures

pub returns-clause-refused : goal.returns-clause-refused
returns-clause-refused c = refused c.args.bytes.now c.read_module.result c.read_module.ensures
