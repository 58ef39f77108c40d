use Rattle.brc_command.proofs.ReadFiles.{if_ok, reads_as_module}
use Rattle.brc_command.proofs.loading.load_module.Goals as goal

pub returns-clause-loaded : goal.returns-clause-loaded
returns-clause-loaded g c =
    if_ok (λ bytes. reads_as_module c.one_reading.ensures.one_fault c.one_reading.ensures.apart
    (g.L.Load.may_give c.args.load.now) c.args.path.now bytes.items) c.load_for.result c.load_for.ensures.loaded
