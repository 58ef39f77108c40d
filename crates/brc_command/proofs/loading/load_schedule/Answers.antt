use Rattle.brc_command.proofs.ReadFiles.{if_ok, reads_as_schedule}
use Rattle.brc_command.proofs.loading.load_schedule.Goals as goal

pub returns-clause-loaded : goal.returns-clause-loaded
returns-clause-loaded g c =
    if_ok (λ bytes. reads_as_schedule c.one_schedule.ensures.one_fault c.one_schedule.ensures.apart
    (g.L.Load.may_give c.args.load.now) c.args.path.now bytes.items) c.load_for.result c.load_for.ensures.loaded
