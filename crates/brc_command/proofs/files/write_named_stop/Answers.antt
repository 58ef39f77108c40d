use Rattle.brc_command.specs.Lines.{stop_text}
use Rattle.brc_command.specs.Files.{prefix}
use Rattle.brc_command.proofs.Outputs.{first_stopped, second_stopped}
use Rattle.brc_command.proofs.files.write_named_stop.Goals as goal

pub returns-in_err-write_name-clause-begun : goal.returns-in_err-write_name-clause-begun
returns-in_err-write_name-clause-begun g c =
    first_stopped c.from_residual.result _ _ (prefix c.args.named c.args.file.now)
    (stop_text c.args.stop.now) c.in_err-write_name.ensures.begun

pub returns-clause-begun : goal.returns-clause-begun
returns-clause-begun g c =
    second_stopped c.write_stop.result _ _ _ (prefix c.args.named c.args.file.now) (stop_text c.args.stop.now)
    c.in_ok-write_name.ensures.whole c.write_stop.ensures.begun
