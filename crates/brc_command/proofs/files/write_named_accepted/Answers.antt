use Rattle.brc_command.specs.Accepted.{accepted_text}
use Rattle.brc_command.specs.Files.{prefix}
use Rattle.brc_command.proofs.Outputs.{first_stopped, second_stopped}
use Rattle.brc_command.proofs.files.write_named_accepted.Goals as goal

pub returns-in_err-write_name-clause-begun : goal.returns-in_err-write_name-clause-begun
returns-in_err-write_name-clause-begun g c =
    first_stopped c.from_residual.result _ _ (prefix c.args.named c.args.file.now)
    (accepted_text c.args.checked.now.module) c.in_err-write_name.ensures.begun

pub returns-clause-begun : goal.returns-clause-begun
returns-clause-begun g c =
    second_stopped c.write_accepted.result _ _ _ (prefix c.args.named c.args.file.now)
    (accepted_text c.args.checked.now.module) c.in_ok-write_name.ensures.whole c.write_accepted.ensures.begun
