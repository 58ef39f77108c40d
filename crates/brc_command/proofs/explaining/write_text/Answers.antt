use Rattle.brc_command.proofs.Outputs.{begun_anyway}
use Rattle.brc_command.proofs.explaining.write_text.Goals as goal

pub returns-clause-begun : goal.returns-clause-begun
returns-clause-begun g c =
    begun_anyway c.write_bytes.result _ _ c.args.text.now c.write_bytes.ensures.whole c.write_bytes.ensures.begun
