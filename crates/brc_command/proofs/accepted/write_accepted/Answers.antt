use Rattle.brc_command.proofs.Accepting.{most_instructions}
use Rattle.brc_command.proofs.accepted.write_accepted.Goals as goal

pub instruction_count-requires : goal.instruction_count-requires
instruction_count-requires g c =
    rw (c.as_slice-functions.ensures, c.module.ensures.value)
    (most_instructions c.args.checked.now.module c.module.ensures.fits)
