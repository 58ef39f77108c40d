use Rattle.std.proofs.Common.{subst}
use Rattle.brc_lang.specs.declared.module.Module.{Module}
use Rattle.brc_check.specs.Refusal.{IsRefusedFor}
use Rattle.brc_command.proofs.explaining.of_refused.Goals as goal

pub refused-requires-clause-refusal : goal.refused-requires-clause-refusal
refused-requires-clause-refusal g c =
    let was = c.requires in
    subst (λ (m : Module). IsRefusedFor m.functions c.args.refused.now)
    (c.one_reading.ensures.one_module c.args.bytes.now was.0 c.in-Ok.«module» was.1 c.in-Ok.ensures) was.2
