use Rattle.std.proofs.Common.{subst}
use Rattle.brc_lang.specs.declared.module.Module.{Module}
use Rattle.brc_check.specs.Refusal.{IsRefusedFor}
use Rattle.brc_command.proofs.files.lines_of_text.Goals as goal

pub lines_of-requires-clause-refusal : goal.lines_of-requires-clause-refusal
lines_of-requires-clause-refusal c =
    let was = c.requires in
    subst (λ (m : Module). IsRefusedFor m.functions c.args.first.now)
    (c.one_reading.ensures.one_module c.args.bytes.now was.0 c.in-Ok.«module» was.1 c.in-Ok.ensures) was.2
