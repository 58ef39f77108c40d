-- The file gives a text that reads as the bytes do.
use Rattle.std.proofs.Common.{sym, subst}
use Rattle.brc_command.specs.Loading.{ReadsAsModule}
use Rattle.brc_command.proofs.GivenTexts.{module_reason}
use Rattle.brc_command.proofs.files.write_functions.Goals as goal

pub returns-clause-stopped : goal.returns-clause-stopped
returns-clause-stopped g c =
    let gives = g.L.Load.may_give c.args.load.now in
    module_reason gives (g.L.Load.may_lack c.args.load.now) c.args.file.now c.as_slice.result.now
    (subst (ReadsAsModule gives c.args.file.now) (sym c.as_slice.ensures.value) c.in_ok-bytes.ensures.loaded)
    c.in-Err.fault c.in-Err.ensures
