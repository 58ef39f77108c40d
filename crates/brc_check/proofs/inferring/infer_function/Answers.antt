use Rattle.std.proofs.Common.{◌∙◌, ap}
use Rattle.brc_check.specs.Filling.{kept_entries}
use Rattle.brc_check.proofs.States.{inferred}
use Rattle.brc_check.proofs.inferring.infer_function.Goals as goal

pub returns : goal.returns
returns c =
    inferred c.args.function.now c.fill.new.filling.entries c.in-Ok-keep.kept c.requires.some
    (rw c.in-Ok-None.field-0-is at c.in-Ok-None.ensures.filled)
    (rw c.as_slice-code.ensures at (c.in-Ok-keep.ensures ∙ ap (kept_entries c.as_slice-code.result.now)
    c.as_slice-in-Ok-None.ensures))
