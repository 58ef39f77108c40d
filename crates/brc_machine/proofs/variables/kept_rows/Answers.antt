use Rattle.std.proofs.Common.{◌≡◌, ℕ, List, ap, sym, ◌∙◌, arith}
use Rattle.std.specs.Prelude.{Option, None, slice_set}
use Rattle.brc_machine.proofs.Arguments.{unstolen_all}
use Rattle.brc_machine.proofs.variables.kept_rows.Goals as goal

pub returns : goal.returns
returns c =
    let same : c.from-2.result ≡ c.args.to = search in
    rw same
    (ap (λ (rows : List (Option ℕ)). slice_set rows c.args.to None)
    (sym (unstolen_all c.loop-argument.kept c.args.arguments.now c.loop-argument.argument-index (omega arith))
    ∙ c.loop-argument.invariant))
