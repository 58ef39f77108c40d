use Rattle.std.proofs.Common.{List, ℕ, ◌∷◌, suc, take, drop}
use Rattle.std.specs.List.{flat_map}
use Rattle.brc_lang.specs.declared.parameter.Argument.{Argument}
use Rattle.brc_lang.specs.Grammar.{variable}
use Rattle.brc_lang.proofs.Written.{stops_between, flat_map_around}
use Rattle.brc_lang.proofs.instruction_text.write_arguments.Goals as goal

abbrev written : Argument → List ℕ
written a = 32 ∷ variable a.from

pub returns-in_err-write_operand-clause-begun : goal.returns-in_err-write_operand-clause-begun
returns-in_err-write_operand-clause-begun g c =
    let arguments = c.args.arguments.now in
    let i = c.loop-argument.argument-index in
    stops_between _ _ _ _ _ (flat_map written (take i arguments)) (written c.argument-item.result)
    (flat_map written (drop (suc i) arguments))
    (flat_map_around written arguments i c.argument-item.result c.argument-item.result c.loop-argument-test.true
    c.argument-item.is)
    c.loop-argument.invariant c.in_err-write_operand.ensures.begun
